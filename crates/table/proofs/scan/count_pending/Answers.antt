-- As std counts them.
use Rattle.std.proofs.Common.{◌≡◌, ◌∙◌, rules}
use Rattle.std.specs.List.{count_by}
use Rattle.protocol.specs.Table.{is_pending}
use Rattle.protocol.specs.declared.slots.Slot.{Slot}
use Rattle.table.proofs.ScanOf.{counted}
use Rattle.table.proofs.scan.count_pending.Goals as goal

pub returns : goal.returns
returns c =
    let n : c.count.result ≡ count_by (λ (s : Slot). is_pending c.args.time s.status) c.args.slots.now = search rules in
    n ∙ counted _ _
