-- As std counts them.
use Rattle.std.proofs.Common.{◌≡◌, ◌∙◌, rules}
use Rattle.std.specs.List.{count_by}
use Rattle.protocol.specs.Table.{pends_from}
use Rattle.table.proofs.ScanOf.{counted}
use Rattle.table.proofs.scan.count_pending_from.Goals as goal

pub returns : goal.returns
returns c =
    let n : c.count.result ≡ count_by (pends_from c.args.time c.args.b) c.args.slots.now = search rules in
    n ∙ counted _ _
