-- The status, then the name.
use Rattle.std.proofs.Common.{sym, ◌∙◌}
use Rattle.table.proofs.ScanOf.{scan_free, scan_other, scan_peer}
use Rattle.table.proofs.scan.scan_slot.Goals as goal

pub returns-then-not-is_live : goal.returns-then-not-is_live
returns-then-not-is_live c = c.with_free.ensures ∙ scan_free _ _ _ _ _ _ (sym c.is_live.ensures ∙ c.if-not-is_live.true)

pub returns-then-same_name : goal.returns-then-same_name
returns-then-same_name c =
    c.with_place.ensures
    ∙ scan_peer _ _ _ _ _ _ (sym c.is_live.ensures ∙ c.if-not-is_live.false) c.is_pending.ensures c.with_pending-counted.ensures (sym c.same_name.ensures ∙ c.if-same_name.true)

pub returns : goal.returns
returns c =
    scan_other _ _ _ _ _ _ (sym c.is_live.ensures ∙ c.if-not-is_live.false) c.is_pending.ensures c.with_pending-counted.ensures (sym c.same_name.ensures ∙ c.if-same_name.false)
