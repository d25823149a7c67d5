-- The scan at its start, one slot further, and past the table.
use Rattle.std.proofs.Common.{arith}
use Rattle.table.proofs.ScanOf.{scan_start, scan_on, scan_end}
use Rattle.table.proofs.scan.scan_table.Goals as goal

pub loop-i-init : goal.loop-i-init
loop-i-init c = scan_start _ _ _ _ (omega arith)

pub loop-i-preserved : goal.loop-i-preserved
loop-i-preserved c = scan_on _ _ _ _ c.loop-i.i c.loop-i.scan c.scan_slot-scan.result _ (omega arith) (omega arith) c.loop-i.invariant c.scan_slot-scan.ensures

pub returns : goal.returns
returns c = scan_end _ _ _ _ c.loop-i.i c.loop-i.scan (omega arith) c.loop-i.invariant
