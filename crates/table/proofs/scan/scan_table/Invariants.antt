-- What is known when the scan has come to a place.
use Rattle.table.proofs.ScanOf.{ScannedTo}
use Rattle.table.proofs.scan.scan_table.Given as goal

abbrev pub invariant-loop-i : goal.invariant-loop-i
invariant-loop-i l = ScannedTo l.time l.b l.port l.slots l.i l.scan
