-- From here on the reading goes on with what is found and remarked so far; and no more are skipped than bytes were passed.
use Rattle.std.proofs.Common.{◌≡◌, ◌-◌, ◌≤◌, length}
use Rattle.segment.specs.Options.{with_option, stands, read_options}
use Rattle.segment.specs.Remarks.{with_remark, broken_at, remarks_in}
use Rattle.segment.specs.RemarkSamples.{Agrees}
use Rattle.segment.proofs.ReadFrom.{read_at}
use Rattle.segment.proofs.options.read_options.Given as goal

abbrev pub invariant-loop-at : goal.invariant-loop-at
invariant-loop-at l = record {
  passed : l.at ≤ length l.area;
  skipped : l.found.remarks.skipped ≤ l.at;
  agrees : Agrees l.found.options.fast l.found.remarks.used;
  found : read_at (with_option l.codings l.area) stands l.area l.at l.found.options ≡ read_options l.codings l.area;
  remarked : read_at (with_remark l.codings l.area) broken_at l.area l.at l.found.remarks ≡ remarks_in l.codings l.area;
}

abbrev pub decreases-loop-at : goal.decreases-loop-at
decreases-loop-at l = length l.area - l.at
