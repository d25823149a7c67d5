-- A run of 65536 bytes, an even number, or the last one.
use Rattle.std.proofs.Common.{◌≡◌, ℕ, ◌+◌, min, List, [], ◌∷◌, ◌++◌, length, sym, ap, ◌∙◌, refl, append-nil, length-append, arith}
use Rattle.std.specs.Slice.Iter.{chunks_rest}
use Rattle.segment.specs.Checksum.{ones_sum}
use Rattle.segment.proofs.Total.{sum-append}
use Rattle.segment.proofs.checksum.add_bytes.Goals as goal

goes_on : (acc : ℕ) (s run rest : List ℕ) → s ≡ run ++ rest → length run ≡ min 65536 (length s) → ones_sum (ones_sum acc run) rest ≡ ones_sum acc s
unfolding ones_sum
goes_on acc s run [] e h = ap (ones_sum acc) (sym (e ∙ append-nil run))
goes_on acc s run (x ∷ rest) e h =
    let n : length s ≡ length run + (length rest + 1) = ap length e ∙ (omega (arith, length-append run (x ∷ rest))) in
    rw e (sym (sum-append acc run (x ∷ rest) (omega arith)))

pub loop-run-preserved : goal.loop-run-preserved
loop-run-preserved c =
    let q = c.loop-run in
    let steps = c.in-Some.ensures.steps in
    record {
      size = steps.0 ∙ q.invariant.size;
      same = rw c.add_run-acc.ensures (goes_on q.acc (chunks_rest q.run-iterator) _ _ steps.1.0 (rw q.invariant.size at steps.1.1) ∙ q.invariant.same);
    }

none_left : (acc : ℕ) (s : List ℕ) → length s ≡ 0 → acc ≡ ones_sum acc s
unfolding ones_sum
none_left acc [] e = refl
none_left acc (x ∷ rest) e = absurd (omega arith)

pub returns : goal.returns
returns c = none_left c.loop-run.acc (chunks_rest c.loop-run.run-iterator) c.in-None.ensures.steps.1.0 ∙ c.loop-run.invariant.same
