-- Document 02, Item 12: how two sites differ on a record.
-- Assumes nothing.
use Rattle.std.specs.Prelude.{ℕ, suc, Bool, cond, ◌&&◌, List, [], ◌∷◌, ◌==◌, Option, None, Some}
use Rattle.lists.specs.Bytes.{same_bytes}
use Rattle.protocol.specs.Call.{number_of_event, SegmentKind, opening, reset, completion, none, kind_of_event, Verdict, early, plain, repeat, no_verdict, verdict_of}
use Rattle.protocol.specs.declared.outcome.Event.{Event}
use Rattle.comparison.specs.Account.{Judged}
use Rattle.comparison.specs.declared.difference.Kind.{Kind}
use Rattle.comparison.specs.declared.difference.Kind.TheVariants as kinds
use Rattle.comparison.specs.declared.difference.Verdict as declared
use Rattle.comparison.specs.declared.difference.Verdict.TheVariants as verdicts

-- a number for each kind and each verdict
abbrev pub kind_rank : SegmentKind → ℕ
kind_rank opening = 0
kind_rank reset = 1
kind_rank completion = 2
kind_rank none = 3

abbrev pub verdict_rank : Verdict → ℕ
verdict_rank early = 0
verdict_rank plain = 1
verdict_rank repeat = 2
verdict_rank no_verdict = 3

-- as the code has them
abbrev pub kind_named : SegmentKind → Option Kind
kind_named opening = Some kinds.Opening
kind_named reset = Some kinds.Reset
kind_named completion = Some kinds.Completion
kind_named none = None

abbrev pub verdict_named : Verdict → Option declared.Verdict
verdict_named early = Some verdicts.Early
verdict_named plain = Some verdicts.Plain
verdict_named repeat = Some verdicts.Repeat
verdict_named no_verdict = None

-- the numbers, kinds and verdicts are the same. A refused call has neither kind nor verdict, no part and no output: so two equal refusals are no difference
-- (law `equal-refusals`)
unfoldable pub same_event : Event → Event → Bool
same_event e f =
    (number_of_event e == number_of_event f)
    && (kind_rank (kind_of_event e) == kind_rank (kind_of_event f) && verdict_rank (verdict_of e) == verdict_rank (verdict_of f))

-- and the accepted parts and the answers are the same bytes
unfoldable pub same : Judged → Judged → Bool
same a b = same_event a.event b.event && (same_bytes a.part b.part && same_bytes a.output b.output)

-- the first place where two lists differ; the length of the shorter where no element does
unfoldable pub parting : List ℕ → List ℕ → ℕ
parting [] ys = 0
parting (x ∷ xs) [] = 0
parting (x ∷ xs) (y ∷ ys) = cond (x == y) (suc (parting xs ys)) 0

unfoldable pub difference_of : Judged → Judged → Option ℕ
difference_of a b = cond (same a b) None (Some (parting a.output b.output))
