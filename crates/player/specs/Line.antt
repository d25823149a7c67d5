-- The replay format (docs/REPLAY.md), "Lines out", of `replay`. What an event is in 01's words is the listener's.
-- Assumes nothing.
use Rattle.std.specs.Prelude.{ℕ, Bool, List, [], ◌∷◌, ◌++◌, length, take, Err, Ok}
use Rattle.segment.specs.Refusal.{Check}
use Rattle.protocol.specs.declared.outcome.Event.{Event}
use Rattle.protocol.specs.declared.outcome.Event.TheVariants.{Refused, Done}
use Rattle.protocol.specs.Call.{number_of_event, accepted_of, SegmentKind, opening, reset, completion, none, kind_of_event, Verdict, early, plain, repeat, no_verdict, verdict_of}
use Rattle.text.specs.Number.{decimal}
use Rattle.text.specs.ByteString.{hex_word}
use Rattle.text.specs.Output.{is_kept}
use Rattle.text.specs.Put.{field, fields, end_words}
use Rattle.protocol.specs.declared.outcome.Outcome.{Outcome}
use Rattle.segment.specs.declared.options.Remarks.{Remarks}
use Rattle.protocol.specs.Step.{pending_number}

-- `opening`, `reset`, `completion` or `-`
abbrev pub kind_word : SegmentKind → List ℕ
kind_word opening = 111 ∷ 112 ∷ 101 ∷ 110 ∷ 105 ∷ 110 ∷ 103 ∷ []
kind_word reset = 114 ∷ 101 ∷ 115 ∷ 101 ∷ 116 ∷ []
kind_word completion = 99 ∷ 111 ∷ 109 ∷ 112 ∷ 108 ∷ 101 ∷ 116 ∷ 105 ∷ 111 ∷ 110 ∷ []
kind_word none = 45 ∷ []

-- `early`, `plain`, `repeat` or `-`
abbrev pub verdict_word : Verdict → List ℕ
verdict_word early = 101 ∷ 97 ∷ 114 ∷ 108 ∷ 121 ∷ []
verdict_word plain = 112 ∷ 108 ∷ 97 ∷ 105 ∷ 110 ∷ []
verdict_word repeat = 114 ∷ 101 ∷ 112 ∷ 101 ∷ 97 ∷ 116 ∷ []
verdict_word no_verdict = 45 ∷ []

-- the first words, by the event alone: NUMBER KIND VERDICT ACCEPTED
unfoldable pub event_fields : Event → List ℕ
event_fields event = field (decimal (number_of_event event)) ++ field (kind_word (kind_of_event event)) ++ field (verdict_word (verdict_of event)) ++ field (decimal (accepted_of event))

-- NUMBER KIND VERDICT ACCEPTED WRITTEN PENDING OUTPUT PART REST SKIPPED USED BROKEN
unfoldable pub line_of : Event → ℕ → List ℕ → List ℕ → Bool → Remarks → List ℕ
line_of event pending written part kept remarks =
    fields
    (decimal (number_of_event event)
    ∷ kind_word (kind_of_event event)
    ∷ verdict_word (verdict_of event)
    ∷ decimal (accepted_of event)
    ∷ decimal (length written)
    ∷ decimal pending
    ∷ hex_word written
    ∷ hex_word part
    ∷ end_words kept remarks.skipped remarks.used remarks.broken)

-- what a call came to: PENDING is the pending number after it, OUTPUT the bytes written to the lent output, and REST tells of the others
unfoldable pub outcome_line : Outcome → List ℕ → List ℕ → List ℕ
outcome_line o lent part = line_of o.event (pending_number o.listener) (take o.written lent) part (is_kept o.written lent) o.remarks

-- a start prints like any other call that is no segment
abbrev pub event_of : Check → Event
event_of (Ok _) = Done
event_of (Err why) = Refused why
