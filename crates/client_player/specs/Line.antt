-- The replay format (docs/REPLAY.md), "Lines out", of `client_replay`. What an event is in 01's words is the client's.
-- Assumes nothing.
use Rattle.std.specs.Prelude.{ℕ, Bool, List, ◌∷◌, length, take, Err, Ok}
use Rattle.segment.specs.Refusal.{Check}
use Rattle.client.specs.declared.outcome.Event.{Event}
use Rattle.client.specs.declared.outcome.Event.TheVariants.{Refused, Reported}
use Rattle.client.specs.Call.{number_of_event, count_of}
use Rattle.text.specs.Number.{decimal}
use Rattle.text.specs.ByteString.{hex_word}
use Rattle.text.specs.Output.{is_kept}
use Rattle.text.specs.Put.{fields, end_words}
use Rattle.client.specs.declared.outcome.Outcome.{Outcome}
use Rattle.segment.specs.declared.options.Remarks.{Remarks}

-- NUMBER COUNT WRITTEN OUTPUT REST SKIPPED USED BROKEN
unfoldable pub line_of : Event → List ℕ → Bool → Remarks → List ℕ
line_of event written kept remarks =
    fields
    (decimal (number_of_event event)
    ∷ decimal (count_of event)
    ∷ decimal (length written)
    ∷ hex_word written
    ∷ end_words kept remarks.skipped remarks.used remarks.broken)

-- what a call came to: OUTPUT is the bytes written to the lent output, and REST tells of the others
unfoldable pub outcome_line : Outcome → List ℕ → List ℕ
outcome_line o lent = line_of o.event (take o.written lent) (is_kept o.written lent) o.remarks

-- a start prints like a report
abbrev pub event_of : Check → Event
event_of (Ok _) = Reported
event_of (Err why) = Refused why
