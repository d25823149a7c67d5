-- The replay format (docs/REPLAY.md): what playing a line on a client's memory comes to.
-- Assumes nothing.
use Rattle.std.specs.Prelude.{ℕ, List, Option, Some, None, replicate}
use Rattle.lists.specs.Bytes.{overwrite}
use Rattle.segment.specs.Remarks.{no_remarks}
use Rattle.client.specs.declared.state.Memory.{Memory}
use Rattle.client.specs.declared.outcome.Outcome.{Outcome}
use Rattle.client.specs.declared.outcome.Started.{Started}
use Rattle.client.specs.Call.{connect, answer, failed, number_of_event}
use Rattle.client.specs.Step.{start_of, outcome, step, output_of}
use Rattle.text.specs.Play.{Playing, bad_playing, line_playing}
use Rattle.client_player.specs.Request.{Request, start, call, request_in}
use Rattle.client_player.specs.Line.{outcome_line, event_of}
use Rattle.text.specs.declared.line.Reply.TheVariants.{Number}

-- A start's outcome is that of a report.
abbrev pub start_outcome : Started → Outcome
start_outcome s = outcome s.memory (event_of s.check) 0 no_remarks

abbrev pub outcome_of : Memory → Request → Outcome
outcome_of m (start n) = start_outcome (start_of n)
outcome_of m (call c) = step m c

-- The output that a request is lent: OUT bytes of A5
abbrev pub lent_to : Request → ℕ
lent_to (start n) = 0
lent_to (call (connect t own server o offered out)) = out
lent_to (call (answer t own server a seg g)) = 0
lent_to (call (failed t server port)) = 0

-- and what is there after it; other calls write nothing
abbrev pub lent_then : Memory → Request → List ℕ → List ℕ
lent_then m (start n) lent = lent
lent_then m (call (connect t own server o offered out)) lent = overwrite (output_of m (connect t own server o offered out)) lent
lent_then m (call (answer t own server a seg g)) lent = lent
lent_then m (call (failed t server port)) lent = lent

-- an outcome's, with the output as it is after the request
abbrev pub outcome_playing : Outcome → List ℕ → Playing Memory
outcome_playing o lent = record { state = o.memory; reply = Number (number_of_event o.event); text = outcome_line o lent }

-- a request that is lent these bytes
abbrev pub playing_with : Memory → Request → List ℕ → Playing Memory
playing_with m q lent = outcome_playing (outcome_of m q) (lent_then m q lent)

abbrev pub request_playing : Memory → Option Request → Playing Memory
request_playing m None = bad_playing m
request_playing m (Some q) = playing_with m q (replicate (lent_to q) 165)

-- A line of n bytes; of one longer than is read, s is the start.
abbrev pub playing : Memory → List ℕ → ℕ → Playing Memory
playing m s n = line_playing (λ m s. request_playing m (request_in s)) m s n
