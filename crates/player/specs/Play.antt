-- The replay format (docs/REPLAY.md): what playing a line on a listener comes to.
-- Assumes nothing.
use Rattle.std.specs.Prelude.{ℕ, List, [], Option, Some, None, replicate}
use Rattle.lists.specs.Bytes.{overwrite}
use Rattle.protocol.specs.declared.state.Listener.{Listener}
use Rattle.protocol.specs.declared.outcome.Outcome.{Outcome}
use Rattle.protocol.specs.declared.outcome.Started.{Started}
use Rattle.segment.specs.Remarks.{no_remarks}
use Rattle.protocol.specs.Call.{segment, settings, key, abandon, resend, close, number_of_event, accepted_part}
use Rattle.protocol.specs.Step.{start_of, outcome, step, output_of}
use Rattle.text.specs.Play.{Playing, bad_playing, line_playing}
use Rattle.player.specs.Request.{Request, start, call, request_in}
use Rattle.player.specs.Line.{outcome_line, event_of}
use Rattle.text.specs.declared.line.Reply.TheVariants.{Number}

-- A start's outcome is that of any other call that is no segment.
abbrev pub start_outcome : Started → Outcome
start_outcome s = outcome s.listener (event_of s.check) 0 no_remarks

abbrev pub outcome_of : Listener → Request → Outcome
outcome_of l (start own port k) = start_outcome (start_of own port k)
outcome_of l (call c) = step l c

-- The output that a request is lent: OUT bytes of A5
abbrev pub lent_to : Request → ℕ
lent_to (start own port k) = 0
lent_to (call (segment t src seg iss out)) = out
lent_to (call (settings t g)) = 0
lent_to (call (key t k)) = 0
lent_to (call (abandon t a p)) = 0
lent_to (call (resend t a p out)) = out
lent_to (call (close t a p)) = 0

-- and what is there after it; other calls write nothing
abbrev pub lent_then : Listener → Request → List ℕ → List ℕ
lent_then l (start own port k) lent = lent
lent_then l (call (segment t src seg iss out)) lent = overwrite (output_of l (segment t src seg iss out)) lent
lent_then l (call (settings t g)) lent = lent
lent_then l (call (key t k)) lent = lent
lent_then l (call (abandon t a p)) lent = lent
lent_then l (call (resend t a p out)) lent = overwrite (output_of l (resend t a p out)) lent
lent_then l (call (close t a p)) lent = lent

-- the segment that a request brings, of which PART is the accepted part
abbrev pub brought_by : Request → List ℕ
brought_by (start own port k) = []
brought_by (call (segment t src seg iss out)) = seg
brought_by (call (settings t g)) = []
brought_by (call (key t k)) = []
brought_by (call (abandon t a p)) = []
brought_by (call (resend t a p out)) = []
brought_by (call (close t a p)) = []

-- an outcome's, with the output as it is after the request
abbrev pub outcome_playing : Outcome → List ℕ → List ℕ → Playing Listener
outcome_playing o lent seg =
    record {
      state = o.listener;
      reply = Number (number_of_event o.event);
      text = outcome_line o lent (accepted_part seg o.event);
    }

-- a request that is lent these bytes
abbrev pub playing_with : Listener → Request → List ℕ → Playing Listener
playing_with l q lent = outcome_playing (outcome_of l q) (lent_then l q lent) (brought_by q)

abbrev pub request_playing : Listener → Option Request → Playing Listener
request_playing l None = bad_playing l
request_playing l (Some q) = playing_with l q (replicate (lent_to q) 165)

-- A line of n bytes; of one longer than is read, s is the start.
abbrev pub playing : Listener → List ℕ → ℕ → Playing Listener
playing l s n = line_playing (λ l s. request_playing l (request_in s)) l s n
