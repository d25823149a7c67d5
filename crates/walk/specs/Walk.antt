-- Document 02, Item 3: a walk over the records of a capture, and the list of calls that demand 3 has of it.
-- Assumes nothing.
use Rattle.std.specs.Prelude.{ℕ, ◌+◌, ◌≡◌, Bool, true, false, length, Option, None, Some}
use mathlib.Core.List.{List, [], ◌∷◌, ◌++◌, flatten}
use Rattle.protocol.specs.Call.{Call}
use Rattle.protocol.specs.Step.{start_of, step, output_of}
use Rattle.protocol.specs.Demand3.{listener_after, Demand3}
use Rattle.protocol.specs.declared.state.LocalEndpoint.{LocalEndpoint}
use Rattle.protocol.specs.declared.state.Listener.{Listener}
use Rattle.protocol.specs.declared.outcome.Outcome.{Outcome}
use Rattle.pcap.specs.Records.{Recorded, capture}
use Rattle.pcap.specs.Walker.{fresh, fed}
use Rattle.walk.specs.Feed.{call_of, feed_of, feed_output}

-- what happened: a record was fed or skipped, with its outcome and the bytes that were written
pub record Happening : Type 0 where
  pub fed : Bool
  pub outcome : Outcome
  pub output : List ℕ

-- of the record at a place
abbrev pub happening : Listener → ℕ → Recorded → ℕ → Happening
happening l place r out_len =
    record {
      fed = (feed_of l place r.seconds r.micros r.packet out_len).is_fed;
      outcome = (feed_of l place r.seconds r.micros r.packet out_len).outcome;
      output = feed_output l place r.seconds r.micros r.packet out_len;
    }

-- of each record from a place on, on the listener that the one before it left, with so much output lent
unfoldable pub walked : Listener → ℕ → List Recorded → ℕ → List Happening
walked l place [] out_len = []
walked l place (r ∷ rs) out_len = let h = happening l place r out_len in h ∷ walked h.outcome.listener (place + 1) rs out_len

-- the listener then
unfoldable pub walked_listener : Listener → ℕ → List Recorded → ℕ → Listener
walked_listener l place [] out_len = l
walked_listener l place (r ∷ rs) out_len = walked_listener (happening l place r out_len).outcome.listener (place + 1) rs out_len

-- the calls of the fed records: places count skipped ones too
abbrev pub before : Option Call → List Call → List Call
before None cs = cs
before (Some c) cs = c ∷ cs

unfoldable pub calls_of : LocalEndpoint → ℕ → List Recorded → ℕ → List Call
calls_of local place [] out_len = []
calls_of local place (r ∷ rs) out_len = before (call_of local place r.seconds r.micros r.packet out_len) (calls_of local (place + 1) rs out_len)

-- a call's answer: its outcome and what it wrote
pub record Answer : Type 0 where
  pub outcome : Outcome
  pub output : List ℕ

unfoldable pub answers : Listener → List Call → List Answer
answers l [] = []
answers l (c ∷ cs) = record { outcome = step l c; output = output_of l c } ∷ answers (step l c).listener cs

-- the answers of the fed records
abbrev pub answer_if : Bool → Answer → List Answer → List Answer
answer_if true a later = a ∷ later
answer_if false a later = later

unfoldable pub answers_of : List Happening → List Answer
answers_of [] = []
answers_of (h ∷ hs) = answer_if h.fed (record { outcome = h.outcome; output = h.output }) (answers_of hs)

-- A walk leaves the listener that the list of its calls leaves, with their answers.
pub record WalkIsCalls (l : Listener) (place : ℕ) (rs : List Recorded) (out_len : ℕ) : Type 0 where
  pub listener : walked_listener l place rs out_len ≡ listener_after l (calls_of l.local place rs out_len)
  pub answered : answers_of (walked l place rs out_len) ≡ answers l (calls_of l.local place rs out_len)

-- So demand 3 holds of it, after a start and any calls: this is the listener, and these are its calls.
pub record WalkDemand3 (own : List ℕ) (port : ℕ) (k : List ℕ) (calls : List Call) (place : ℕ) (rs : List Recorded) (out_len : ℕ) : Type 0 where
  pub listener : walked_listener (listener_after (start_of own port k).listener calls) place rs out_len
      ≡ listener_after (start_of own port k).listener (calls ++ calls_of (start_of own port k).listener.local place rs out_len)
  pub answered : answers_of (walked (listener_after (start_of own port k).listener calls) place rs out_len)
      ≡ answers (listener_after (start_of own port k).listener calls) (calls_of (start_of own port k).listener.local place rs out_len)
  pub demand3 : Demand3 own port k (calls ++ calls_of (start_of own port k).listener.local place rs out_len)

-- Places run on, with skipped records counted: a walk over some records and then others is the walk over the first, and that over the others from the place
-- behind them, on the listener that the first left.
pub record LaterRecords (l : Listener) (place : ℕ) (rs later : List Recorded) (out_len : ℕ) : Type 0 where
  pub happenings : walked l place (rs ++ later) out_len
      ≡ walked l place rs out_len ++ walked (walked_listener l place rs out_len) (place + length rs) later out_len
  pub listener : walked_listener l place (rs ++ later) out_len ≡ walked_listener (walked_listener l place rs out_len) (place + length rs) later out_len
  pub calls : calls_of l.local place (rs ++ later) out_len ≡ calls_of l.local place rs out_len ++ calls_of l.local (place + length rs) later out_len

-- And a capture that comes in pieces is walked as the whole is.
abbrev pub SameInPieces : Listener → List (List ℕ) → ℕ → Type 0
SameInPieces l pieces out_len =
    (walked l 0 (fed fresh [] pieces).records out_len ≡ walked l 0 (capture (flatten pieces)).records out_len)
    × (walked_listener l 0 (fed fresh [] pieces).records out_len ≡ walked_listener l 0 (capture (flatten pieces)).records out_len)
