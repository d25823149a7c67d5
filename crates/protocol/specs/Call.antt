-- Document 01, "Listener", and document 02, Item 8 (the fresh share): the calls that carry a time, and what an event is in 01's words.
-- Assumes nothing.
use Rattle.std.specs.Prelude.{ℕ, List, [], cond, ltb, length, take}
use Rattle.segment.specs.Refusal.{number_of}
use Rattle.segment.specs.Header.{payload_of, fields_of}
use Rattle.segment.specs.declared.header.Kind.{Kind}
use Rattle.segment.specs.declared.header.Kind.TheVariants.{Syn, Rst, Ack, Other}
use Rattle.endpoint.specs.Address.{Peer}
use Rattle.protocol.specs.declared.state.Settings.{Settings}
use Rattle.protocol.specs.declared.outcome.Event.{Event}
use Rattle.protocol.specs.declared.outcome.Event.TheVariants.{Refused, FastOpened, Regular, Retransmission, Completed, WasReset, Done}

-- own MSS, and the share of an address (02, Item 8), until a settings call
abbrev pub fresh_mss : ℕ
fresh_mss = 536

abbrev pub fresh_share : ℕ
fresh_share = 64

-- A call with its arguments, the time first. A segment has its source address, its bytes, our initial number and the output's length; a call by name has an
-- address and a port, and a resend the output's length too.
pub data Call : Type 0 where
  segment : ℕ → List ℕ → List ℕ → ℕ → ℕ → Call
  settings : ℕ → Settings → Call
  key : ℕ → List ℕ → Call
  abandon : ℕ → List ℕ → ℕ → Call
  resend : ℕ → List ℕ → ℕ → ℕ → Call
  close : ℕ → List ℕ → ℕ → Call

-- the time that a call carries
abbrev pub time_of : Call → ℕ
time_of (segment t src seg iss out_len) = t
time_of (settings t g) = t
time_of (key t k) = t
time_of (abandon t a p) = t
time_of (resend t a p out_len) = t
time_of (close t a p) = t

-- the name of a segment's connection
abbrev pub sender : List ℕ → List ℕ → Peer
sender src seg = record { address = src; port = (fields_of seg).source }

-- the connection that a call is about; settings and keys are about none
abbrev pub peer_of : Call → Peer
peer_of (segment t src seg iss out_len) = sender src seg
peer_of (settings t g) = record { address = []; port = 0 }
peer_of (key t k) = record { address = []; port = 0 }
peer_of (abandon t a p) = record { address = a; port = p }
peer_of (resend t a p out_len) = record { address = a; port = p }
peer_of (close t a p) = record { address = a; port = p }

-- An event in 01's words.

-- the number; 0 is done
abbrev pub number_of_event : Event → ℕ
number_of_event (Refused r) = number_of r
number_of_event (FastOpened n) = 0
number_of_event Regular = 0
number_of_event Retransmission = 0
number_of_event Completed = 0
number_of_event WasReset = 0
number_of_event Done = 0

-- the kind of a done segment
pub data SegmentKind : Type 0 where
  opening reset completion none : SegmentKind

-- 01's word for a kind
abbrev pub word_of : Kind → SegmentKind
word_of Syn = opening
word_of Ack = completion
word_of Rst = reset
word_of Other = none

abbrev pub kind_of_event : Event → SegmentKind
kind_of_event (Refused r) = none
kind_of_event (FastOpened n) = opening
kind_of_event Regular = opening
kind_of_event Retransmission = opening
kind_of_event Completed = completion
kind_of_event WasReset = reset
kind_of_event Done = none

-- the verdict of a done opening
pub data Verdict : Type 0 where
  early plain repeat no_verdict : Verdict

abbrev pub verdict_of : Event → Verdict
verdict_of (Refused r) = no_verdict
verdict_of (FastOpened n) = early
verdict_of Regular = plain
verdict_of Retransmission = repeat
verdict_of Completed = no_verdict
verdict_of WasReset = no_verdict
verdict_of Done = no_verdict

-- the accepted count
abbrev pub accepted_of : Event → ℕ
accepted_of (Refused r) = 0
accepted_of (FastOpened n) = n
accepted_of Regular = 0
accepted_of Retransmission = 0
accepted_of Completed = 0
accepted_of WasReset = 0
accepted_of Done = 0

-- The accepted part of a segment by its event: empty where the payload is shorter than the count. (A segment that is refused 1 has no payload.)
unfoldable pub accepted_part : List ℕ → Event → List ℕ
accepted_part seg e = cond (ltb (length (payload_of seg)) (accepted_of e)) [] (take (accepted_of e) (payload_of seg))
