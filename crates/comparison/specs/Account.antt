-- Document 02, Item 12: what a site makes of its capture: each fed record's event, accepted part and answer, in order, and how the capture ends.
-- Assumes nothing.
use Rattle.std.specs.Prelude.{ℕ, List, [], ◌∷◌}
use Rattle.segment.specs.Refusal.{Check}
use Rattle.protocol.specs.Call.{Call, accepted_part}
use Rattle.protocol.specs.Step.{step, output_of}
use Rattle.protocol.specs.Demand3.{segment_of}
use Rattle.protocol.specs.declared.state.Listener.{Listener}
use Rattle.protocol.specs.declared.outcome.Event.{Event}
use Rattle.pcap.specs.Records.{capture}
use Rattle.walk.specs.Walk.{calls_of}

-- what a fed record came to: the event, the bytes of early data that were accepted, and the segment that was written
pub record Judged : Type 0 where
  pub event : Event
  pub part : List ℕ
  pub output : List ℕ

abbrev pub judged_as : Event → List ℕ → List ℕ → Judged
judged_as e part output = record { event = e; part = part; output = output }

abbrev pub judged_by : Listener → Call → Judged
judged_by l c = judged_as (step l c).event (accepted_part (segment_of c) (step l c).event) (output_of l c)

-- of each call, on the listener that the one before it left
unfoldable pub judged : Listener → List Call → List Judged
judged l [] = []
judged l (c ∷ cs) = judged_by l c ∷ judged (step l c).listener cs

-- how many bytes of output are lent to a call: an answer has at most 36, so 11 does not come up
abbrev pub lent : ℕ
lent = 64

-- the answers to the fed records, and 14, 15 or none
pub record Account : Type 0 where
  pub answers : List Judged
  pub end : Check

-- of a whole capture: places, and so the initial numbers, count from 0
unfoldable pub account_of : Listener → List ℕ → Account
account_of l s = record { answers = judged l (calls_of l.local 0 (capture s).records lent); end = (capture s).check }
