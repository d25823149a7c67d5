-- Document 02, Item 3: a record of a capture as a segment call.
-- Assumes nothing.
use Rattle.std.specs.Prelude.{ℕ, ◌+◌, ◌*◌, ◌/◌, ◌%◌, ◌^◌, List, [], Bool, true, false, ◌&&◌, Option, None, Some, is_some}
use Rattle.segment.specs.Remarks.{no_remarks}
use Rattle.segment.specs.declared.refusal.Refusal.TheVariants.{NotStarted}
use Rattle.protocol.specs.Call.{Call, segment, accepted_part}
use Rattle.protocol.specs.Step.{outcome, step, output_of}
use Rattle.protocol.specs.declared.state.LocalEndpoint.{LocalEndpoint}
use Rattle.protocol.specs.declared.state.Listener.{Listener}
use Rattle.protocol.specs.declared.outcome.Event.{Event}
use Rattle.protocol.specs.declared.outcome.Event.TheVariants as events
use Rattle.packet.specs.Ip.{source_of, carried_to, tcp_of}
use Rattle.walk.specs.declared.feed.Fed.{Fed}

-- the time in whole ms, rounded down; microseconds of a million and more count as they stand
abbrev pub millis : ℕ → ℕ → ℕ
millis seconds micros = seconds * 1000 + micros / 1000

-- our initial number: the place, in 32 bits
abbrev pub initial_number : ℕ → ℕ
initial_number place = place % 2 ^ 32

-- the call that a record is: a segment call where its packet carries TCP to us, with so much output lent
abbrev pub called_by : LocalEndpoint → ℕ → ℕ → ℕ → List ℕ → ℕ → Option ℕ → Option Call
called_by local place seconds micros packet out_len (Some start) =
    Some (segment (millis seconds micros) (source_of local.family packet) (tcp_of packet (Some start)) (initial_number place) out_len)
called_by local place seconds micros packet out_len None = None

-- a listener that was never started has no address
abbrev pub call_if : Bool → LocalEndpoint → ℕ → ℕ → ℕ → List ℕ → ℕ → Option Call
call_if true local place seconds micros packet out_len = called_by local place seconds micros packet out_len (carried_to local.family local.own packet)
call_if false local place seconds micros packet out_len = None

unfoldable pub call_of : LocalEndpoint → ℕ → ℕ → ℕ → List ℕ → ℕ → Option Call
call_of local place seconds micros packet out_len = call_if local.started local place seconds micros packet out_len

-- a skipped record changes no listener
abbrev pub skipped_with : Listener → Event → Fed
skipped_with l e = record { is_fed = false; outcome = outcome l e 0 no_remarks }

-- and is refused only 13
abbrev pub skipped_event : Bool → Event
skipped_event true = events.Done
skipped_event false = events.Refused NotStarted

abbrev pub feed_by : Listener → Option Call → Fed
feed_by l None = skipped_with l (skipped_event l.local.started)
feed_by l (Some c) = record { is_fed = true; outcome = step l c }

-- whether a record is fed: TCP to an address that is known
unfoldable pub is_fed_to : LocalEndpoint → List ℕ → Bool
is_fed_to local packet = local.started && is_some (carried_to local.family local.own packet)

-- the accepted part of the segment in a packet that was fed, and came to this event
unfoldable pub accepted_in : LocalEndpoint → List ℕ → Event → List ℕ
accepted_in local packet e = accepted_part (tcp_of packet (carried_to local.family local.own packet)) e

-- what a record comes to
unfoldable pub feed_of : Listener → ℕ → ℕ → ℕ → List ℕ → ℕ → Fed
feed_of l place seconds micros packet out_len = feed_by l (call_of l.local place seconds micros packet out_len)

abbrev pub output_by : Listener → Option Call → List ℕ
output_by l None = []
output_by l (Some c) = output_of l c

-- and what is written
unfoldable pub feed_output : Listener → ℕ → ℕ → ℕ → List ℕ → ℕ → List ℕ
feed_output l place seconds micros packet out_len = output_by l (call_of l.local place seconds micros packet out_len)
