-- The customer's letter, its worst day, in TCP's terms: two openings from one source address, with one right cookie and one initial sequence number, from two ports.
-- Assumes nothing.
use Rattle.std.specs.Prelude.{ℕ, ◌+◌, ◌≤◌, ◌≡◌, List, true, false, not, length, take}
use Rattle.segment.specs.Refusal.{refusal, all_clear}
use Rattle.segment.specs.Header.{fields_of, payload_of, kind_of}
use Rattle.segment.specs.declared.header.Kind.TheVariants.{Syn}
use Rattle.lists.specs.Lists.{tally}
use Rattle.endpoint.specs.Address.{block}
use Rattle.endpoint.specs.Checks.{is_untimely}
use Rattle.protocol.specs.Cookie.{carried_by, right}
use Rattle.protocol.specs.Table.{slot_count, is_live, pending_at, pending_from}
use Rattle.protocol.specs.Call.{Call, segment, sender, accepted_part}
use Rattle.protocol.specs.View.{known, view}
use Rattle.protocol.specs.Refusals.{wire_checks}
use Rattle.protocol.specs.Step.{accepts, step}
use Rattle.protocol.specs.declared.state.Listener.{Listener}
use Rattle.protocol.specs.declared.outcome.Event.TheVariants as events

-- a segment as it arrives, with our initial number and the output's length
pub record Arrival : Type 0 where
  pub time : ℕ
  pub seg : List ℕ
  pub iss : ℕ
  pub out_len : ℕ

abbrev pub call_of : List ℕ → Arrival → Call
call_of src a = segment a.time src a.seg a.iss a.out_len

-- an opening that no check before its kind refuses: the listener was started, and the time, the address, the output, shape, checksum and port are right
pub record Opens (l : Listener) (src : List ℕ) (a : Arrival) : Type 0 where
  pub clear : refusal (wire_checks l.local (is_untimely l.clock a.time) src a.seg a.out_len) ≡ all_clear
  pub syn : kind_of (fields_of a.seg).flags ≡ Syn

-- the listener that the first opening leaves
abbrev pub after_first : Listener → List ℕ → Arrival → Listener
after_first l src a = (step l (call_of src a)).listener

pub record TwoOpenings (l : Listener) (src : List ℕ) (a b : Arrival) : Type 0 where
  pub first : Opens l src a
  pub second : Opens (after_first l src a) src b
  pub one_number : (fields_of a.seg).seq ≡ (fields_of b.seg).seq
  pub one_cookie : carried_by l.settings.codings a.seg ≡ carried_by l.settings.codings b.seg
  pub right-cookie : right l.keys (block src) (carried_by l.settings.codings a.seg) ≡ true
  pub two_ports : ((fields_of a.seg).source ≡ (fields_of b.seg).source) → ⊥
  -- neither is in the table
  pub first-new : known (view l a.time (sender src a.seg)) ≡ false
  pub second-new : known (view l a.time (sender src b.seg)) ≡ false
  -- Fast Open is on, at least two of the 64 slots are free, pending + 2 is at most the limit, and the address's pending + 2 at most the
  -- share (02, Item 8; with the fresh share the limit says as much)
  pub on : l.settings.on ≡ true
  pub slots : length l.slots ≡ slot_count
  pub free : 2 ≤ tally (λ s. not (is_live a.time s.status)) l.slots
  pub below : pending_at a.time l.slots + 2 ≤ l.settings.limit
  pub spare : pending_from a.time (block src) l.slots + 2 ≤ l.settings.share

-- the bytes of a payload up to the early room
abbrev pub up_to_early_room : Listener → Arrival → ℕ
up_to_early_room l a = accepts l.settings a.seg

-- both are early, and both hand their data over up to the early room
pub record BothEarly (l : Listener) (src : List ℕ) (a b : Arrival) : Type 0 where
  pub first : (step l (call_of src a)).event ≡ events.FastOpened (up_to_early_room l a)
  pub first_part : accepted_part a.seg (step l (call_of src a)).event ≡ take (up_to_early_room l a) (payload_of a.seg)
  pub second : (step (after_first l src a) (call_of src b)).event ≡ events.FastOpened (up_to_early_room l b)
  pub second-part : accepted_part b.seg (step (after_first l src a) (call_of src b)).event ≡ take (up_to_early_room l b) (payload_of b.seg)
