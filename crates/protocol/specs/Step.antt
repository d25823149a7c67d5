-- Document 01, "Listener", and document 02, Items 4, 7 and 8: the start, and one call on a listener with its outcome: the listener next, what happened, what is written and what is remarked.
-- Assumes nothing.
use Rattle.std.specs.Prelude.{ℕ, ◌+◌, min, List, [], ◌∷◌, Bool, true, false, cond, not, ◌&&◌, length, replicate, set, Err, Ok, None, Some}
use Rattle.cipher.specs.KeyExpansion.{key_expansion}
use Rattle.segment.specs.Refusal.{Checks, refusal, Check, all_clear}
use Rattle.segment.specs.Header.{fields_of, payload_of, kind_of}
use Rattle.segment.specs.Options.{options_of, coding_of}
use Rattle.segment.specs.Remarks.{no_remarks, remarks_of}
use Rattle.segment.specs.Write.{syn_ack_bytes}
use Rattle.segment.specs.declared.refusal.Refusal.TheVariants.{Address, Range}
use Rattle.segment.specs.declared.header.Header.{Header}
use Rattle.segment.specs.declared.header.Kind.{Kind}
use Rattle.segment.specs.declared.header.Kind.TheVariants.{Syn, Rst, Ack, Other}
use Rattle.segment.specs.declared.options.Coding.{Coding}
use Rattle.segment.specs.declared.options.Coding.TheVariants.{New}
use Rattle.segment.specs.declared.options.Codings.TheVariants.{NewOnly}
use Rattle.segment.specs.declared.options.Remarks.{Remarks}
use Rattle.segment.specs.declared.write.SynAck.{SynAck}
use Rattle.endpoint.specs.Address.{Peer, is_size, family_of, block}
use Rattle.endpoint.specs.declared.address.Family.TheVariants.{V4}
use Rattle.protocol.specs.Cookie.{Carried, carried_by, counts, cookie_under, right_under, right}
use Rattle.protocol.specs.Table.{slot_count, accepted_with, after_reset, free_slot, new_slot, with_status, pending_at, Scan}
use Rattle.protocol.specs.Call.{fresh_mss, fresh_share, Call, segment, settings, key, abandon, resend, close, sender}
use Rattle.protocol.specs.View.{known, own_address, scan_for, view, view_of}
use Rattle.protocol.specs.Refusals.{is_key, call_check}
use Rattle.protocol.specs.declared.slots.Status.{Status}
use Rattle.protocol.specs.declared.slots.Status.TheVariants.{Free, SynReceived, SynReceivedEarly, Established}
use Rattle.protocol.specs.declared.slots.Slot.{Slot}
use Rattle.protocol.specs.declared.state.Settings.{Settings}
use Rattle.protocol.specs.declared.state.StoredSettings.{StoredSettings}
use Rattle.protocol.specs.declared.state.Keys.{Keys}
use Rattle.protocol.specs.declared.state.LocalEndpoint.{LocalEndpoint}
use Rattle.protocol.specs.declared.state.View.{View}
use Rattle.protocol.specs.declared.state.Listener.{Listener}
use Rattle.protocol.specs.declared.outcome.Event.{Event}
use Rattle.protocol.specs.declared.outcome.Event.TheVariants as events
use Rattle.protocol.specs.declared.outcome.Outcome.{Outcome}
use Rattle.protocol.specs.declared.outcome.Started.{Started}

-- The start

-- "Fresh state": Fast Open off, limit, early room and hold 0, own MSS 536, the new coding alone, share 64
abbrev pub fresh_settings : StoredSettings
fresh_settings = record { on = false; limit = 0; early_room = 0; hold = 0; mss = fresh_mss; codings = NewOnly; share = fresh_share }

-- a listener with no connection, at time 0
abbrev pub blank : LocalEndpoint → Keys → Listener
blank local k = record { slots = replicate slot_count free_slot; keys = k; local = local; settings = fresh_settings; clock = 0 }

-- one that was never started: every call on it returns 13
abbrev pub never_started : Listener
never_started =
    blank (record { started = false; family = V4; own = replicate 16 0; port = 0 })
    (record { present = replicate 176 0; previous = None })

abbrev pub fresh_listener : List ℕ → ℕ → List ℕ → Listener
fresh_listener own port k =
    blank (record { started = true; family = family_of (length own); own = block own; port = port })
    (record { present = key_expansion k; previous = None })

-- 2: not 4 or 16 bytes. 12: not a key
abbrev pub start_checks : List ℕ → List ℕ → Checks
start_checks own k = (Address, not (is_size (length own))) ∷ (Range, not (is_key k)) ∷ []

abbrev pub started_by : List ℕ → ℕ → List ℕ → Check → Started
started_by own port k (Ok _) = record { listener = fresh_listener own port k; check = all_clear }
started_by own port k (Err r) = record { listener = never_started; check = Err r }

unfoldable pub start_of : List ℕ → ℕ → List ℕ → Started
start_of own port k = started_by own port k (refusal (start_checks own k))

-- An opening

-- cookies are taken and given: Fast Open is on, pending is below the limit, and the address's own below the share
abbrev pub cookies_enabled : View → Bool
cookies_enabled v = v.settings.on && (v.below && v.spare)

-- the option of a segment that counts, under the settings in force
abbrev pub carried_at : View → List ℕ → Carried
carried_at v seg = carried_by v.settings.codings seg

-- a new opening, from the address with this block, is early
unfoldable pub is_early : View → List ℕ → List ℕ → Bool
is_early v b seg = cookies_enabled v && right v.keys b (carried_at v seg)

-- a new opening's SYN-ACK has a fresh cookie
unfoldable pub is_fresh : View → List ℕ → List ℕ → Bool
is_fresh v b seg = cookies_enabled v && (counts (carried_at v seg) && not (right_under v.keys.present b (carried_at v seg)))

-- the accepted bytes of an early one: the smaller of payload and early room
abbrev pub accepts : StoredSettings → List ℕ → ℕ
accepts g seg = min (length (payload_of seg)) g.early_room

abbrev pub new_event : Bool → ℕ → Event
new_event true n = events.FastOpened n
new_event false n = events.Regular

-- for the laws and the code: the status of its slot
abbrev pub new_status : Bool → ℕ → Status
new_status true n = SynReceivedEarly n
new_status false n = SynReceived

abbrev pub opening_event : Bool → View → List ℕ → List ℕ → Event
opening_event true v b seg = events.Retransmission
opening_event false v b seg = new_event (is_early v b seg) (accepts v.settings seg)

-- The event of a done call

abbrev pub segment_event : View → List ℕ → List ℕ → Kind → Event
segment_event v b seg Syn = opening_event (known v) v b seg
segment_event v b seg Ack = events.Completed
segment_event v b seg Rst = events.WasReset
segment_event v b seg Other = events.Done

abbrev pub done_event : View → Call → Event
done_event v (segment t src seg iss out_len) = segment_event v (block src) seg (kind_of (fields_of seg).flags)
done_event v (settings t g) = events.Done
done_event v (key t k) = events.Done
done_event v (abandon t a p) = events.Done
done_event v (resend t a p out_len) = events.Done
done_event v (close t a p) = events.Done

-- when the hold of a reset at a time ends
abbrev pub held_until : View → ℕ → ℕ
held_until v t = t + v.settings.hold

-- the connection's slot after a done segment, where a hold would last until an end
abbrev pub slot_after : View → ℕ → List ℕ → Header → ℕ → Event → Slot
slot_after v end b h iss (events.FastOpened n) = new_slot b h.source h.seq iss (SynReceivedEarly n)
slot_after v end b h iss events.Regular = new_slot b h.source h.seq iss SynReceived
slot_after v end b h iss events.Retransmission = v.slot
slot_after v end b h iss events.Completed = with_status v.slot Established
slot_after v end b h iss events.WasReset = with_status v.slot (after_reset end v.slot.status)
slot_after v end b h iss events.Done = v.slot
slot_after v end b h iss (events.Refused r) = v.slot

-- What is written

-- "Answer", from a slot, with the MSS now set
abbrev pub syn_ack_from : LocalEndpoint → ℕ → Slot → Bool → Coding → SynAck
syn_ack_from local mss s fresh coding =
    record { source = local.port; dest = s.port; iss = s.iss; irs = s.irs; accepted = accepted_with s.status; mss = mss; fresh = fresh; coding = coding }

-- to an address, in an output of this length; a fresh cookie is the one under the present key
abbrev pub syn_ack_to : View → List ℕ → Slot → Bool → Coding → ℕ → List ℕ
syn_ack_to v a s fresh coding out_len =
    syn_ack_bytes (own_address v.local) a (syn_ack_from v.local v.settings.mss s fresh coding) (cookie_under v.keys.present (block a)) out_len

-- openings are answered by a SYN-ACK
abbrev pub writes_syn_ack : Event → Bool
writes_syn_ack (events.FastOpened n) = true
writes_syn_ack events.Regular = true
writes_syn_ack events.Retransmission = true
writes_syn_ack events.Completed = false
writes_syn_ack events.WasReset = false
writes_syn_ack events.Done = false
writes_syn_ack (events.Refused r) = false

-- a new one's SYN-ACK may have a fresh cookie, a repeat's has none
abbrev pub fresh_with : View → List ℕ → List ℕ → Event → Bool
fresh_with v b seg (events.FastOpened n) = is_fresh v b seg
fresh_with v b seg events.Regular = is_fresh v b seg
fresh_with v b seg events.Retransmission = false
fresh_with v b seg events.Completed = false
fresh_with v b seg events.WasReset = false
fresh_with v b seg events.Done = false
fresh_with v b seg (events.Refused r) = false

-- in the coding of the opening's option
abbrev pub coding_for : View → List ℕ → Coding
coding_for v seg = coding_of (options_of v.settings.codings seg).fast

abbrev pub segment_output : View → ℕ → List ℕ → List ℕ → ℕ → ℕ → Event → List ℕ
segment_output v t src seg iss out_len e =
    cond (writes_syn_ack e) (syn_ack_to v src (slot_after v (held_until v t) (block src) (fields_of seg) iss e) (fresh_with v (block src) seg e) (coding_for v seg) out_len) []

abbrev pub done_output : View → Call → List ℕ
done_output v (segment t src seg iss out_len) = segment_output v t src seg iss out_len (done_event v (segment t src seg iss out_len))
done_output v (settings t g) = []
done_output v (key t k) = []
done_output v (abandon t a p) = []
done_output v (resend t a p out_len) = syn_ack_to v a v.slot false New out_len
done_output v (close t a p) = []

-- What is remarked on a segment's options, under the settings in force (02, Item 7)

abbrev pub done_remarks : View → Call → Remarks
done_remarks v (segment t src seg iss out_len) = remarks_of v.settings.codings seg
done_remarks v (settings t g) = no_remarks
done_remarks v (key t k) = no_remarks
done_remarks v (abandon t a p) = no_remarks
done_remarks v (resend t a p out_len) = no_remarks
done_remarks v (close t a p) = no_remarks

-- The listener after a done call

-- at a time, with other slots
abbrev pub moved : Listener → ℕ → List Slot → Listener
moved l t slots = record { slots = slots; keys = l.keys; local = l.local; settings = l.settings; clock = t }

-- one slot changes
abbrev pub put : Listener → ℕ → ℕ → Slot → Listener
put l t i s = moved l t (set l.slots i s)

-- a new connection takes the lowest free place, a known one keeps its own (a repeat's slot stays as it is)
abbrev pub segment_after : Listener → ℕ → Scan → Event → Slot → Listener
segment_after l t found (events.FastOpened n) s = put l t found.free s
segment_after l t found events.Regular s = put l t found.free s
segment_after l t found events.Retransmission s = put l t found.place s
segment_after l t found events.Completed s = put l t found.place s
segment_after l t found events.WasReset s = put l t found.place s
segment_after l t found events.Done s = moved l t l.slots
segment_after l t found (events.Refused r) s = l

-- the peer's slot becomes free
abbrev pub freed : Listener → ℕ → Peer → Listener
freed l t p = put l t (scan_for l t p).place (with_status (view l t p).slot Free)

-- settings as they are kept
abbrev pub stored_settings : Settings → StoredSettings
stored_settings g = record { on = g.on; limit = g.limit; early_room = g.early_room; hold = g.hold; mss = g.mss; codings = g.codings; share = g.share }

-- the present key becomes the previous one
abbrev pub with_key : Keys → List ℕ → Keys
with_key k new = record { present = key_expansion new; previous = Some k.present }

unfoldable pub after : Listener → Call → Listener
after l (segment t src seg iss out_len) =
    let p = sender src seg in
    let v = view l t p in
    let e = done_event v (segment t src seg iss out_len) in
    segment_after l t (scan_for l t p) e (slot_after v (held_until v t) (block src) (fields_of seg) iss e)
after l (settings t g) = record { slots = l.slots; keys = l.keys; local = l.local; settings = stored_settings g; clock = t }
after l (key t k) = record { slots = l.slots; keys = with_key l.keys k; local = l.local; settings = l.settings; clock = t }
after l (abandon t a p) = freed l t (record { address = a; port = p })
after l (resend t a p out_len) = moved l t l.slots
after l (close t a p) = freed l t (record { address = a; port = p })

-- A call: refused, it changes nothing

abbrev pub outcome : Listener → Event → ℕ → Remarks → Outcome
outcome l e n r = record { listener = l; event = e; written = n; remarks = r }

abbrev pub outcome_of : Listener → Call → Check → Outcome
outcome_of l c (Ok _) = outcome (after l c) (done_event (view_of l c) c) (length (done_output (view_of l c) c)) (done_remarks (view_of l c) c)
outcome_of l c (Err r) = outcome l (events.Refused r) 0 no_remarks

unfoldable pub step : Listener → Call → Outcome
step l c = outcome_of l c (call_check l c)

abbrev pub output_if : View → Call → Check → List ℕ
output_if v c (Ok _) = done_output v c
output_if v c (Err r) = []

-- what a call writes at the output's start
unfoldable pub output_of : Listener → Call → List ℕ
output_of l c = output_if (view_of l c) c (call_check l c)

-- "Plain readings": the pending number, 0 where never started
unfoldable pub pending_number : Listener → ℕ
pending_number l = cond l.local.started (pending_at l.clock l.slots) 0
