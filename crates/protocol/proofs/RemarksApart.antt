-- What a segment comes to does not depend on what is remarked on its options. Assumes nothing.
use Rattle.std.specs.Prelude.{Err, Ok}
use Prim.Native.Nat.{ℕ}
use mathlib.Core.Path.{◌≡◌, refl, ap, ap₂, sym, ◌∙◌}
use mathlib.Core.Bool.{Bool, true, false, cond, not, ◌&&◌}
use mathlib.Core.List.{List, [], ◌∷◌, ◌++◌}
use lib.Dec.{eqb, ltb}
use lib.ListN.{length, take}
use Rattle.segment.specs.Refusal.{Checks, refusal}
use Rattle.segment.specs.Checksum.{checksum_right}
use Rattle.segment.specs.declared.refusal.Refusal.TheVariants.{Format, Checksum, Port}
use Rattle.segment.specs.Header.{malformed, fields_of, payload_of, kind_of}
use Rattle.segment.specs.Refusal.{Check}
use Rattle.segment.specs.declared.header.Header.{Header}
use Rattle.segment.specs.declared.header.Kind.{Kind}
use Rattle.segment.specs.declared.header.Kind.TheVariants.{Syn, Rst, Ack, Other}
use Rattle.segment.specs.declared.options.Coding.{Coding}
use Rattle.endpoint.specs.Address.{block}
use Rattle.endpoint.specs.Checks.{is_untimely, timely, addressed}
use Rattle.protocol.specs.Cookie.{Carried, carried_by, counts, right_under, right}
use Rattle.protocol.specs.Call.{Call, sender, accepted_of, accepted_part}
use Rattle.protocol.specs.View.{known, own_address, scan_for, view, view_of}
use Rattle.protocol.specs.Refusals.{repeats, completes, resets, output_checks, kind_checks, call_check}
use Rattle.protocol.specs.Step.{cookies_enabled, is_early, is_fresh, new_event, opening_event, segment_event, done_event, held_until, slot_after, syn_ack_to, writes_syn_ack, fresh_with, coding_for, done_output, segment_after, after, outcome_of, step, output_if, output_of}
use Rattle.protocol.specs.RemarksApart.{Alike, taking, Same}
use Rattle.protocol.specs.declared.state.View.{View}
use Rattle.protocol.specs.declared.state.Listener.{Listener}
use Rattle.protocol.specs.declared.slots.Slot.{Slot}
use Rattle.protocol.specs.declared.outcome.Event.{Event}
use Rattle.protocol.specs.declared.outcome.Event.TheVariants as events

-- The verdict and the fresh cookie, by the option that counts and the payload
module _ (v : View) (b seg other : List ℕ) (carried : carried_by v.settings.codings seg ≡ carried_by v.settings.codings other) where
  early-alike : is_early v b seg ≡ is_early v b other
  unfolding is_early
  early-alike = ap (λ (c : Carried). cookies_enabled v && right v.keys b c) carried

  fresh-alike : is_fresh v b seg ≡ is_fresh v b other
  unfolding is_fresh
  fresh-alike = ap (λ (c : Carried). cookies_enabled v && (counts c && not (right_under v.keys.present b c))) carried

  with-alike : (e : Event) → fresh_with v b seg e ≡ fresh_with v b other e
  with-alike (events.FastOpened n) = fresh-alike
  with-alike events.Regular = fresh-alike
  with-alike events.Retransmission = refl
  with-alike events.Completed = refl
  with-alike events.WasReset = refl
  with-alike events.Done = refl
  with-alike (events.Refused r) = refl

  module _ (payload : payload_of seg ≡ payload_of other) where
    opening-alike : (repeat : Bool) → opening_event repeat v b seg ≡ opening_event repeat v b other
    opening-alike true = refl
    opening-alike false = ap₂ new_event early-alike (rw payload)

    event-alike : (k : Kind) → segment_event v b seg k ≡ segment_event v b other k
    event-alike Syn = opening-alike (known v)
    event-alike Ack = refl
    event-alike Rst = refl
    event-alike Other = refl

-- what the rules read of a header: all but the data offset
abbrev bare : Header → Header
bare h = record { source = h.source; dest = h.dest; seq = h.seq; ack = h.ack; offset = 0; flags = h.flags }

bare-checks : (v : View) (h : Header) (k : Kind) → kind_checks v h k ≡ kind_checks v (bare h) k
unfolding repeats completes resets
bare-checks v h Syn = refl
bare-checks v h Ack = refl
bare-checks v h Rst = refl
bare-checks v h Other = refl

bare_slot : (v : View) (end : ℕ) (b : List ℕ) (h : Header) (iss : ℕ) (e : Event) → slot_after v end b h iss e ≡ slot_after v end b (bare h) iss e
bare_slot v end b h iss (events.FastOpened n) = refl
bare_slot v end b h iss events.Regular = refl
bare_slot v end b h iss events.Retransmission = refl
bare_slot v end b h iss events.Completed = refl
bare_slot v end b h iss events.WasReset = refl
bare_slot v end b h iss events.Done = refl
bare_slot v end b h iss (events.Refused r) = refl

module _ (l : Listener) (t : ℕ) (src : List ℕ) (iss out_len : ℕ) where
  abbrev this : List ℕ → Call
  this seg = taking l t src iss out_len seg

  -- the view of the header's port, and the slot after an event
  abbrev seen : Header → View
  seen h = view l t (record { address = src; port = h.source })

  abbrev left : Header → Event → Slot
  left h e = slot_after (seen h) (held_until (seen h) t) (block src) h iss e

  module _ (seg other : List ℕ) (a : Alike l src seg other) where
    same-header : bare (fields_of seg) ≡ bare (fields_of other)
    same-header = rw (a.source, a.dest, a.seq, a.ack, a.flags)

    -- The checks
    abbrev checks_with : Bool → Bool → Header → Checks → Checks
    checks_with bad right h of-kind =
        timely l.local.started (is_untimely l.clock t) ++ addressed l.local.family src ++ output_checks out_len
        ++ ((Format, bad) ∷ (Checksum, not right) ∷ (Port, not (eqb h.dest l.local.port)) ∷ []) ++ of-kind

    check_is : (s : List ℕ) → call_check l (this s)
        ≡ refusal (checks_with (malformed s) (checksum_right src (own_address l.local) s) (bare (fields_of s)) (kind_checks (seen (bare (fields_of s))) (bare (fields_of s)) (kind_of (fields_of s).flags)))
    unfolding call_check
    check_is s =
        ap (λ (x : Checks). refusal (checks_with (malformed s) (checksum_right src (own_address l.local) s) (fields_of s) x)) (bare-checks (seen (fields_of s)) (fields_of s) (kind_of (fields_of s).flags))

    check-alike : call_check l (this seg) ≡ call_check l (this other)
    check-alike =
        check_is seg
        ∙ rw (a.shape, a.sum) (ap (λ (h : Header). refusal (checks_with (malformed other) (checksum_right src (own_address l.local) other) h (kind_checks (seen h) h (kind_of h.flags)))) same-header)
        ∙ sym (check_is other)

    -- What a done one comes to
    abbrev happened : List ℕ → Event
    happened s = done_event (view_of l (this s)) (this s)

    done-alike : happened seg ≡ happened other
    done-alike =
        event-alike (seen (fields_of seg)) (block src) seg other a.carried a.payload (kind_of (fields_of seg).flags)
        ∙ ap (λ (h : Header). segment_event (seen h) (block src) other (kind_of h.flags)) same-header

    left-alike : left (fields_of seg) (happened seg) ≡ left (fields_of other) (happened other)
    left-alike =
        bare_slot (seen (fields_of seg)) (held_until (seen (fields_of seg)) t) (block src) (fields_of seg) iss (happened seg)
        ∙ ap₂ left same-header done-alike
        ∙ sym (bare_slot (seen (fields_of other)) (held_until (seen (fields_of other)) t) (block src) (fields_of other) iss (happened other))

    after-alike : after l (this seg) ≡ after l (this other)
    unfolding after
    after-alike =
        ap (segment_after l t (scan_for l t (sender src seg)) (happened seg)) left-alike
        ∙ ap₂ (λ (h : Header) (e : Event). segment_after l t (scan_for l t (record { address = src; port = h.source })) e (left (fields_of other) (happened other))) same-header done-alike

    output-alike : done_output (view_of l (this seg)) (this seg) ≡ done_output (view_of l (this other)) (this other)
    output-alike =
        let written : Header → Event → Slot → Bool → Coding → List ℕ =
        λ h e s fresh coding. cond (writes_syn_ack e) (syn_ack_to (seen h) src s fresh coding out_len) [] in
        ap₂ (written (fields_of seg) (happened seg) (left (fields_of seg) (happened seg))) (with-alike (seen (fields_of seg)) (block src) seg other a.carried (happened seg)) a.coding
        ∙ ap (λ (s : Slot). written (fields_of seg) (happened seg) s (fresh_with (seen (fields_of seg)) (block src) other (happened seg)) (coding_for (seen (fields_of seg)) other)) left-alike
        ∙ ap₂ (λ (h : Header) (e : Event). written h e (left (fields_of other) (happened other)) (fresh_with (seen h) (block src) other e) (coding_for (seen h) other)) same-header done-alike

    -- so a call on either comes to the same, refused or done
    outcome-alike : (k : Check)
        → ((outcome_of l (this seg) k).listener ≡ (outcome_of l (this other) k).listener)
        × (((outcome_of l (this seg) k).event ≡ (outcome_of l (this other) k).event)
        × (((outcome_of l (this seg) k).written ≡ (outcome_of l (this other) k).written)
        × (output_if (view_of l (this seg)) (this seg) k ≡ output_if (view_of l (this other)) (this other) k)))
    outcome-alike (Ok _) = (after-alike, (done-alike, (ap length output-alike, output-alike)))
    outcome-alike (Err r) = (refl, (refl, (refl, refl)))

    event-same : (step l (this seg)).event ≡ (step l (this other)).event
    unfolding step
    event-same = (outcome-alike (call_check l (this seg))).1.0 ∙ ap (λ (k : Check). (outcome_of l (this other) k).event) check-alike

    part-alike : (e : Event) → accepted_part seg e ≡ accepted_part other e
    unfolding accepted_part
    part-alike e = ap (λ (p : List ℕ). cond (ltb (length p) (accepted_of e)) [] (take (accepted_of e) p)) a.payload

    pub remarks_apart : Same l t src iss out_len seg other
    unfolding step output_of
    remarks_apart =
        let o = outcome-alike (call_check l (this seg)) in
        record {
          listener = o.0 ∙ ap (λ (k : Check). (outcome_of l (this other) k).listener) check-alike;
          event = event-same;
          written = o.1.1.0 ∙ ap (λ (k : Check). (outcome_of l (this other) k).written) check-alike;
          output = o.1.1.1 ∙ ap (output_if (view_of l (this other)) (this other)) check-alike;
          part = ap (accepted_part seg) event-same ∙ part-alike (step l (this other)).event;
        }
