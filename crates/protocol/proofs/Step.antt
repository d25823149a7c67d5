-- The outcome of each call, refused and done, from what its checks come to. Assumes nothing.
use Rattle.std.specs.Prelude.{Err}
use Prim.Native.Nat.{ℕ, ◌≤◌}
use mathlib.Core.Path.{◌≡◌, refl, sym, ap, ◌∙◌, ap₂}
use mathlib.Core.Bool.{Bool, true, false, cond, not, false≢true}
use mathlib.Core.List.{List, [], ◌++◌}
use lib.Dec.{leb}
use lib.ListN.{length}
use borrow.Author.Tests.{eq-eqb, ne_eqb, leb-true, not-false}
use Rattle.segment.specs.Refusal.{refusal, Check, all_clear}
use Rattle.segment.specs.Header.{malformed, fields_of, kind_of}
use Rattle.segment.specs.Remarks.{no_remarks, remarks_of}
use Rattle.segment.specs.Write.{syn_ack_bytes}
use Rattle.lists.specs.Bytes.{overwrite}
use Rattle.segment.specs.declared.refusal.Refusal.{Refusal}
use Rattle.segment.specs.declared.refusal.Refusal.TheVariants.{NoConnection, Range}
use Rattle.segment.specs.declared.options.Coding.{Coding}
use Rattle.segment.specs.declared.options.Coding.TheVariants.{New}
use Rattle.segment.specs.declared.options.Remarks.{Remarks}
use Rattle.segment.specs.declared.header.Kind.{Kind}
use Rattle.lists.proofs.Bools.{and_true}
use Rattle.segment.proofs.Exchange.{syn-ack-without}
use Rattle.endpoint.specs.Address.{Peer, block}
use Rattle.endpoint.specs.Checks.{is_untimely, timely, addressed}
use Rattle.endpoint.proofs.Blocks.{family-short}
use Rattle.endpoint.proofs.Clear.{every-check}
use Rattle.endpoint.proofs.Chain.{stopped, passed}
use Rattle.protocol.specs.Cookie.{cookie_under}
use Rattle.protocol.specs.Table.{is_waiting}
use Rattle.protocol.specs.Call.{Call, segment, settings, key, abandon, resend, close, sender}
use Rattle.protocol.specs.View.{own_address, scan_for, view}
use Rattle.protocol.specs.Refusals.{in_range, is_key, is_releasable, release_of, output_checks, kind_checks, wire_checks, call_check}
use Rattle.protocol.specs.Step.{segment_event, held_until, slot_after, fresh_with, coding_for, syn_ack_from, syn_ack_to, writes_syn_ack, segment_output, segment_after, moved, freed, stored_settings, with_key, after, outcome, step, output_of}
use Rattle.protocol.specs.declared.state.Settings.{Settings}
use Rattle.protocol.specs.declared.state.LocalEndpoint.{LocalEndpoint}
use Rattle.protocol.specs.declared.state.View.{View}
use Rattle.protocol.specs.declared.state.Listener.{Listener}
use Rattle.protocol.specs.declared.outcome.Event.{Event}
use Rattle.protocol.specs.declared.outcome.Event.TheVariants as events
use Rattle.protocol.specs.declared.outcome.Outcome.{Outcome}
use Rattle.protocol.specs.declared.slots.Slot.{Slot}
use Rattle.protocol.specs.Table.{Scan}
use Rattle.protocol.proofs.Refusals.{checked_settings, checked_key, checked_release, checked_resend, checked_segment, step_refused, step-done, output_refused, output-done}

abbrev pub refused_with : Listener → Refusal → Outcome
refused_with l r = outcome l (events.Refused r) 0 no_remarks

abbrev pub done_with : Listener → Outcome
done_with l = outcome l events.Done 0 no_remarks

-- a SYN-ACK without a fresh cookie is the same whatever cookie and coding are at hand, and so is one whose cookie is the fresh one, in its coding
pub any-cookie : (own a : List ℕ) (v : View) (s : Slot) (fresh : Bool) (x y : Coding) (c d : List ℕ) (out_len : ℕ) → (fresh ≡ true → x ≡ y) → (fresh ≡ true → c ≡ d)
    → syn_ack_bytes own a (syn_ack_from v.local v.settings.mss s fresh x) c out_len ≡ syn_ack_bytes own a (syn_ack_from v.local v.settings.mss s fresh y) d out_len
any-cookie own a v s true x y c d out_len k e =
    ap₂ (λ (z : Coding) (ck : List ℕ). syn_ack_bytes own a (syn_ack_from v.local v.settings.mss s true z) ck out_len) (k refl) (e refl)
any-cookie own a v s false x y c d out_len k e = syn-ack-without own a (syn_ack_from v.local v.settings.mss s false x) x y c d out_len refl

module _ (l : Listener) (t : ℕ) where
  abbrev Timely : Check
  Timely = refusal (timely l.local.started (is_untimely l.clock t))

  -- Settings

  module _ (g : Settings) where
    pub settings-stopped : {r : Refusal} → Timely ≡ Err r → step l (settings t g) ≡ refused_with l r
    settings-stopped e = step_refused l (settings t g) (stopped _ _ _ (checked_settings l t g) e)

    module _ (first : Timely ≡ all_clear) where
      pub settings_bad : in_range g ≡ false → step l (settings t g) ≡ refused_with l Range
      settings_bad e =
          let at : cond (not (in_range g)) (Err Range) all_clear ≡ Err Range = rw e in
          step_refused l (settings t g) (passed _ _ _ (checked_settings l t g) first ∙ at)

      pub settings-done : in_range g ≡ true
          → step l (settings t g) ≡ done_with (record { slots = l.slots; keys = l.keys; local = l.local; settings = stored_settings g; clock = t })
      unfolding after
      settings-done e =
          let at : cond (not (in_range g)) (Err Range) all_clear ≡ all_clear = rw e in
          step-done l (settings t g) (passed _ _ _ (checked_settings l t g) first ∙ at)

  -- Keys

  module _ (k : List ℕ) where
    pub key-stopped : {r : Refusal} → Timely ≡ Err r → step l (key t k) ≡ refused_with l r
    key-stopped e = step_refused l (key t k) (stopped _ _ _ (checked_key l t k) e)

    module _ (first : Timely ≡ all_clear) where
      pub key_bad : (length k ≡ 16 → ⊥) → step l (key t k) ≡ refused_with l Range
      key_bad e =
          let at : cond (not (is_key k)) (Err Range) all_clear ≡ Err Range = rw (ne_eqb _ _ e) in
          step_refused l (key t k) (passed _ _ _ (checked_key l t k) first ∙ at)

      pub key-done : length k ≡ 16
          → step l (key t k) ≡ done_with (record { slots = l.slots; keys = with_key l.keys k; local = l.local; settings = l.settings; clock = t })
      unfolding after
      key-done e =
          let at : cond (not (is_key k)) (Err Range) all_clear ≡ all_clear = rw (eq-eqb _ _ e) in
          step-done l (key t k) (passed _ _ _ (checked_key l t k) first ∙ at)

  -- Calls by name

  module _ (a : List ℕ) (p : ℕ) where
    abbrev Named : Check
    Named = refusal (timely l.local.started (is_untimely l.clock t) ++ addressed l.local.family a)

    abbrev peer : Peer
    peer = record { address = a; port = p }

    module _ (e : Bool) where
      pub release_stopped : {r : Refusal} → Named ≡ Err r → step l (release_of e t a p) ≡ refused_with l r
      release_stopped q = step_refused l (release_of e t a p) (stopped _ _ _ (checked_release l t e a p) q)

      module _ (first : Named ≡ all_clear) where
        pub release_none : is_releasable e (view l t peer).slot.status ≡ false → step l (release_of e t a p) ≡ refused_with l NoConnection
        release_none q =
            let at : cond (not (is_releasable e (view l t peer).slot.status)) (Err NoConnection) all_clear ≡ Err NoConnection = rw q in
            step_refused l (release_of e t a p) (passed _ _ _ (checked_release l t e a p) first ∙ at)

        pub release_done : is_releasable e (view l t peer).slot.status ≡ true → step l (release_of e t a p) ≡ done_with (freed l t peer)
        unfolding after
        release_done q =
            let at : cond (not (is_releasable e (view l t peer).slot.status)) (Err NoConnection) all_clear ≡ all_clear = rw q in
            go e (passed _ _ _ (checked_release l t e a p) first ∙ at)
          where
            go : (x : Bool) → call_check l (release_of x t a p) ≡ all_clear → step l (release_of x t a p) ≡ done_with (freed l t peer)
            go true j = step-done l (close t a p) j
            go false j = step-done l (abandon t a p) j

    module _ (out_len : ℕ) where
      abbrev OutputCheck : Check
      OutputCheck = refusal (timely l.local.started (is_untimely l.clock t) ++ addressed l.local.family a ++ output_checks out_len)

      abbrev v : View
      v = view l t peer

      pub resend-stopped : {r : Refusal} → OutputCheck ≡ Err r → (step l (resend t a p out_len) ≡ refused_with l r) × (output_of l (resend t a p out_len) ≡ [])
      resend-stopped q =
          let j = stopped _ _ _ (checked_resend l t a p out_len) q in
          (step_refused l (resend t a p out_len) j, output_refused l (resend t a p out_len) j)

      module _ (first : OutputCheck ≡ all_clear) where
        pub resend-none : is_waiting v.slot.status ≡ false
            → (step l (resend t a p out_len) ≡ refused_with l NoConnection) × (output_of l (resend t a p out_len) ≡ [])
        resend-none q =
            let at : cond (not (is_waiting v.slot.status)) (Err NoConnection) all_clear ≡ Err NoConnection = rw q in
            let j = passed _ _ _ (checked_resend l t a p out_len) first ∙ at in
            (step_refused l (resend t a p out_len) j, output_refused l (resend t a p out_len) j)

        pub resend-done : is_waiting v.slot.status ≡ true
            → (step l (resend t a p out_len) ≡ outcome (moved l t l.slots) events.Done (length (syn_ack_to v a v.slot false New out_len)) no_remarks)
            × (output_of l (resend t a p out_len) ≡ syn_ack_to v a v.slot false New out_len)
        unfolding after
        resend-done q =
            let at : cond (not (is_waiting v.slot.status)) (Err NoConnection) all_clear ≡ all_clear = rw q in
            let j = passed _ _ _ (checked_resend l t a p out_len) first ∙ at in
            (step-done l (resend t a p out_len) j, output-done l (resend t a p out_len) j)

  -- Segments

  module _ (src seg : List ℕ) (iss out_len : ℕ) where
    abbrev Wired : Check
    Wired = refusal (wire_checks l.local (is_untimely l.clock t) src seg out_len)

    abbrev this : Call
    this = segment t src seg iss out_len

    pub segment-stopped : {r : Refusal} → Wired ≡ Err r → (step l this ≡ refused_with l r) × (output_of l this ≡ [])
    segment-stopped q =
        let j = stopped _ _ _ (checked_segment l t src seg iss out_len) q in
        (step_refused l this j, output_refused l this j)

    module _ (first : Wired ≡ all_clear) where
      abbrev the_view : View
      the_view = view l t (sender src seg)

      abbrev found : Scan
      found = scan_for l t (sender src seg)

      abbrev kind : Kind
      kind = kind_of (fields_of seg).flags

      pub segment_refused : {r : Refusal} → refusal (kind_checks the_view (fields_of seg) kind) ≡ Err r
          → (step l this ≡ refused_with l r) × (output_of l this ≡ [])
      segment_refused q =
          let j = passed _ _ _ (checked_segment l t src seg iss out_len) first ∙ q in
          (step_refused l this j, output_refused l this j)

      -- one that is done, with the event, the slot, the remarks, and the fresh cookie if there is one, that it came to
      module _ (second : refusal (kind_checks the_view (fields_of seg) kind) ≡ all_clear) {e : Event} {s : Slot}
          (event-is : e ≡ segment_event the_view (block src) seg kind) (slot_is : s ≡ slot_after the_view (held_until the_view t) (block src) (fields_of seg) iss (segment_event the_view (block src) seg kind))
          {next : Listener} (moves : next ≡ segment_after l t found e s) {r : Remarks} (remarks_are : r ≡ remarks_of l.settings.codings seg) where
        abbrev done : Event
        done = segment_event the_view (block src) seg kind

        clear : call_check l this ≡ all_clear
        clear = passed _ _ _ (checked_segment l t src seg iss out_len) first ∙ second

        next_is : next ≡ after l this
        unfolding after
        next_is = rw (event-is, slot_is) at moves

        pub segment_writes_none : writes_syn_ack e ≡ false
            → (step l this ≡ outcome next e 0 r) × (output_of l this ≡ [])
        segment_writes_none q =
            let none : segment_output the_view t src seg iss out_len done ≡ [] = rw (rw event-is at q) in
            (rw (next_is, event-is, remarks_are) (rw none at (step-done l this clear)), output-done l this clear ∙ none)

        pub segment_writes : {fresh : Bool} {coding : Coding} {cookie : List ℕ} → fresh ≡ fresh_with the_view (block src) seg done → (fresh ≡ true → coding ≡ coding_for the_view seg)
            → (fresh ≡ true → cookie ≡ cookie_under the_view.keys.present (block src)) → writes_syn_ack e ≡ true
            → let bytes = syn_ack_bytes (own_address the_view.local) src (syn_ack_from the_view.local the_view.settings.mss s fresh coding) cookie out_len in
            (outcome next e (length bytes) r ≡ step l this) × (output_of l this ≡ bytes)
        segment_writes {fresh} {coding} {cookie} fresh_is coding-is cookie_is q =
            let some : segment_output the_view t src seg iss out_len done
            ≡ syn_ack_to the_view src (slot_after the_view (held_until the_view t) (block src) (fields_of seg) iss done) (fresh_with the_view (block src) seg done) (coding_for the_view seg) out_len = rw (rw event-is at q) in
            let same = any-cookie (own_address the_view.local) src the_view s fresh coding (coding_for the_view seg) cookie (cookie_under the_view.keys.present (block src)) out_len coding-is cookie_is in
            let whole = some ∙ sym (rw (slot_is, fresh_is) at same) in
            (rw (next_is, event-is, slot_is, fresh_is, remarks_are) (sym (rw whole at (step-done l this clear))), rw (slot_is, fresh_is) (output-done l this clear ∙ whole))

-- An outcome and an output equal to `step` and `output_of`: where nothing is written, and where a SYN-ACK is.

pub unwritten : {r x s : Outcome} {bytes : List ℕ} (out : List ℕ) → r ≡ x → (s ≡ x) × (bytes ≡ []) → (r ≡ s) × (out ≡ overwrite bytes out)
unwritten out e q = (e ∙ sym q.0, ap (λ (z : List ℕ). overwrite z out) (sym q.1))

pub written_over : {l : Listener} {e : Event} {n : ℕ} {r : Remarks} {s : Outcome} {bytes these last : List ℕ} (out : List ℕ)
    → (outcome l e (length these) r ≡ s) × (bytes ≡ these) → (n ≡ length these) × (last ≡ overwrite these out) → {o : Outcome} → o ≡ outcome l e n r
    → (o ≡ s) × (last ≡ overwrite bytes out)
written_over out q w eo = (eo ∙ rw w.0 q.0, w.1 ∙ ap (λ (z : List ℕ). overwrite z out) (sym q.1))

-- a SYN-ACK sent again, from the slot that was found
module _ (l : Listener) (t : ℕ) (a : List ℕ) (p out_len : ℕ) (out : List ℕ) where
  abbrev here : View
  here = view l t (record { address = a; port = p })

  pub resent : {s : Outcome} {bytes : List ℕ}
      → (s ≡ outcome (moved l t l.slots) events.Done (length (syn_ack_to here a here.slot false New out_len)) no_remarks)
      × (bytes ≡ syn_ack_to here a here.slot false New out_len)
      → {x : Slot} → x ≡ here.slot → {w : ℕ} {last : List ℕ} (cookie : List ℕ)
      → (w ≡ length (syn_ack_bytes (own_address l.local) a (syn_ack_from l.local l.settings.mss x false New) cookie out_len))
      × (last ≡ overwrite (syn_ack_bytes (own_address l.local) a (syn_ack_from l.local l.settings.mss x false New) cookie out_len) out)
      → {o : Outcome} → o ≡ outcome (moved l t l.slots) events.Done w no_remarks → (o ≡ s) × (last ≡ overwrite bytes out)
  resent q ex cookie e' eo =
      let same = any-cookie (own_address l.local) a here here.slot false New New cookie (cookie_under here.keys.present (block a)) out_len (λ _. refl) (λ x. absurd (false≢true x)) in
      let f = rw (ex, same) at e' in
      (eo ∙ rw f.0 (sym q.0), f.1 ∙ ap (λ (z : List ℕ). overwrite z out) (sym q.1))

-- what follows for its address, its time and its segment from a call's clear checks
module _ (h : LocalEndpoint) (untimely : Bool) (a : List ℕ) where
  pub output-short-address : (out_len : ℕ) → refusal (timely h.started untimely ++ addressed h.family a ++ output_checks out_len) ≡ all_clear → length a ≤ 16
  output-short-address out_len e = family-short h.family a (not-false _ (every-check (timely h.started untimely ++ addressed h.family a ++ output_checks out_len) e).1.1.0)

  pub wired-short : (seg : List ℕ) (out_len : ℕ) → refusal (wire_checks h untimely a seg out_len) ≡ all_clear → length a ≤ 16
  wired-short seg out_len e = family-short h.family a (not-false _ (every-check (wire_checks h untimely a seg out_len) e).1.1.0)

  pub wired-timely : (seg : List ℕ) (out_len : ℕ) → refusal (wire_checks h untimely a seg out_len) ≡ all_clear → untimely ≡ false
  wired-timely seg out_len e = (every-check (wire_checks h untimely a seg out_len) e).1.0

  pub wired-formed : (seg : List ℕ) (out_len : ℕ) → refusal (wire_checks h untimely a seg out_len) ≡ all_clear → malformed seg ≡ false
  wired-formed seg out_len e = (every-check (wire_checks h untimely a seg out_len) e).1.1.1.1.0

-- settings in range have an MSS of two bytes
pub mss-most : (g : Settings) → in_range g ≡ true → g.mss ≤ 1460
unfolding in_range
mss-most g e =
    let a = and_true (leb g.limit 64) _ e in
    let b = and_true (leb g.early_room 1460) _ a.1 in
    let c = and_true (leb g.hold 65535) _ b.1 in
    let d = and_true (leb 536 g.mss) _ c.1 in
    leb-true g.mss 1460 (and_true (leb g.mss 1460) _ d.1).0
