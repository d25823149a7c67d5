-- Document 02, Item 8, proved: an opening at the share, and the bound over every list of calls. Assumes nothing.
use Rattle.std.specs.Prelude.{Err, Ok}
use Prim.Native.Nat.{ℕ, ◌+◌, ◌≤◌, ◌<◌, max}
use mathlib.Core.Path.{◌≡◌, refl, sym, ap, ◌∙◌, subst}
use mathlib.Core.Bool.{Bool, true, false, not, ◌&&◌, ◌||◌, and-false, true≢false}
use mathlib.Core.List.{List, [], ◌∷◌}
use native.Mathlib.Omega.{arith}
use borrow.Author.Tests.{ltb-true, le-ltb, not-true, not-false}
use lib.Dec.{ltb}
use lib.ListN.{length, get_or}
use Rattle.lists.specs.Bytes.{same_bytes}
use Rattle.lists.specs.Lists.{bit}
use Rattle.lists.proofs.Bools.{and_true}
use Rattle.lists.proofs.SameBytes.{same_bytes_eq}
use Rattle.lists.proofs.Sums.{bit-most, sum_le, sum-set, sum-set-most, first_passes}
use Rattle.segment.specs.Header.{fields_of, kind_of}
use Rattle.segment.specs.Refusal.{Check, all_clear}
use Rattle.segment.specs.declared.header.Kind.{Kind}
use Rattle.segment.specs.declared.header.Kind.TheVariants.{Syn, Rst, Ack, Other}
use Rattle.endpoint.specs.Address.{Peer, block}
use Rattle.endpoint.proofs.Clear.{Passed, every-check}
use Rattle.protocol.specs.Cookie.{right}
use Rattle.protocol.specs.Table.{is_live, is_pending, after_reset, free_slot, with_status, free_place, pends_from, pending_from}
use Rattle.protocol.specs.Call.{Call, segment, settings, key, abandon, resend, close, sender, time_of}
use Rattle.protocol.specs.View.{known, settings_at, slot_at, scan_for, view, view_of}
use Rattle.protocol.specs.Refusals.{kind_checks, checks, call_check}
use Rattle.protocol.specs.Step.{start_of, cookies_enabled, is_early, accepts, carried_at, new_event, opening_event, segment_event, held_until, slot_after, put, segment_after, freed, after, outcome_of, step}
use Rattle.protocol.specs.Journal.{Journal}
use Rattle.protocol.specs.Demand3.{listener_after, address_pending}
use Rattle.protocol.specs.TwoOpenings.{Arrival}
use Rattle.protocol.specs.Share.{Under, AtMost, ShareBound, AtShare}
use Rattle.protocol.specs.declared.slots.Status.{Status}
use Rattle.protocol.specs.declared.slots.Status.TheVariants.{Free, SynReceived, SynReceivedEarly, ResetHeld, Established}
use Rattle.protocol.specs.declared.slots.Slot.{Slot}
use Rattle.protocol.specs.declared.state.View.{View}
use Rattle.protocol.specs.declared.state.Listener.{Listener}
use Rattle.protocol.proofs.Table.{idle, and_most, from_earlier}
use Rattle.protocol.proofs.Openings.{slot_for, early_is, new-clear}
use Rattle.protocol.proofs.Sixteen.{disabled_plain}
use Rattle.protocol.proofs.Demand3.{Agrees, on-time, stays, agreed}

-- One opening

pub at-share : (l : Listener) (src : List ℕ) (a : Arrival) → AtShare l src a
at-share l src a o new slots free h =
    let t = a.time in
    let clear = new-clear l t src a.seg a.iss a.out_len o.syn new o.clear free in
    disabled_plain l t src a.seg a.iss a.out_len (record { clear = clear; syn = o.syn; new = new; slots = slots })
    (rw (le-ltb (pending_from t (block src) l.slots) l.settings.share h, and-false (view l t (sender src a.seg)).below) (and-false l.settings.on))

-- an early one's address is below its share
early-spare : (v : View) (b seg : List ℕ) → is_early v b seg ≡ true → v.spare ≡ true
early-spare v b seg e =
    let on = (and_true (cookies_enabled v) (right v.keys b (carried_at v seg)) (sym (early_is v b seg) ∙ e)).0 in
    (and_true v.below v.spare (and_true v.settings.on (v.below && v.spare) on).1).1

-- The bound, for the address with this block
module _ (b : List ℕ) where
  abbrev weight : ℕ → Slot → ℕ
  weight t s = bit (pends_from t b s)

  -- a slot gets a status that is pending only if the one before was
  module _ (l : Listener) (t i : ℕ) where
    changed : (st : Status) → bit (is_pending t st) ≤ bit (is_pending t (slot_at l i).status) → pending_from t b (put l t i (with_status (slot_at l i) st)).slots ≤ pending_from t b l.slots
    unfolding pends_from
    changed st h =
        sum-set-most (weight t) l.slots i (with_status (slot_at l i) st) free_slot
        (and_most (is_pending t st) (is_pending t (slot_at l i).status) (same_bytes (slot_at l i).addr b) h)

    -- a repeat's slot is put back as it was
    same : pending_from t b (put l t i (slot_at l i)).slots ≤ pending_from t b l.slots
    same = sum-set-most (weight t) l.slots i (slot_at l i) free_slot (omega arith)

  reset_pends : (t end : ℕ) (st : Status) → bit (is_pending t (after_reset end st)) ≤ bit (is_pending t st)
  reset_pends t end Free = omega arith
  reset_pends t end SynReceived = omega arith
  reset_pends t end (SynReceivedEarly n) = bit-most (ltb t end)
  reset_pends t end (ResetHeld e) = omega arith
  reset_pends t end Established = omega arith

  -- a new connection: one more of its own address if it is early, and then the address was below the share
  module _ (l : Listener) (t : ℕ) (src seg : List ℕ) (iss n : ℕ) (room : free_place t l.slots < length l.slots) where
    entered : (early : Bool) → pending_from t b (put l t (free_place t l.slots) (slot_for early src seg iss n)).slots ≡ pending_from t b l.slots + bit (early && same_bytes (block src) b)
    unfolding pends_from
    entered early =
        let old : Slot = get_or l.slots (free_place t l.slots) free_slot in
        let gone : is_pending t old.status ≡ false = idle t old.status (not-true _ (first_passes (λ o. not (is_live t o.status)) l.slots free_slot room)) in
        omega (
          arith,
          sum-set (weight t) l.slots (free_place t l.slots) (slot_for early src seg iss n) free_slot room,
          ap (λ c. bit (c && same_bytes old.addr b)) gone,
          ap (λ c. bit (c && same_bytes (block src) b)) (pends early),
        )
      where
        pends : (e : Bool) → is_pending t (slot_for e src seg iss n).status ≡ e
        pends true = refl
        pends false = refl

    opened : (early : Bool) → is_early (view l t (sender src seg)) (block src) seg ≡ early
        → pending_from t b (put l t (free_place t l.slots) (slot_for early src seg iss n)).slots ≤ max l.settings.share (pending_from t b l.slots)
    opened false e = omega (arith, entered false)
    opened true e = go (same_bytes (block src) b) refl
      where
        go : (x : Bool) → same_bytes (block src) b ≡ x
            → pending_from t b (put l t (free_place t l.slots) (slot_for true src seg iss n)).slots ≤ max l.settings.share (pending_from t b l.slots)
        go true q =
            omega (
              arith,
              entered true,
              ap bit q,
              subst (λ y. pending_from t y l.slots < l.settings.share) (same_bytes_eq (block src) b q)
                  (ltb-true _ _ (early-spare (view l t (sender src seg)) (block src) seg e)),
            )
        go false q = omega (arith, entered true, ap bit q)

  -- A call that is clear, at its time
  module _ (l : Listener) (long : length l.slots ≡ 64) where
    -- what the address has in a listener, and at most after the call
    abbrev number : Listener → ℕ
    number m = pending_from m.clock b m.slots

    abbrev most : ℕ → ℕ
    most t = max l.settings.share (pending_from t b l.slots)

    by_kind : (t : ℕ) (src seg : List ℕ) (iss : ℕ) (k : Kind) → Passed (kind_checks (view l t (sender src seg)) (fields_of seg) k)
        → let v = view l t (sender src seg) in
        let e = segment_event v (block src) seg k in
        number (segment_after l t (scan_for l t (sender src seg)) e (slot_after v (held_until v t) (block src) (fields_of seg) iss e)) ≤ most t
    by_kind t src seg iss Syn q = go (known v) refl (not-false _ q.1.0)
      where
        v : View
        v = view l t (sender src seg)

        n : ℕ
        n = accepts l.settings seg

        new : (early : Bool) → is_early v (block src) seg ≡ early → v.vacant ≡ true
            → number (segment_after l t (scan_for l t (sender src seg)) (new_event early n) (slot_after v (held_until v t) (block src) (fields_of seg) iss (new_event early n))) ≤ most t
        new true e free = opened l t src seg iss n (omega (arith, ltb-true (free_place t l.slots) 64 free, long)) true e
        new false e free = opened l t src seg iss n (omega (arith, ltb-true (free_place t l.slots) 64 free, long)) false e

        go : (k : Bool) → known v ≡ k → (k || v.vacant) ≡ true
            → number (segment_after l t (scan_for l t (sender src seg)) (opening_event k v (block src) seg) (slot_after v (held_until v t) (block src) (fields_of seg) iss (opening_event k v (block src) seg))) ≤ most t
        go true e free = omega (arith, same l t (scan_for l t (sender src seg)).place)
        go false e free = new (is_early v (block src) seg) refl free
    by_kind t src seg iss Ack q = omega (arith, changed l t (scan_for l t (sender src seg)).place Established (omega arith))
    by_kind t src seg iss Rst q =
        let v = view l t (sender src seg) in
        omega (arith, changed l t (scan_for l t (sender src seg)).place (after_reset (held_until v t) v.slot.status) (reset_pends t (held_until v t) v.slot.status))
    by_kind t src seg iss Other q = absurd (true≢false q.0)

    released : (t : ℕ) (p : Peer) → number (freed l t p) ≤ most t
    released t p = omega (arith, changed l t (scan_for l t p).place Free (omega arith))

    done : (c : Call) → Passed (checks (view_of l c) c) → number (after l c) ≤ most (time_of c)
    unfolding after
    done (segment t src seg iss out_len) q = by_kind t src seg iss (kind_of (fields_of seg).flags) q.1.1.1.1.1.1.1
    done (settings t g) q = omega arith
    done (key t k) q = omega arith
    done (abandon t a p) q = released t (record { address = a; port = p })
    done (resend t a p out_len) q = omega arith
    done (close t a p) q = released t (record { address = a; port = p })

    timed : (c : Call) → Passed (checks (view_of l c) c) → l.clock ≤ time_of c
    timed (segment t src seg iss out_len) q = on-time l t q.1.0
    timed (settings t g) q = on-time l t q.1.0
    timed (key t k) q = on-time l t q.1.0
    timed (abandon t a p) q = on-time l t q.1.0
    timed (resend t a p out_len) q = on-time l t q.1.0
    timed (close t a p) q = on-time l t q.1.0

    -- A call, from its listener's clock on
    step-most : (share : ℕ) (c : Call) → (call_check l c ≡ all_clear → (settings_at l (time_of c)).share ≡ share) → number (step l c).listener ≤ max share (number l)
    unfolding step call_check
    step-most share c under = go (call_check l c) refl
      where
        go : (r : Check) → call_check l c ≡ r → number (outcome_of l c r).listener ≤ max share (number l)
        go (Ok _) e =
            let q = every-check (checks (view_of l c) c) e in
            omega (arith, under e, done c q, sum_le (weight (time_of c)) (weight l.clock) (from_earlier l.clock (time_of c) (timed c q) b) l.slots)
        go (Err r) e = omega arith

-- Lists of calls
bounded : (share m : ℕ) (l : Listener) (j : Journal) (calls : List Call) (a : List ℕ) → Agrees l j → Under share l calls → address_pending l a ≤ max share m
    → AtMost (max share m) a l calls
bounded share m l j [] a g u h = tt
bounded share m l j (c ∷ cs) a g u h =
    let first : address_pending (step l c).listener a ≤ max share m = omega (arith, h, step-most (block a) l g.table.long share c u.0) in
    (first, bounded share m (step l c).listener _ cs a (stays l j c g) u.1 first)

pub share_bound : (own : List ℕ) (port : ℕ) (k : List ℕ) (before : List Call) (share : ℕ) (calls : List Call) → (start_of own port k).check ≡ all_clear
    → ShareBound own port k before share calls
share_bound own port k before share calls e u a =
    let l = listener_after (start_of own port k).listener before in
    bounded share (address_pending l a) l _ calls a (agreed own port k before e) u (omega arith)
