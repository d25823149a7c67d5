-- New openings: when one is clear, its event, and what it does to the table. Assumes nothing.
use Prim.Native.Nat.{ℕ, ◌+◌, ◌≤◌, ◌<◌}
use mathlib.Core.Path.{◌≡◌, refl, sym, ap, ap₂, ◌∙◌}
use mathlib.Core.Bool.{Bool, true, false, not, ◌&&◌, true≢false, and-false}
use mathlib.Core.List.{List, [], ◌∷◌, ◌++◌}
use native.Mathlib.Omega.{arith}
use borrow.Author.Tests.{ltb-true, ltb-false, lt-ltb, not-true, not-false}
use lib.Dec.{ltb}
use lib.ListN.{length, get_or, set, get_or-eq_default}
use Rattle.segment.specs.Refusal.{order, Checks, refusal, all_clear}
use Rattle.segment.specs.Header.{fields_of, kind_of}
use Rattle.segment.specs.Remarks.{remarks_of}
use Rattle.lists.proofs.Bools.{and_true}
use Rattle.segment.proofs.NumberOf.{none-applies}
use Rattle.segment.specs.declared.refusal.Refusal.TheVariants.{TableFull}
use Rattle.segment.specs.declared.header.Kind.TheVariants.{Syn}
use Rattle.lists.specs.Lists.{bit, tally, first_index}
use Rattle.endpoint.specs.Address.{Peer, block}
use Rattle.endpoint.specs.Checks.{is_untimely}
use Rattle.lists.proofs.Sums.{sum-set, some_passes, first_passes, none_passes}
use Rattle.protocol.specs.Cookie.{counts, right_under, right}
use Rattle.protocol.specs.Table.{is_live, is_pending, is_free, free_slot, new_slot, holds_peer, free_place, pending_at, pending_from}
use Rattle.protocol.specs.Call.{segment, sender}
use Rattle.protocol.specs.View.{known, view}
use Rattle.protocol.specs.Refusals.{wire_checks, call_check}
use Rattle.protocol.specs.Step.{cookies_enabled, accepts, is_early, is_fresh, new_event, new_status, carried_at, coding_for, syn_ack_to, put, after, outcome, step}
use Rattle.protocol.specs.declared.slots.Slot.{Slot}
use Rattle.protocol.specs.declared.state.View.{View}
use Rattle.protocol.specs.declared.state.Listener.{Listener}
use Rattle.protocol.proofs.Cookie.{wrong_now}
use Rattle.protocol.proofs.Table.{not_free, idle}

-- The table

-- something passes a test, or nothing does
placed : {A P : Type 0} (p : A → Bool) (xs : List A) → (first_index p xs < length xs → P) → (length xs ≤ first_index p xs → P) → P
placed {P} p xs found none = go (ltb (first_index p xs) (length xs)) refl
  where
    go : (b : Bool) → ltb (first_index p xs) (length xs) ≡ b → P
    go true e = found (ltb-true _ _ e)
    go false e = none (ltb-false _ _ e)

pub first_found : {A : Type 0} (p : A → Bool) (xs : List A) → 0 < tally p xs → first_index p xs < length xs
first_found p xs h = placed p xs (λ k. k) (λ k. absurd (omega (arith, h, none_passes p xs k)))

-- a slot that holds a peer is not free
holds_taken : (t : ℕ) (b : List ℕ) (port : ℕ) (s : Slot) → holds_peer t b port s ≡ true → not (is_free s.status) ≡ true
unfolding holds_peer
holds_taken t b port s e = rw (not_free (is_live t) refl s.status (and_true (is_live t s.status) _ e).0)

-- the test that finds a peer's place
abbrev pub holding : ℕ → Peer → Slot → Bool
holding t p = holds_peer t (block p.address) p.port

-- a peer is not known exactly where no slot holds it
module _ (l : Listener) (t : ℕ) (p : Peer) where
  pub unknown-none : known (view l t p) ≡ false → tally (holding t p) l.slots ≡ 0
  unknown-none e =
      placed (holding t p) l.slots
      (λ h. absurd (true≢false (sym (holds_taken _ _ _ _ (first_passes (holding t p) l.slots free_slot h)) ∙ e)))
      (none_passes (holding t p) l.slots)

  pub none-unknown : tally (holding t p) l.slots ≡ 0 → known (view l t p) ≡ false
  none-unknown e =
      placed (holding t p) l.slots
      (λ h. absurd (omega (arith, e, some_passes (holding t p) l.slots _ free_slot h (first_passes (holding t p) l.slots free_slot h))))
      (λ h. ap (λ (s : Slot). not (is_free s.status)) (get_or-eq_default l.slots free_slot h))

-- the free place is taken: pending is one more if the new slot is pending
pub pending-put : (t : ℕ) (slots : List Slot) (s : Slot) → free_place t slots < length slots
    → pending_at t (set slots (free_place t slots) s) ≡ pending_at t slots + bit (is_pending t s.status)
pending-put t slots s h =
    let old : Slot = get_or slots (free_place t slots) free_slot in
    let gone = idle t old.status (not-true _ (first_passes (λ o. not (is_live t o.status)) slots free_slot h)) in
    omega (arith, sum-set (λ o. bit (is_pending t o.status)) slots (free_place t slots) s free_slot h, ap bit gone)

-- A new opening

-- the slot of its connection, early or plain
abbrev pub slot_for : Bool → List ℕ → List ℕ → ℕ → ℕ → Slot
slot_for early src seg iss n = new_slot (block src) (sender src seg).port (fields_of seg).seq iss (new_status early n)

-- its checks: those of the wire, and 8 where no place is free
abbrev new_checks : Listener → ℕ → List ℕ → List ℕ → ℕ → Checks
new_checks l t src seg out_len =
    wire_checks l.local (is_untimely l.clock t) src seg out_len ++ ((TableFull, not (ltb (free_place t l.slots) 64)) ∷ [])

-- what is known of one that is clear
pub record Admitted (l : Listener) (t : ℕ) : Type 0 where
  pub started : l.local.started ≡ true
  pub place : free_place t l.slots < 64

-- cookies are enabled where Fast Open is on, pending below the limit, and the address's below the share
pub enabled : (l : Listener) (t : ℕ) (p : Peer) → l.settings.on ≡ true → pending_at t l.slots < l.settings.limit
    → pending_from t (block p.address) l.slots < l.settings.share → cookies_enabled (view l t p) ≡ true
enabled l t p on below spare =
    ap₂ ◌&&◌ on (ap₂ ◌&&◌ (lt-ltb (pending_at t l.slots) l.settings.limit below) (lt-ltb (pending_from t (block p.address) l.slots) l.settings.share spare))

-- a new opening is early, and its SYN-ACK has a fresh cookie, where cookies are enabled and by what it carries
pub early_is : (v : View) (b seg : List ℕ) → is_early v b seg ≡ cookies_enabled v && right v.keys b (carried_at v seg)
unfolding is_early
early_is v b seg = refl

pub fresh_is : (v : View) (b seg : List ℕ) → is_fresh v b seg ≡ cookies_enabled v && (counts (carried_at v seg) && not (right_under v.keys.present b (carried_at v seg)))
unfolding is_fresh
fresh_is v b seg = refl

-- without a right cookie it is not early
pub wrong_plain : (v : View) (b seg : List ℕ) → right v.keys b (carried_at v seg) ≡ false → is_early v b seg ≡ false
wrong_plain v b seg w = early_is v b seg ∙ rw w (and-false (cookies_enabled v))

-- where cookies are enabled it is early with a right cookie, and gets a fresh one where an option counts without a right one
pub is_early_lem : (v : View) (b seg : List ℕ) → cookies_enabled v ≡ true → right v.keys b (carried_at v seg) ≡ true → is_early v b seg ≡ true
is_early_lem v b seg e r = early_is v b seg ∙ ap₂ ◌&&◌ e r

pub wrong_fresh : (v : View) (b seg : List ℕ) → cookies_enabled v ≡ true → right v.keys b (carried_at v seg) ≡ false → counts (carried_at v seg) ≡ true → is_fresh v b seg ≡ true
wrong_fresh v b seg e w some = fresh_is v b seg ∙ ap₂ ◌&&◌ e (rw (some, wrong_now v.keys b (carried_at v seg) w))

-- where they are not it is plain and gets none
pub not_early : (v : View) (b seg : List ℕ) → cookies_enabled v ≡ false → is_early v b seg ≡ false
not_early v b seg e = early_is v b seg ∙ rw e

pub not_fresh : (v : View) (b seg : List ℕ) → cookies_enabled v ≡ false → is_fresh v b seg ≡ false
not_fresh v b seg e = fresh_is v b seg ∙ rw e

module _ (l : Listener) (t : ℕ) (src seg : List ℕ) (iss out_len : ℕ) (syn : kind_of (fields_of seg).flags ≡ Syn)
    (new : known (view l t (sender src seg)) ≡ false) where
  checked_new : call_check l (segment t src seg iss out_len) ≡ refusal (new_checks l t src seg out_len)
  unfolding call_check
  checked_new = rw (syn, new)

  -- it is clear where the wire checks are and a place is free
  pub new-clear : refusal (wire_checks l.local (is_untimely l.clock t) src seg out_len) ≡ all_clear → free_place t l.slots < 64
      → call_check l (segment t src seg iss out_len) ≡ all_clear
  new-clear e h = checked_new ∙ rw (lt-ltb (free_place t l.slots) 64 h) e

  -- and where it is clear, these hold: 13 and 8 by their places in the order
  pub clear-new : call_check l (segment t src seg iss out_len) ≡ all_clear → Admitted l t
  clear-new e =
      let n = none-applies order (new_checks l t src seg out_len) (sym checked_new ∙ e) in
      record {
        started = not-false _ n.1.1.0;
        place = ltb-true _ _ (not-false _ n.1.1.1.1.1.1.1.1.1.1.1.1.1.0);
      }

  -- its event
  pub step-new : (early : Bool) → is_early (view l t (sender src seg)) (block src) seg ≡ early → call_check l (segment t src seg iss out_len) ≡ all_clear
      → step l (segment t src seg iss out_len)
      ≡ outcome (put l t (free_place t l.slots) (slot_for early src seg iss (accepts l.settings seg))) (new_event early (accepts l.settings seg))
      (length (syn_ack_to (view l t (sender src seg)) src (slot_for early src seg iss (accepts l.settings seg))
      (is_fresh (view l t (sender src seg)) (block src) seg) (coding_for (view l t (sender src seg)) seg) out_len))
      (remarks_of l.settings.codings seg)
  unfolding step after
  step-new true e c = rw (c, syn, new, e)
  step-new false e c = rw (c, syn, new, e)
