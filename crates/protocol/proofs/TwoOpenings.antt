-- The letter's worst day: two openings with one right cookie and one number, from two ports, are both early. Assumes nothing.
use Prim.Native.Nat.{ℕ, ◌+◌, ◌≤◌, ◌<◌, min}
use mathlib.Core.Path.{◌≡◌, sym, ap, subst}
use mathlib.Core.Bool.{Bool, true, false, not, and-false}
use mathlib.Core.List.{List}
use native.Mathlib.Omega.{arith}
use borrow.Author.Tests.{ltb-false, le-ltb, ne_eqb}
use lib.Dec.{ltb}
use lib.ListN.{length, get_or, set, take, length-set}
use Rattle.segment.specs.Refusal.{order}
use Rattle.segment.specs.Header.{payload_of}
use Rattle.lists.proofs.Bools.{or_false}
use Rattle.segment.proofs.NumberOf.{none-applies}
use Rattle.lists.specs.Lists.{bit, tally}
use Rattle.endpoint.specs.Address.{Peer, block}
use Rattle.endpoint.specs.Checks.{is_untimely}
use Rattle.lists.proofs.Sums.{bit-most, sum_le, sum-set}
use Rattle.protocol.specs.Cookie.{carried_by, right}
use Rattle.protocol.specs.Table.{is_live, is_pending, free_slot, holds_peer, free_place, pending_at, pends_from, pending_from}
use Rattle.protocol.specs.Call.{sender, accepted_part}
use Rattle.protocol.specs.View.{known, view}
use Rattle.protocol.specs.Refusals.{wire_checks}
use Rattle.protocol.specs.Step.{cookies_enabled, put, step}
use Rattle.protocol.specs.TwoOpenings.{Arrival, call_of, Opens, TwoOpenings, up_to_early_room, BothEarly}
use Rattle.protocol.specs.declared.slots.Slot.{Slot}
use Rattle.protocol.specs.declared.state.Listener.{Listener}
use Rattle.protocol.specs.declared.outcome.Event.TheVariants as events
use Rattle.protocol.proofs.Table.{and_most, live_earlier, pending_earlier, from_earlier}
use Rattle.protocol.proofs.Openings.{first_found, holding, unknown-none, none-unknown, slot_for, enabled, is_early_lem, new-clear, step-new}

-- Tests, as numbers

not_least : (a b : Bool) → bit a ≤ bit b → bit (not b) ≤ bit (not a)
not_least true true h = omega arith
not_least true false h = absurd (omega (arith, h))
not_least false true h = omega arith
not_least false false h = omega arith

-- Slots

other_port : (t : ℕ) (p : Peer) (s : Slot) → (s.port ≡ p.port → ⊥) → holding t p s ≡ false
unfolding holds_peer
other_port t p s h = rw (ne_eqb s.port p.port h) (and-false (is_live t s.status))

-- from one time to a later one

module _ (t u : ℕ) (later : t ≤ u) where
  holds_earlier : (b : List ℕ) (port : ℕ) (s : Slot) → bit (holds_peer u b port s) ≤ bit (holds_peer t b port s)
  unfolding holds_peer
  holds_earlier b port s = and_most (is_live u s.status) (is_live t s.status) _ (live_earlier t u later s.status)

  -- a slot is set in between: at most one more passes a test that is passed no more often later
  most-later : (p q : Slot → Bool) → ((o : Slot) → bit (p o) ≤ bit (q o)) → (slots : List Slot) (i : ℕ) (s : Slot) → i < length slots → tally p (set slots i s) ≤ tally q slots + 1
  most-later p q h slots i s fits =
      omega (arith, sum-set (λ o. bit (p o)) slots i s free_slot fits, sum_le (λ o. bit (p o)) (λ o. bit (q o)) h slots, bit-most (p s))

  module _ (slots : List Slot) (i : ℕ) (s : Slot) (fits : i < length slots) where
    -- a peer with another port was not there and still is not
    held-later : (p : Peer) → (s.port ≡ p.port → ⊥) → tally (holding t p) slots ≡ 0 → tally (holding u p) (set slots i s) ≡ 0
    held-later p e z = omega (
      arith,
      sum-set (λ o. bit (holding u p o)) slots i s free_slot fits,
      sum_le (λ o. bit (holding u p o)) (λ o. bit (holding t p o)) (holds_earlier (block p.address) p.port) slots,
      z,
      ap bit (other_port u p s e),
    )

    -- at most one free slot is taken, and at most one more is pending
    free-later : tally (λ o. not (is_live t o.status)) slots ≤ tally (λ o. not (is_live u o.status)) (set slots i s) + 1
    free-later = omega (
      arith,
      sum-set (λ o. bit (not (is_live u o.status))) slots i s free_slot fits,
      sum_le (λ o. bit (not (is_live t o.status))) (λ o. bit (not (is_live u o.status)))
          (λ o. not_least (is_live u o.status) (is_live t o.status) (live_earlier t u later o.status)) slots,
      bit-most (not (is_live u (get_or slots i free_slot).status)),
    )

    pending-later : pending_at u (set slots i s) ≤ pending_at t slots + 1
    pending-later = most-later (λ o. is_pending u o.status) (λ o. is_pending t o.status) (λ o. pending_earlier t u later o.status) slots i s fits

    from_later : (b : List ℕ) → pending_from u b (set slots i s) ≤ pending_from t b slots + 1
    from_later b = most-later (pends_from u b) (pends_from t b) (from_earlier t u later b) slots i s fits

-- An opening

-- all of what is accepted is there
part_whole : (seg : List ℕ) (out_len : ℕ) → accepted_part seg (events.FastOpened (min (length (payload_of seg)) out_len))
    ≡ take (min (length (payload_of seg)) out_len) (payload_of seg)
unfolding accepted_part
part_whole seg out_len = rw (le-ltb (length (payload_of seg)) (min (length (payload_of seg)) out_len) (omega arith))

-- a new one with a right cookie, where cookies are enabled, is early and takes the free place
early : (l : Listener) (src : List ℕ) (a : Arrival) → Opens l src a → known (view l a.time (sender src a.seg)) ≡ false
    → free_place a.time l.slots < 64 → cookies_enabled (view l a.time (sender src a.seg)) ≡ true
    → right l.keys (block src) (carried_by l.settings.codings a.seg) ≡ true
    → ((step l (call_of src a)).event ≡ events.FastOpened (up_to_early_room l a))
    × ((step l (call_of src a)).listener ≡ put l a.time (free_place a.time l.slots) (slot_for true src a.seg a.iss (up_to_early_room l a)))
early l src a o new free on r =
    let clear = new-clear l a.time src a.seg a.iss a.out_len o.syn new o.clear free in
    let e = step-new l a.time src a.seg a.iss a.out_len o.syn new true (is_early_lem (view l a.time (sender src a.seg)) (block src) a.seg on r) clear in
    (rw e, rw e)

-- a clear one is not before the listener's clock
on-time : (l : Listener) (src : List ℕ) (a : Arrival) → Opens l src a → l.clock ≤ a.time
on-time l src a o =
    let n = none-applies order (wire_checks l.local (is_untimely l.clock a.time) src a.seg a.out_len) o.clear in
    ltb-false a.time l.clock (or_false (ltb a.time l.clock) _ n.1.1.1.0).0

-- Two openings

pub both-early : (l : Listener) (src : List ℕ) (a b : Arrival) → TwoOpenings l src a b → BothEarly l src a b
both-early l src a b w =
    record {
      first = one.0;
      first_part = rw one.0 (part_whole a.seg l.settings.early_room);
      second = two;
      second-part = rw two (part_whole b.seg l.settings.early_room);
    }
  where
    t : ℕ
    t = a.time

    u : ℕ
    u = b.time

    i : ℕ
    i = free_place t l.slots

    s : Slot
    s = slot_for true src a.seg a.iss (up_to_early_room l a)

    -- the listener that the first one leaves
    m : Listener
    m = put l t i s

    fits : i < length l.slots
    fits = first_found (λ o. not (is_live t o.status)) l.slots (omega (arith, w.free))

    one : ((step l (call_of src a)).event ≡ events.FastOpened (up_to_early_room l a)) × ((step l (call_of src a)).listener ≡ m)
    one = early l src a w.first w.first-new (omega (arith, fits, w.slots)) (enabled l t (sender src a.seg) w.on (omega (arith, w.below)) (omega (arith, w.spare))) w.right-cookie

    opens : Opens m src b
    opens = subst (λ x. Opens x src b) one.1 w.second

    later : t ≤ u
    later = on-time m src b opens

    new : known (view m u (sender src b.seg)) ≡ false
    new = none-unknown m u (sender src b.seg)
        (held-later t u later l.slots i s fits (sender src b.seg) w.two_ports (unknown-none l t (sender src b.seg) w.second-new))

    free : free_place u m.slots < 64
    free = omega (
      arith,
      first_found (λ o. not (is_live u o.status)) m.slots (omega (arith, w.free, free-later t u later l.slots i s fits)),
      length-set l.slots i s,
      w.slots,
    )

    two : (step (step l (call_of src a)).listener (call_of src b)).event ≡ events.FastOpened (up_to_early_room l b)
    two = subst (λ x. (step x (call_of src b)).event ≡ events.FastOpened (up_to_early_room l b)) (sym one.1)
        (early m src b opens new free (enabled m u (sender src b.seg) w.on (omega (arith, w.below, pending-later t u later l.slots i s fits)) (omega (arith, w.spare, from_later t u later l.slots i s fits (block src))))
        (rw w.one_cookie at w.right-cookie)).0
