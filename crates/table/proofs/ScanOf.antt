-- One scan of the table finds `scan_of`. Assumes nothing.
use Rattle.std.specs.Prelude.{Option, None, Some}
use Rattle.std.specs.Option.{option_or}
use Rattle.std.specs.List.{count_by}
use Rattle.std.proofs.lemmas.List.Sums.{sum_by-cons}
use Rattle.std.proofs.Common.{◌≡◌, ℕ, suc, ◌+◌, ◌<◌, ◌≤◌, Bool, true, false, cond, not, List, [], ◌∷◌, length, get_or, drop, sym, refl, ◌∙◌, add-one, arith, drop_of_length-le, drop-cons, lt-ltb}
use Rattle.lists.specs.Lists.{bit, tally, first_index}
use Rattle.lists.proofs.Sums.{bit-most, present}
use Rattle.lists.proofs.Places.{Counted, counted-on, counted_all}
use Rattle.endpoint.specs.Address.{same_name}
use Rattle.protocol.specs.Table.{is_live, is_pending, free_slot, holds_peer, scan_of}
use Rattle.table.specs.Scan.{place_of, found, first_place, count_if, scan_with, empty_scan}
use Rattle.protocol.specs.declared.slots.Slot.{Slot}
use Rattle.table.specs.declared.scan.Scan.{Scan}
use Rattle.protocol.proofs.Table.{idle, not_live, live}

-- One slot: whether it is live, then its name
module _ (t : ℕ) (b : List ℕ) (port : ℕ) (s : Slot) (scan : Scan) (i : ℕ) where
  -- a test that fails leaves the place found before
  stays : (found : Option ℕ) → found ≡ first_place found i false
  stays None = refl
  stays (Some x) = refl

  pub scan_free : is_live t s.status ≡ false
      → record { place = scan.place; free = first_place scan.free i true; pending = scan.pending } ≡ scan_with scan i t b port s
  unfolding scan_with
  scan_free e = rw (not_live t b port s e, e, idle t s.status e, sym (stays scan.place))

  -- a live slot is counted first
  module _ (e : is_live t s.status ≡ true) {here : Bool} (eh : here ≡ is_pending t s.status) {counted : Scan}
      (ec : counted ≡ record { place = scan.place; free = scan.free; pending = count_if scan.pending here }) where
    pub scan_other : same_name s.port port s.addr b ≡ false → counted ≡ scan_with scan i t b port s
    unfolding scan_with
    scan_other n = ec ∙ rw (live t b port s e, eh, e, n, sym (stays scan.place), sym (stays scan.free))

    pub scan_peer : same_name s.port port s.addr b ≡ true
        → record { place = first_place counted.place i true; free = counted.free; pending = counted.pending } ≡ scan_with scan i t b port s
    unfolding scan_with
    scan_peer n = rw (live t b port s e, ec, eh, e, n, sym (stays scan.free))

module _ (p : Slot → Bool) where
  -- the first place where the test passes, from place i on, where `found` was found before
  pub first_from : ℕ → List Slot → Option ℕ → Option ℕ
  first_from i [] found = found
  first_from i (s ∷ ss) found = first_from (suc i) ss (first_place found i (p s))

  -- a place that was found before i stays; where none was, the first from i on is it
  first_found : (i : ℕ) (ss : List Slot) (found : Option ℕ) → i + length ss ≡ 64 → first_from i ss found ≡ option_or found (place_of (i + first_index p ss))
  unfolding first_from
  first_found i [] (Some x) n = refl
  first_found i [] None n =
      let past : i + 0 ≡ 64 = omega arith in
      rw past refl
  first_found i (s ∷ ss) (Some x) n = first_found (suc i) ss (Some x) (omega arith)
  first_found i (s ∷ ss) None n = go (λ f. first_found (suc i) ss f (omega arith)) (p s)
    where
      go : ((f : Option ℕ) → first_from (suc i) ss f ≡ option_or f (place_of (suc i + first_index p ss))) → (q : Bool)
          → first_from (suc i) ss (first_place None i q) ≡ place_of (i + cond q 0 (suc (first_index p ss)))
      go more true =
          let here : i + 0 ≡ i = omega arith in
          more (Some i) ∙ rw (here, lt-ltb i 64 (omega arith)) refl
      go more false =
          let next : suc i + first_index p ss ≡ i + suc (first_index p ss) = omega arith in
          more None ∙ rw next refl

  -- from the start
  first-start : (ss : List Slot) → length ss ≡ 64 → first_from 0 ss None ≡ place_of (first_index p ss)
  first-start ss n =
      let all : 0 + first_index p ss ≡ first_index p ss = omega arith in
      first_found 0 ss None (omega arith) ∙ rw all refl

  -- one slot further
  first_on : (ss : List Slot) (i : ℕ) (found x : Option ℕ) → i < length ss → first_from i (drop i ss) found ≡ x
      → first_from (i + 1) (drop (i + 1) ss) (first_place found i (p (get_or ss i free_slot))) ≡ x
  unfolding first_from
  first_on ss i found x h e = rw add-one (rw (drop-cons ss i free_slot h) at e)

  first-end : (ss : List Slot) (i : ℕ) (found x : Option ℕ) → length ss ≤ i → first_from i (drop i ss) found ≡ x → found ≡ x
  unfolding first_from
  first-end ss i found x h e = rw (drop_of_length-le ss h) at e

-- one more, or not, of fewer than 64
count_is : (n i : ℕ) (b : Bool) → n ≤ i → i < 64 → count_if n b ≡ n + bit b
count_is n i true h k = omega arith
count_is n i false h k = omega arith

-- the slots that pass a test, counted up to place i
module _ (p : Slot → Bool) (slots : List Slot) where
  pub record CountedTo (i n : ℕ) : Type 0 where
    pub passed : Counted p slots n i
    pub few : n ≤ i

  pub counted_start : CountedTo 0 0
  counted_start = record { passed = omega arith; few = omega arith }

  pub counted_next : (i n next : ℕ) (d : Slot) {here : Bool} → length slots ≡ 64 → i < length slots → CountedTo i n → here ≡ p (get_or slots i d) → next ≡ count_if n here
      → CountedTo (i + 1) next
  counted_next i n next d {here} m h k q e =
      let c = e ∙ count_is n i here k.few (omega arith) in
      rw c record { passed = counted-on p slots i d h n here (sym q) k.passed; few = omega (arith, k.few, bit-most here) }

  pub counted-end : (i n : ℕ) → length slots ≤ i → CountedTo i n → n ≡ tally p slots
  counted-end i n h k = counted_all p slots i h n k.passed

-- as std counts them
pub counted : {A : Type 0} (p : A → Bool) (xs : List A) → count_by p xs ≡ tally p xs
counted p [] = refl
counted p (x ∷ xs) = sum_by-cons (λ y. cond (p y) 1 0) x xs ∙ (rw (counted p xs) (go (p x)))
  where
    go : (here : Bool) → cond here 1 0 + tally p xs ≡ bit here + tally p xs
    go true = refl
    go false = refl

module _ (t : ℕ) (b : List ℕ) (port : ℕ) (slots : List Slot) where
  abbrev vacant : Slot → Bool
  vacant s = not (is_live t s.status)

  abbrev pends : Slot → Bool
  pends s = is_pending t s.status

  -- what is known when the scan has come to place i
  pub record ScannedTo (i : ℕ) (scan : Scan) : Type 0 where
    pub place : first_from (holds_peer t b port) i (drop i slots) scan.place ≡ place_of (first_index (holds_peer t b port) slots)
    pub free : first_from vacant i (drop i slots) scan.free ≡ place_of (first_index vacant slots)
    pub pending : CountedTo pends slots i scan.pending

  pub scan_start : length slots ≡ 64 → ScannedTo 0 empty_scan
  scan_start n = record { place = first-start (holds_peer t b port) slots n; free = first-start vacant slots n; pending = counted_start pends slots }

  pub scan_on : (i : ℕ) (scan next : Scan) (d : Slot) → length slots ≡ 64 → i < length slots → ScannedTo i scan → next ≡ scan_with scan i t b port (get_or slots i d) → ScannedTo (i + 1) next
  unfolding scan_with
  scan_on i scan next d n h k e =
      rw (e, present slots i d free_slot h) record {
        place = first_on (holds_peer t b port) slots i scan.place _ h k.place;
        free = first_on vacant slots i scan.free _ h k.free;
        pending = counted_next pends slots i scan.pending _ free_slot n h k.pending refl refl;
      }

  pub scan_end : (i : ℕ) (scan : Scan) → length slots ≤ i → ScannedTo i scan → scan ≡ found (scan_of t b port slots)
  scan_end i scan h k =
      let p = first-end (holds_peer t b port) slots i scan.place _ h k.place in
      let f = first-end vacant slots i scan.free _ h k.free in
      let n = counted-end pends slots i scan.pending h k.pending in
      λ j. record { place = p j; free = f j; pending = n j }
