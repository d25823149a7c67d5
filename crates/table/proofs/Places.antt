-- What a search finds, and the slot that stands at a place that was found. Assumes nothing.
use Rattle.std.specs.Prelude.{None, Some, is_some}
use Rattle.std.specs.List.{position, position_or_len}
use Rattle.std.proofs.lemmas.List.Recursion.{is_position_or_len}
use Rattle.std.proofs.Math.Seq.{set_out}
use Rattle.std.proofs.Common.{◌≡◌, ℕ, suc, ◌+◌, ◌<◌, Bool, true, false, cond, ltb, List, length, get_or, set, sym, refl, arith, ltb-false, ltb-true}
use mathlib.Core.Bool.{false≢true}
use lib.ListN.{get_or-eq_default}
use Rattle.lists.specs.Lists.{first_index}
use Rattle.protocol.specs.Table.{is_free, free_slot, holds_peer, scan_of}
use Rattle.protocol.specs.declared.slots.Slot.{Slot}
use Rattle.table.specs.Scan.{place_of, slot_found, stored}

-- a place is there if it is one of the table
pub is_place : (i : ℕ) → is_some (place_of i) ≡ ltb i 64
is_place i = go (ltb i 64)
  where
    go : (b : Bool) → is_some (cond b (Some i) None) ≡ b
    go true = refl
    go false = refl

module _ (slots : List Slot) (full : length slots ≡ 64) where
  -- the place of the first slot that passes a test
  first-place : (p : Slot → Bool) → position p slots ≡ place_of (first_index p slots)
  first-place p =
      let same : first_index p slots ≡ position_or_len p slots = is_position_or_len (first_index p) p refl (λ x xs. go (p x) (first_index p xs)) slots in
      rw (full, sym same) refl
    where
      go : (b : Bool) (n : ℕ) → cond b 0 (suc n) ≡ cond b 0 (1 + n)
      go true n = refl
      go false n = omega arith

  -- a search finds the peer's place
  pub search_is : (t : ℕ) (b : List ℕ) (p : ℕ) → position (holds_peer t b p) slots ≡ place_of (scan_of t b p slots).place
  search_is t b p = first-place (holds_peer t b p)

  module _ (i : ℕ) where
    -- the slot at a place, read in the table and stored there
    pub slot_read : slot_found slots (place_of i) ≡ get_or slots i free_slot
    slot_read = go (ltb i 64) refl
      where
        go : (b : Bool) → ltb i 64 ≡ b → slot_found slots (cond b (Some i) None) ≡ get_or slots i free_slot
        go true e = refl
        go false e = sym (get_or-eq_default slots free_slot (omega (arith, full, ltb-false i 64 e)))

    pub slot_stored : (s : Slot) → stored slots (place_of i) s ≡ set slots i s
    slot_stored s = go (ltb i 64) refl
      where
        go : (b : Bool) → ltb i 64 ≡ b → stored slots (cond b (Some i) None) s ≡ set slots i s
        go true e = refl
        go false e = sym (set_out slots i s (omega (arith, full, ltb-false i 64 e)))

    -- and a slot that is not free stands in it
    pub in_table : is_free (get_or slots i free_slot).status ≡ false → i < 64
    in_table e = go (ltb i 64) refl
      where
        go : (b : Bool) → ltb i 64 ≡ b → i < 64
        go true q = ltb-true i 64 q
        go false q =
            let past : get_or slots i free_slot ≡ free_slot = get_or-eq_default slots free_slot (omega (arith, full, ltb-false i 64 q)) in
            absurd (false≢true (sym (rw past at e)))
