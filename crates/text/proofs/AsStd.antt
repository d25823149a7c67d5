-- The words of `lists` and of this crate are those of std, in which its iterators say what they give. Assumes nothing.
use Prim.Native.Nat.{ℕ, suc, ◌+◌, ◌≤◌}
use mathlib.Core.Path.{◌≡◌, refl, sym, ap}
use mathlib.Core.Bool.{Bool, true, false, cond, ◌&&◌}
use mathlib.Core.List.{List, [], ◌∷◌}
use native.Mathlib.Omega.{arith}
use lib.Dec.{eqb, ltb}
use lib.ListN.{length}
use borrow.Author.Tests.{ltb-false}
use Rattle.std.specs.Prelude.{Some, None, unwrap_or, is_some}
use lib.Pointwise.{pointwise}
use Rattle.std.specs.List.{list_all, count_by, position_or_len, position}
use Rattle.std.proofs.lemmas.List.Recursion.{is_count_by, is_position_or_len}
use Rattle.lists.specs.Bytes.{same_bytes}
use Rattle.lists.specs.Lists.{bit, tally, first_index, every}

module _ {A : Type 0} (p : A → Bool) where
  pub all_every : (s : List A) → list_all p s ≡ every p s
  all_every [] = refl
  all_every (x ∷ s) = ap (λ (b : Bool). p x && b) (all_every s)

  pub count_tally : (s : List A) → count_by p s ≡ tally p s
  count_tally s = sym (is_count_by (tally p) p refl (λ x xs. step (p x) (tally p xs)) s)
    where
      step : (b : Bool) (n : ℕ) → bit b + n ≡ cond b (1 + n) n
      step true n = refl
      step false n = omega arith

  -- at most the length
  pub first_most : (s : List A) → first_index p s ≤ length s
  first_most [] = omega arith
  first_most (x ∷ s) = go (p x) (first_most s)
    where
      go : (t : Bool) → first_index p s ≤ length s → cond t 0 (suc (first_index p s)) ≤ suc (length s)
      go true h = omega arith
      go false h = omega arith

  pub place_first : (s : List A) → position_or_len p s ≡ first_index p s
  place_first s = sym (is_position_or_len (first_index p) p refl (λ x xs. ap (cond (p x) 0) (omega arith)) s)

pub same_pairs : (s t : List ℕ) → pointwise eqb s t ≡ same_bytes s t
unfolding same_bytes
same_pairs [] [] = refl
same_pairs [] (y ∷ t) = refl
same_pairs (x ∷ s) [] = refl
same_pairs (x ∷ s) (y ∷ t) = ap (λ (b : Bool). eqb x y && b) (same_pairs s t)

-- the place of the first that passes, or the length
pub first_or_length : {A : Type 0} (p : A → Bool) (s : List A) → unwrap_or (position p s) (length s) ≡ first_index p s
first_or_length p s = rw (place_first p s) (go (ltb (first_index p s) (length s)) refl)
  where
    go : (t : Bool) → ltb (first_index p s) (length s) ≡ t → unwrap_or (cond t (Some (first_index p s)) None) (length s) ≡ first_index p s
    go true e = refl
    go false e = omega (arith, ltb-false _ _ e, first_most p s)

pub is_some_if : {A : Type 0} (t : Bool) (x : A) → is_some (cond t (Some x) None) ≡ t
is_some_if true x = refl
is_some_if false x = refl
