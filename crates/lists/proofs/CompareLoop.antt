-- The loops that compare bytes one by one. Assumes nothing.
use Prim.Native.Nat.{ℕ, suc, ◌+◌, ◌≤◌, ◌<◌}
use mathlib.Core.Path.{◌≡◌, sym, ap, ◌∙◌}
use mathlib.Core.Bool.{Bool, false, ◌&&◌, and_assoc, and-false, and-true}
use mathlib.Core.List.{List, [], ◌∷◌}
use native.Mathlib.Numerals.{add-one}
use lib.Dec.{eqb}
use lib.ListN.{length, drop, get_or, drop_of_length-le}
use lib.Seq.{drop-cons}
use borrow.Author.Tests.{eq-eqb, ne_eqb}
use Rattle.std.proofs.lemmas.List.{nil_from_length}
use Rattle.lists.specs.Bytes.{same_bytes}

-- At place i of two lists: `was` says whether all before was the same, and `whole` what it comes to in the end.
module _ (a b : List ℕ) (i : ℕ) (was whole : Bool) (so_far : was && same_bytes (drop i a) (drop i b) ≡ whole) where
  module _ (ha : i < length a) (hb : i < length b) where
    one_more : same_bytes (drop i a) (drop i b) ≡ eqb (get_or a i 0) (get_or b i 0) && same_bytes (drop (i + 1) a) (drop (i + 1) b)
    unfolding same_bytes
    one_more = rw (add-one, drop-cons a i 0, drop-cons b i 0)

    -- the bytes there differ
    pub differ : (now : Bool) → now ≡ false → (get_or a i 0 ≡ get_or b i 0 → ⊥) → now && same_bytes (drop (i + 1) a) (drop (i + 1) b) ≡ whole
    differ now n d = rw n (sym (and-false was) ∙ (rw (one_more, ne_eqb _ _ d) at so_far))

    -- the bytes there are equal
    pub agree : (now : Bool) → now ≡ was → get_or a i 0 ≡ get_or b i 0 → now && same_bytes (drop (i + 1) a) (drop (i + 1) b) ≡ whole
    agree now n d = rw n (rw (one_more, eq-eqb _ _ d) at so_far)

  -- no bytes are left
  pub at-end : length a ≤ i → length b ≤ i → was ≡ whole
  unfolding same_bytes
  at-end ha hb = sym (and-true was) ∙ (rw (drop_of_length-le a ha, drop_of_length-le b hb) at so_far)

-- Over the `zip` of two lists of one length, of which a and b are left: `was` says whether all before was the same.
module _ (a b : List ℕ) (was whole : Bool) (long : length a ≡ length b) (so_far : was && same_bytes a b ≡ whole) where
  -- one pair more
  pub pair_more : (x y : ℕ) (xs ys : List ℕ) → a ≡ x ∷ xs → b ≡ y ∷ ys → (length xs ≡ length ys) × ((was && eqb x y) && same_bytes xs ys ≡ whole)
  unfolding same_bytes
  pair_more x y xs ys e f = let n : suc (length xs) ≡ suc (length ys) = rw (e, f) at long in (cc, and_assoc was (eqb x y) (same_bytes xs ys) ∙ (rw (e, f) at so_far))

  -- no pair is left
  pub pairs_end : a ≡ [] → was ≡ whole
  unfolding same_bytes
  pairs_end e = let f : b ≡ [] = nil_from_length b (sym long ∙ ap length e) in sym (and-true was) ∙ (rw (e, f) at so_far)
