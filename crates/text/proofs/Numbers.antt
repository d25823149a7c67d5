-- Numbers: what a digit counts, one more digit, and the word as a whole. Assumes nothing.
use Prim.Native.Nat.{ℕ, ◌+◌, ◌-◌, ◌*◌, ◌≤◌, ◌<◌}
use mathlib.Core.Path.{◌≡◌, refl, sym, ap, ◌∙◌}
use mathlib.Core.Bool.{Bool, true, false, cond, ◌&&◌}
use mathlib.Core.List.{List, [], ◌∷◌}
use native.Mathlib.Numerals.{add-one}
use native.Mathlib.Omega.{arith}
use lib.Dec.{leb, ltb}
use lib.ListN.{length, drop, get_or, drop_of_length-le}
use lib.Seq.{drop-cons}
use borrow.Author.Tests.{le-leb, lt-leb, lt-ltb, le-ltb}
use Rattle.lists.specs.Lists.{every}
use Rattle.std.specs.Prelude.{Option, Some, None}
use Rattle.text.specs.Number.{is_digit, digit, value_from, number_as, number_in}

-- a byte that counts something is a digit, and any other is none
pub a_digit : (b d : ℕ) → Some d ≡ digit b → (is_digit b ≡ true) × (d ≡ b - 48)
a_digit b d e = go (is_digit b) refl e
  where
    go : (t : Bool) → is_digit b ≡ t → Some d ≡ cond t (Some (b - 48)) None → (is_digit b ≡ true) × (d ≡ b - 48)
    go true t e = (t, cc)
    go false t e = cc

pub no_digit : (b : ℕ) → None ≡ digit b → is_digit b ≡ false
no_digit b e = go (is_digit b) refl e
  where
    go : (t : Bool) → is_digit b ≡ t → None ≡ cond t (Some (b - 48)) None → is_digit b ≡ false
    go true t e = cc
    go false t e = t

-- further digits only make a number larger
pub value_grows : (n : ℕ) (s : List ℕ) → n ≤ value_from n s
unfolding value_from
value_grows n [] = omega arith
value_grows n (b ∷ s) = omega (arith, value_grows (n * 10 + (b - 48)) s)

module _ (n : ℕ) (s : List ℕ) (i : ℕ) where
  pub one_digit : i < length s → value_from n (drop i s) ≡ value_from (n * 10 + (get_or s i 0 - 48)) (drop (i + 1) s)
  unfolding value_from
  one_digit h = rw add-one (ap (value_from n) (drop-cons s i 0 h))

  pub no_more : length s ≤ i → value_from n (drop i s) ≡ n
  unfolding value_from
  no_more h = ap (value_from n) (drop_of_length-le s h)

-- The whole word

module _ (s : List ℕ) (most : ℕ) where
  tested_number : Bool → Bool → Bool → Option ℕ
  tested_number some digits small = cond ((some && digits) && small) (Some (value_from 0 s)) None

  tested : (some digits small : Bool) → ltb 0 (length s) ≡ some → every is_digit s ≡ digits → leb (value_from 0 s) most ≡ small → number_in s most ≡ tested_number some digits small
  unfolding number_as tested_number
  tested some digits small p q r = rw (p, q, r)

  pub number-empty : length s ≡ 0 → None ≡ number_in s most
  unfolding tested_number
  number-empty h = sym (tested false _ _ (le-ltb 0 (length s) (omega arith)) refl refl)

  pub number_other : false ≡ every is_digit s → None ≡ number_in s most
  unfolding tested_number
  number_other h = sym (tested _ false _ refl (sym h) refl ∙ go (ltb 0 (length s)) _)
    where
      go : (t u : Bool) → tested_number t false u ≡ None
      go true u = refl
      go false u = refl

  pub number_large : most < value_from 0 s → None ≡ number_in s most
  unfolding tested_number
  number_large h = sym (tested _ _ false refl refl (lt-leb _ _ h) ∙ go (ltb 0 (length s) && every is_digit s))
    where
      go : (t : Bool) → cond (t && false) (Some (value_from 0 s)) None ≡ None
      go true = refl
      go false = refl

  pub number_read : 0 < length s → true ≡ every is_digit s → value_from 0 s ≤ most → Some (value_from 0 s) ≡ number_in s most
  unfolding tested_number
  number_read h d k = sym (tested true true true (lt-ltb _ _ h) (sym d) (le-leb _ _ k))

  -- the digits so far and one more say too much
  pub number_past : (n i : ℕ) → i < length s → value_from n (drop i s) ≡ value_from 0 s → most < n * 10 + (get_or s i 0 - 48) → None ≡ number_in s most
  number_past n i h so_far k = number_large (omega (arith, so_far, one_digit n s i h, value_grows (n * 10 + (get_or s i 0 - 48)) (drop (i + 1) s)))
