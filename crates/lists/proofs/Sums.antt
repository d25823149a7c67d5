-- Elements of a list, sums of a weight over it, the first place of a test, amendments, and rules that hold of every element. Assumes nothing.
use Prim.Native.Nat.{ℕ, zero, suc, ◌+◌, ◌≤◌, ◌<◌}
use mathlib.Core.Path.{◌≡◌, refl, sym, ap, ap₂, ◌∙◌}
use mathlib.Core.Bool.{Bool, true, false}
use mathlib.Core.List.{List, [], ◌∷◌, ◌++◌, append_assoc}
use native.Mathlib.Omega.{arith}
use native.Mathlib.Nat.{le_of_suc-le-suc, not-suc-le-zero}
use lib.ListN.{length, get_or, set, replicate}
use Rattle.lists.specs.Lists.{bit, sum, tally, first_index, amend}

pub bit-most : (b : Bool) → bit b ≤ 1
bit-most true = omega arith
bit-most false = omega arith

module _ {A : Type 0} where
  -- an element that is there is the same whatever stands in for one that is not
  pub present : (xs : List A) (i : ℕ) (d e : A) → i < length xs → get_or xs i d ≡ get_or xs i e
  present [] i d e h = absurd (not-suc-le-zero h)
  present (x ∷ xs) zero d e h = refl
  present (x ∷ xs) (suc i) d e h = present xs i d e (le_of_suc-le-suc h)

  -- Sums

  pub sum_ext : (u v : A → ℕ) → ((x : A) → u x ≡ v x) → (xs : List A) → sum u xs ≡ sum v xs
  sum_ext u v h [] = refl
  sum_ext u v h (x ∷ xs) = ap₂ ◌+◌ (h x) (sum_ext u v h xs)

  pub sum_le : (u v : A → ℕ) → ((x : A) → u x ≤ v x) → (xs : List A) → sum u xs ≤ sum v xs
  sum_le u v h [] = omega arith
  sum_le u v h (x ∷ xs) = omega (arith, h x, sum_le u v h xs)

  pub sum_zero : (u : A → ℕ) (n : ℕ) (x : A) → u x ≡ 0 → sum u (replicate n x) ≡ 0
  sum_zero u zero x h = refl
  sum_zero u (suc n) x h = omega (arith, h, sum_zero u n x h)

  sum-append : (w : A → ℕ) (xs ys : List A) → sum w (xs ++ ys) ≡ sum w xs + sum w ys
  sum-append w [] ys = omega arith
  sum-append w (x ∷ xs) ys = omega (arith, sum-append w xs ys)

  -- a weight after an amendment is a weight before it
  pub sum-amend : (w : A → ℕ) (f : A → List A) (xs : List A) → sum w (amend f xs) ≡ sum (λ x. sum w (f x)) xs
  sum-amend w f [] = refl
  sum-amend w f (x ∷ xs) = omega (arith, sum-append w (f x) (amend f xs), sum-amend w f xs)

  -- one element is replaced
  pub sum-set : (w : A → ℕ) (xs : List A) (i : ℕ) (y d : A) → i < length xs → sum w (set xs i y) + w (get_or xs i d) ≡ sum w xs + w y
  sum-set w [] i y d h = absurd (not-suc-le-zero h)
  sum-set w (x ∷ xs) zero y d h = omega arith
  sum-set w (x ∷ xs) (suc i) y d h = omega (arith, sum-set w xs i y d (le_of_suc-le-suc h))

  -- by one that weighs no more, wherever it stands
  pub sum-set-most : (w : A → ℕ) (xs : List A) (i : ℕ) (y d : A) → w y ≤ w (get_or xs i d) → sum w (set xs i y) ≤ sum w xs
  sum-set-most w [] i y d h = omega arith
  sum-set-most w (x ∷ xs) zero y d h = omega (arith, h)
  sum-set-most w (x ∷ xs) (suc i) y d h = omega (arith, sum-set-most w xs i y d h)

  -- two weights that agree where a test fails, and no element passes it
  sum_off : (p : A → Bool) (u v : A → ℕ) → ((x : A) → p x ≡ false → u x ≡ v x) → (xs : List A) → tally p xs ≡ 0 → sum u xs ≡ sum v xs
  sum_off p u v h [] z = refl
  sum_off p u v h (x ∷ xs) z = grind (arith, h x, sum_off p u v h xs)

  -- an element that passes is counted
  pub some_passes : (p : A → Bool) (xs : List A) (i : ℕ) (d : A) → i < length xs → p (get_or xs i d) ≡ true → 0 < tally p xs
  some_passes p [] i d h e = absurd (not-suc-le-zero h)
  some_passes p (x ∷ xs) zero d h e = omega (arith, ap bit e)
  some_passes p (x ∷ xs) (suc i) d h e = omega (arith, some_passes p xs i d (le_of_suc-le-suc h) e)

  -- and one element passes it
  pub sum-only : (p : A → Bool) (u v : A → ℕ) → ((x : A) → p x ≡ false → u x ≡ v x) → (xs : List A) (i : ℕ) (d : A) → tally p xs ≤ 1
      → i < length xs → p (get_or xs i d) ≡ true → sum u xs + v (get_or xs i d) ≡ sum v xs + u (get_or xs i d)
  sum-only p u v h [] i d o l e = absurd (not-suc-le-zero l)
  sum-only p u v h (x ∷ xs) zero d o l e = omega (arith, sum_off p u v h xs (omega (arith, o, ap bit e)))
  sum-only p u v h (x ∷ xs) (suc i) d o l e =
      let k : i < length xs = le_of_suc-le-suc l in grind (arith, h x, some_passes p xs i d k e, sum-only p u v h xs i d)

  -- The first place of a test

  pub first_passes : (p : A → Bool) (xs : List A) (d : A) → first_index p xs < length xs → p (get_or xs (first_index p xs) d) ≡ true
  first_passes p [] d h = absurd (not-suc-le-zero h)
  first_passes p (x ∷ xs) d h = grind (arith, first_passes p xs d)

  pub none_passes : (p : A → Bool) (xs : List A) → length xs ≤ first_index p xs → tally p xs ≡ 0
  none_passes p [] h = refl
  none_passes p (x ∷ xs) h = grind (arith, none_passes p xs)

  -- Amendments

  amend-append : (f : A → List A) (xs ys : List A) → amend f (xs ++ ys) ≡ amend f xs ++ amend f ys
  amend-append f [] ys = refl
  amend-append f (x ∷ xs) ys = ap (λ z. f x ++ z) (amend-append f xs ys) ∙ sym (append_assoc (f x) (amend f xs) (amend f ys))

  -- two amendments are one
  pub amend-amend : (f g : A → List A) (xs : List A) → amend g (amend f xs) ≡ amend (λ x. amend g (f x)) xs
  amend-amend f g [] = refl
  amend-amend f g (x ∷ xs) = amend-append g (f x) (amend f xs) ∙ ap (λ z. amend g (f x) ++ z) (amend-amend f g xs)

  pub amend_ext : (f g : A → List A) → ((x : A) → f x ≡ g x) → (xs : List A) → amend f xs ≡ amend g xs
  amend_ext f g h [] = refl
  amend_ext f g h (x ∷ xs) = ap₂ ◌++◌ (h x) (amend_ext f g h xs)

  -- Rules that hold of every element

  abbrev pub All : (A → Type 0) → List A → Type 0
  All Q [] = Unit {0}
  All Q (x ∷ xs) = Q x × All Q xs

  pub all_set : (Q : A → Type 0) (xs : List A) (i : ℕ) (y : A) → All Q xs → Q y → All Q (set xs i y)
  all_set Q [] i y a q = tt
  all_set Q (x ∷ xs) zero y a q = (q, a.1)
  all_set Q (x ∷ xs) (suc i) y a q = (a.0, all_set Q xs i y a.1 q)

  pub all_at : (Q : A → Type 0) (xs : List A) (i : ℕ) (d : A) → All Q xs → i < length xs → Q (get_or xs i d)
  all_at Q [] i d a h = absurd (not-suc-le-zero h)
  all_at Q (x ∷ xs) zero d a h = a.0
  all_at Q (x ∷ xs) (suc i) d a h = all_at Q xs i d a.1 (le_of_suc-le-suc h)

  pub all_replicate : (Q : A → Type 0) (n : ℕ) (x : A) → Q x → All Q (replicate n x)
  all_replicate Q zero x q = tt
  all_replicate Q (suc n) x q = (q, all_replicate Q n x q)

  -- a weight that is another, or no more than another, where the rule holds
  pub sum_ext_all : (Q : A → Type 0) (u v : A → ℕ) → ((x : A) → Q x → u x ≡ v x) → (xs : List A) → All Q xs → sum u xs ≡ sum v xs
  sum_ext_all Q u v h [] a = refl
  sum_ext_all Q u v h (x ∷ xs) a = ap₂ ◌+◌ (h x a.0) (sum_ext_all Q u v h xs a.1)

  pub sum_le_all : (Q : A → Type 0) (u v : A → ℕ) → ((x : A) → Q x → u x ≤ v x) → (xs : List A) → All Q xs → sum u xs ≤ sum v xs
  sum_le_all Q u v h [] a = omega arith
  sum_le_all Q u v h (x ∷ xs) a = omega (arith, h x a.0, sum_le_all Q u v h xs a.1)
