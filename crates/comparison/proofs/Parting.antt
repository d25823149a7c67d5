-- The first place where two lists differ, as it is found in their pairs; and lists that are equal byte by byte. Assumes nothing.
use Rattle.std.specs.Prelude.{not, min, nat_eq, unwrap_or, Some}
use Rattle.std.specs.List.{zip, position_from}
use Rattle.std.proofs.Common.{◌≡◌, ℕ, suc, ◌+◌, Bool, true, false, cond, ◌&&◌, eqb, List, [], ◌∷◌, length, sym, refl, ap, ◌∙◌, zero-add, arith, eq-eqb, ne_eqb, eqb-true}
use lib.Pointwise.{pointwise}
use Rattle.lists.proofs.Bools.{one_test}
use Rattle.lists.specs.Bytes.{same_bytes}
use Rattle.comparison.specs.Difference.{parting}

abbrev unlike : ℕ × ℕ → Bool
unlike p = not (nat_eq p.0 p.1)

-- from place i on
parting_from : (xs ys : List ℕ) (i : ℕ) → unwrap_or (position_from unlike i (zip xs ys)) (i + min (length xs) (length ys)) ≡ i + parting xs ys
unfolding parting
parting_from [] ys i = omega arith
parting_from (x ∷ xs) [] i = omega arith
parting_from (x ∷ xs) (y ∷ ys) i = go (eqb x y) (parting_from xs ys (i + 1))
  where
    go : (t : Bool) → unwrap_or (position_from unlike (i + 1) (zip xs ys)) (i + 1 + min (length xs) (length ys)) ≡ i + 1 + parting xs ys
        → unwrap_or (cond (not t) (Some i) (position_from unlike (i + 1) (zip xs ys))) (i + min (suc (length xs)) (suc (length ys)))
        ≡ i + cond t (suc (parting xs ys)) 0
    go true later =
        let shifted : i + min (suc (length xs)) (suc (length ys)) ≡ i + 1 + min (length xs) (length ys) = omega arith in
        rw shifted (later ∙ omega arith)
    go false later = omega arith

pub first_parting : (xs ys : List ℕ) → parting xs ys ≡ unwrap_or (position_from (λ (p : ℕ × ℕ). not (nat_eq p.0 p.1)) 0 (zip xs ys)) (min (length xs) (length ys))
first_parting xs ys = let h = parting_from xs ys 0 in sym (simp zero-add at h)

pub equal_bytes : (xs ys : List ℕ) → pointwise eqb xs ys ≡ same_bytes xs ys
unfolding same_bytes
equal_bytes [] [] = refl
equal_bytes [] (y ∷ ys) = refl
equal_bytes (x ∷ xs) [] = refl
equal_bytes (x ∷ xs) (y ∷ ys) = ap (λ (t : Bool). eqb x y && t) (equal_bytes xs ys)

one_more : (m n : ℕ) → eqb (suc m) (suc n) ≡ eqb m n
one_more m n =
    one_test (eqb (suc m) (suc n)) (eqb m n)
    (λ e. eq-eqb m n (omega (arith, eqb-true (suc m) (suc n) e)))
    (λ e. eq-eqb (suc m) (suc n) (omega (arith, eqb-true m n e)))

-- lists of one length are the same where they part at the end
pub same-parting : (a b : List ℕ) → length a ≡ length b → eqb (parting a b) (length a) ≡ same_bytes a b
unfolding parting same_bytes
same-parting [] [] e = eq-eqb 0 0 refl
same-parting [] (y ∷ ys) e = absurd (omega arith)
same-parting (x ∷ xs) [] e = absurd (omega arith)
same-parting (x ∷ xs) (y ∷ ys) e = go (eqb x y) (same-parting xs ys (omega arith))
  where
    go : (t : Bool) → eqb (parting xs ys) (length xs) ≡ same_bytes xs ys
        → eqb (cond t (suc (parting xs ys)) 0) (suc (length xs)) ≡ t && same_bytes xs ys
    go true i = one_more (parting xs ys) (length xs) ∙ i
    go false i = ne_eqb 0 (suc (length xs)) (λ e. omega arith)
