-- A list read place by place: whether every element passes a test, and how many do. Assumes nothing.
use Prim.Native.Nat.{ℕ, zero, suc, ◌+◌, ◌≤◌, ◌<◌}
use mathlib.Core.Path.{◌≡◌, sym, ap, ◌∙◌}
use mathlib.Core.Bool.{Bool, true, false, ◌&&◌}
use mathlib.Core.List.{List, [], ◌∷◌}
use native.Mathlib.Nat.{le_of_suc-le-suc, not-suc-le-zero}
use native.Mathlib.Numerals.{add-one}
use native.Mathlib.Omega.{arith}
use lib.ListN.{length, drop, get_or, drop_of_length-le}
use lib.Seq.{drop-cons}
use Rattle.lists.proofs.Bools.{and_true}
use Rattle.lists.specs.Lists.{bit, tally, every}

module _ {A : Type 0} (p : A → Bool) where
  -- where every element passes, the one at a place does
  pub each_passes : (s : List A) → every p s ≡ true → (i : ℕ) (d : A) → i < length s → p (get_or s i d) ≡ true
  each_passes [] e i d h = absurd (not-suc-le-zero h)
  each_passes (x ∷ s) e zero d h = (and_true (p x) (every p s) e).0
  each_passes (x ∷ s) e (suc i) d h = each_passes s (and_true (p x) (every p s) e).1 i d (le_of_suc-le-suc h)

module _ {A : Type 0} (p : A → Bool) (s : List A) where
  -- all before place i pass
  abbrev pub Passed : ℕ → Type 0
  Passed i = every p (drop i s) ≡ every p s

  -- n of those before place i pass
  abbrev pub Counted : ℕ → ℕ → Type 0
  Counted n i = n + tally p (drop i s) ≡ tally p s

  module _ (i : ℕ) (d : A) (h : i < length s) where
    passed_here : (b : Bool) → p (get_or s i d) ≡ b → Passed i → b && every p (drop (suc i) s) ≡ every p s
    passed_here b e so_far = sym (ap (every p) (drop-cons s i d h) ∙ ap (λ (t : Bool). t && every p (drop (suc i) s)) e) ∙ so_far

    pub passed_on : p (get_or s i d) ≡ true → Passed i → Passed (i + 1)
    passed_on e so_far = rw add-one (passed_here true e so_far)

    pub passed_not : p (get_or s i d) ≡ false → Passed i → false ≡ every p s
    passed_not e so_far = passed_here false e so_far

    -- one is counted, or none
    pub counted-on : (n : ℕ) (b : Bool) → p (get_or s i d) ≡ b → Counted n i → Counted (n + bit b) (i + 1)
    counted-on n b e so_far =
        let here : tally p (drop i s) ≡ bit b + tally p (drop (i + 1) s) = rw add-one (ap (tally p) (drop-cons s i d h) ∙ ap (λ (t : Bool). bit t + tally p (drop (suc i) s)) e) in
        omega arith

  module _ (i : ℕ) (h : length s ≤ i) where
    pub passed_all : Passed i → true ≡ every p s
    passed_all so_far = sym (ap (every p) (drop_of_length-le s h)) ∙ so_far

    pub counted_all : (n : ℕ) → Counted n i → n ≡ tally p s
    counted_all n so_far =
        let e : tally p (drop i s) ≡ 0 = ap (tally p) (drop_of_length-le s h) in
        omega arith
