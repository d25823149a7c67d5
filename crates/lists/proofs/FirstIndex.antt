-- A search of a list, element by element, for the first that passes a test. Assumes nothing.
use Prim.Native.Nat.{ℕ, suc, ◌+◌, ◌≤◌, ◌<◌}
use mathlib.Core.Path.{◌≡◌, ap, ◌∙◌}
use mathlib.Core.Bool.{Bool, true, false, cond}
use mathlib.Core.List.{List}
use native.Mathlib.Omega.{arith}
use native.Mathlib.Numerals.{add-one}
use lib.ListN.{length, drop, get_or, drop_of_length-le}
use lib.Seq.{drop-cons}
use Rattle.lists.specs.Lists.{first_index}

module _ {A : Type 0} (p : A → Bool) (xs : List A) where
  -- nothing before place i passes
  abbrev pub Searched : ℕ → Type 0
  Searched i = i + first_index p (drop i xs) ≡ first_index p xs

  pub searched_start : Searched 0
  searched_start = omega arith

  module _ (i : ℕ) (so_far : Searched i) where
    module _ (d : A) (h : i < length xs) where
      here : (b : Bool) → p (get_or xs i d) ≡ b → i + cond b 0 (suc (first_index p (drop (suc i) xs))) ≡ first_index p xs
      here b e =
          let at : first_index p (drop i xs) ≡ cond b 0 (suc (first_index p (drop (suc i) xs))) = ap (first_index p) (drop-cons xs i d h) ∙ ap (λ (t : Bool). cond t 0 (suc (first_index p (drop (suc i) xs)))) e in
          omega (arith, so_far, at)

      pub searched_on : p (get_or xs i d) ≡ false → Searched (i + 1)
      searched_on e = rw add-one (omega (arith, here false e))

      pub searched_found : p (get_or xs i d) ≡ true → i ≡ first_index p xs
      searched_found e = omega (arith, here true e)

    pub searched_end : length xs ≤ i → i ≡ first_index p xs
    searched_end h =
        let at : first_index p (drop i xs) ≡ 0 = ap (first_index p) (drop_of_length-le xs h) in
        omega (arith, so_far, at)
