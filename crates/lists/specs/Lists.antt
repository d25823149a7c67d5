-- Lists: counts, sums, the first place of a test, what every element passes, and elements replaced by a rule or dropped.
-- Assumes nothing.
use Rattle.std.specs.Prelude.{ℕ, suc, ◌+◌, List, [], ◌∷◌, ◌++◌, Bool, true, false, cond, ◌&&◌}

abbrev pub bit : Bool → ℕ
bit true = 1
bit false = 0

module _ {A : Type 0} where
  -- the sum of a weight over a list
  abbrev pub sum : (A → ℕ) → List A → ℕ
  sum w [] = 0
  sum w (x ∷ xs) = w x + sum w xs

  -- how many elements pass a test
  abbrev pub tally : (A → Bool) → List A → ℕ
  tally p xs = sum (λ x. bit (p x)) xs

  -- the place of the first element that passes a test; the list's length where none does
  abbrev pub first_index : (A → Bool) → List A → ℕ
  first_index p [] = 0
  first_index p (x ∷ xs) = cond (p x) 0 (suc (first_index p xs))

  -- each element gives way to those that a rule has for it: none, itself, another
  abbrev pub amend : (A → List A) → List A → List A
  amend rule [] = []
  amend rule (x ∷ xs) = rule x ++ amend rule xs

  -- every element passes a test
  abbrev pub every : (A → Bool) → List A → Bool
  every p [] = true
  every p (x ∷ xs) = p x && every p xs

  -- the list without the first element that passes a test
  abbrev pub drop_first : (A → Bool) → List A → List A
  drop_first p [] = []
  drop_first p (x ∷ xs) = cond (p x) xs (x ∷ drop_first p xs)
