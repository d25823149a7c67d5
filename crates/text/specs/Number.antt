-- The replay format (docs/REPLAY.md): decimal digits; leading zeros do not matter, and a number that its argument does not hold is bad.
-- Assumes nothing.
use Rattle.std.specs.Prelude.{ℕ, zero, suc, ◌+◌, ◌-◌, ◌*◌, ◌/◌, ◌%◌, List, [], ◌∷◌, ◌++◌, Bool, cond, ◌&&◌, Option, Some, None, length, leb, ltb}
use Rattle.lists.specs.Lists.{every}

abbrev pub is_digit : ℕ → Bool
is_digit b = leb 48 b && leb b 57

-- what a decimal digit counts
abbrev pub digit : ℕ → Option ℕ
digit b = cond (is_digit b) (Some (b - 48)) None

-- at least one digit, and nothing else
abbrev pub is_number : List ℕ → Bool
is_number s = ltb 0 (length s) && every is_digit s

-- the number that digits say, after digits that say n
unfoldable pub value_from : ℕ → List ℕ → ℕ
value_from n [] = n
value_from n (b ∷ s) = value_from (n * 10 + (b - 48)) s

-- what is made of the number that a word is, if that is at most `most`
unfoldable pub number_as : {A : Type 0} → (ℕ → A) → List ℕ → ℕ → Option A
number_as make s most = cond (is_number s && leb (value_from 0 s) most) (Some (make (value_from 0 s))) None

-- the number itself
abbrev pub number_in : List ℕ → ℕ → Option ℕ
number_in s most = number_as (λ n. n) s most

-- a number that its argument's type holds: of 16 bits, and of 32
abbrev pub number16_in : List ℕ → Option ℕ
number16_in s = number_in s 65535

abbrev pub number32_in : List ℕ → Option ℕ
number32_in s = number_in s 4294967295

-- a number's decimal digits, at most k of them
unfoldable pub digits_of : ℕ → ℕ → List ℕ
digits_of zero n = []
digits_of (suc k) n = cond (ltb n 10) ((48 + n) ∷ []) (digits_of k (n / 10) ++ ((48 + n % 10) ∷ []))

-- a number below 2^64 has at most 20
unfoldable pub decimal : ℕ → List ℕ
decimal n = digits_of 20 n
