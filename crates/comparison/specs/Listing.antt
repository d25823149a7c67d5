-- Document 02, Item 12: the list of differences, and lent room for it. An entry is two numbers: which pair it is, from 0, and the place.
-- Assumes nothing.
use Rattle.std.specs.Prelude.{ℕ, ◌+◌, ◌*◌, ◌/◌, ◌%◌, ◌^◌, cond, List, [], ◌∷◌, length, nat_lt, Option, None, Some}
use Rattle.std.proofs.lemmas.List.Edits.{sets}
use Rattle.comparison.specs.Account.{Judged}
use Rattle.comparison.specs.Difference.{difference_of}
use Rattle.comparison.specs.declared.list.Tally.{Tally}

pub record Entry : Type 0 where
  pub pair : ℕ
  pub place : ℕ

-- a record that has no pair: its place is 2^64 - 1
abbrev pub unpaired : Option ℕ
unpaired = Some 18446744073709551615

-- The whole list, from a pair on: the pairs that differ, and then the rest of the longer

abbrev pub before : ℕ → Option ℕ → List Entry → List Entry
before k None es = es
before k (Some place) es = record { pair = k; place = place } ∷ es

unfoldable pub entries : ℕ → List Judged → List Judged → List Entry
entries k [] [] = []
entries k (x ∷ xs) [] = before k unpaired (entries (k + 1) xs [])
entries k [] (y ∷ ys) = before k unpaired (entries (k + 1) [] ys)
entries k (x ∷ xs) (y ∷ ys) = before k (difference_of x y) (entries (k + 1) xs ys)

-- as numbers
abbrev pub numbers_of : List Entry → List ℕ
numbers_of [] = []
numbers_of (e ∷ es) = e.pair ∷ e.place ∷ numbers_of es

-- how many entries fit whole into a room of so many numbers
abbrev pub fitting : ℕ → ℕ
fitting n = n / 2

-- Entry by entry

abbrev pub fresh : Tally
fresh = record { pairs = 0; listed = 0; remaining = 0 }

-- Counts are of 64 bits. From a new comparison on none wraps: no more records are fed than the walker counts, and it takes none that it cannot count.
abbrev pub more : ℕ → ℕ
more n = (n + 1) % 2 ^ 64

-- the pair at hand is listed where there is room for it, and else counted
unfoldable pub noted : ℕ → Tally → Tally
noted n t =
    cond (nat_lt t.listed (fitting n))
    (record { pairs = t.pairs; listed = t.listed + 1; remaining = t.remaining })
    (record { pairs = t.pairs; listed = t.listed; remaining = more t.remaining })

unfoldable pub list_with : Tally → ℕ → List ℕ → List ℕ
list_with t place list =
    cond (nat_lt t.listed (fitting (length list))) (sets list (2 * t.listed) (t.pairs ∷ place ∷ [])) list

abbrev pub noted_by : ℕ → Tally → Option ℕ → Tally
noted_by n t None = t
noted_by n t (Some place) = noted n t

abbrev pub counted : Tally → Tally
counted t = record { pairs = more t.pairs; listed = t.listed; remaining = t.remaining }

-- the difference of the pair at hand was taken
abbrev pub tallied : ℕ → Tally → Option ℕ → Tally
tallied n t d = counted (noted_by n t d)

abbrev pub list_then : Tally → Option ℕ → List ℕ → List ℕ
list_then t None list = list
list_then t (Some place) list = list_with t place list
