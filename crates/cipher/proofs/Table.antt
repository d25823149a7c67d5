-- A rule of a table, proved at each entry by one test over the whole table, which antt computes.
-- Assumes nothing.
use mathlib.Core.Path.{◌≡◌, ◌∙◌, subst, sym, ap}
use mathlib.Core.Bool.{Bool, true, false}
use mathlib.Core.List.{List, [], ◌∷◌}
use Prim.Native.Nat.{ℕ, zero, suc, ◌+◌, ◌-◌, ◌<◌}
use native.Mathlib.Nat.{add-zero, zero-add, add-suc, suc-add, le_of_suc-le-suc, not-suc-le-zero}
use lib.Dec.{T, eqb, eqb→eq}
use lib.ListN.{length, get_or}
use Rattle.cipher.specs.Cipher.{s_box, IsSBox}
use Rattle.cipher.specs.KeyExpansion.{power_of_x, rcon}

abbrev both : Bool → Bool → Bool
both true b = b
both false b = false

both_left : (a b : Bool) → T (both a b) → T a
both_left true b t = tt
both_left false b t = t

both_right : (a b : Bool) → T (both a b) → T b
both_right true b t = t
both_right false b t = absurd t

-- entry x of the list, counted from i, is f x
abbrev pub every : (ℕ → ℕ) → ℕ → List ℕ → Bool
every f i [] = true
every f i (y ∷ ys) = both (eqb y (f i)) (every f (suc i) ys)

from : (f : ℕ → ℕ) (ys : List ℕ) (i : ℕ) → T (every f i ys) → (k : ℕ) → k < length ys → get_or ys k 0 ≡ f (i + k)
from f [] i t k h = absurd (not-suc-le-zero h)
from f (y ∷ ys) i t zero h = rw add-zero (eqb→eq y (f i) (both_left (eqb y (f i)) (every f (suc i) ys) t))
from f (y ∷ ys) i t (suc k) h =
    subst (λ (m : ℕ). get_or ys k 0 ≡ f m) (suc-add i k ∙ sym (add-suc i k))
    (from f ys (suc i) (both_right (eqb y (f i)) (every f (suc i) ys) t) k (le_of_suc-le-suc h))

-- a list of n entries that passes the test is a table of f
pub table_of : (f : ℕ → ℕ) (n : ℕ) (ys : List ℕ) → length ys ≡ n → T (every f 0 ys) → (k : ℕ) → k < n → get_or ys k 0 ≡ f k
table_of f n ys l t k h = rw zero-add at (from f ys 0 t k (rw l h))

pub s_box_tested : (t : List ℕ) → length t ≡ 256 → T (every s_box 0 t) → IsSBox t
unfolding IsSBox
s_box_tested t = table_of s_box 256 t

-- ten entries that pass the test are the round constants' first bytes
pub rcon_tested : (t : List ℕ) → length t ≡ 10 → T (every power_of_x 0 t) → (i : ℕ) → i - 1 < 10 → (get_or t (i - 1) 0 ∷ 0 ∷ 0 ∷ 0 ∷ []) ≡ rcon i
rcon_tested t l p i h = ap (λ (x : ℕ). x ∷ 0 ∷ 0 ∷ 0 ∷ []) (table_of power_of_x 10 t l p (i - 1) h)
