-- The total from a place on: a word, a pass, what is left; its bound; and the sum of two parts. Assumes nothing.
use Rattle.std.proofs.Common.{◌≡◌, ℕ, zero, suc, ◌+◌, ◌*◌, ◌/◌, ◌%◌, ◌<◌, ◌≤◌, List, [], ◌∷◌, ◌++◌, length, drop, sym, refl, ap, ◌∙◌, add-one, arith, drop_of_length-le, drop-cons}
use native.Mathlib.Numerals.{unary_clauses}
use Rattle.lists.specs.Bytes.{Bytes}
use Rattle.segment.specs.Bytes.{byte_at, word}
use Rattle.segment.specs.Checksum.{ones_add, ones_sum}
use Rattle.segment.specs.Totals.{swapped_at, total, pass_total}

-- the list from i on, where two more bytes stand, and where one does
drop_two : (s : List ℕ) (i : ℕ) → i + 1 < length s → drop i s ≡ byte_at s i ∷ byte_at s (i + 1) ∷ drop (i + 2) s
drop_two s i h =
    let a : i < length s = omega arith in
    let b : suc i < length s = omega arith in
    let e : suc i ≡ i + 1 = sym (add-one i) in
    let g : suc (suc i) ≡ i + 2 = omega arith in
    drop-cons s i 0 a ∙ ap (λ (t : List ℕ). byte_at s i ∷ t) (drop-cons s (suc i) 0 b)
    ∙ ap (λ (k : ℕ). byte_at s i ∷ byte_at s k ∷ drop (suc (suc i)) s) e
    ∙ ap (λ (k : ℕ). byte_at s i ∷ byte_at s (i + 1) ∷ drop k s) g

drop_one : (s : List ℕ) (i : ℕ) → i + 1 ≡ length s → drop i s ≡ byte_at s i ∷ []
drop_one s i h =
    let a : i < length s = omega arith in
    let b : length s ≤ suc i = omega arith in
    drop-cons s i 0 a ∙ ap (λ (t : List ℕ). byte_at s i ∷ t) (drop_of_length-le s b)

-- the total from i on: two more bytes, one, none
pub total_two : (s : List ℕ) (i : ℕ) → i + 1 < length s → total (drop i s) ≡ swapped_at s i + total (drop (i + 2) s)
unfolding total
total_two s i h = ap total (drop_two s i h)

pub total-last : (s : List ℕ) (i : ℕ) → i + 1 ≡ length s → total (drop i s) ≡ byte_at s i
unfolding total
total-last s i h = ap total (drop_one s i h)

pub total-none : (s : List ℕ) (i : ℕ) → length s ≤ i → total (drop i s) ≡ 0
unfolding total
total-none s i h = ap total (drop_of_length-le s h)

-- a pass of n words takes from what is left to add what it adds
pub total_pass : (n : ℕ) (s : List ℕ) (i : ℕ) → i + 2 * n ≤ length s → total (drop i s) ≡ pass_total n s i + total (drop (i + 2 * n) s)
unfolding pass_total
total_pass zero s i h = simp unary_clauses (omega arith)
total_pass (suc n) s i h =
    let e = total_pass n s i (omega arith) in
    let t = total_two s (i + 2 * n) (omega arith) in
    let g : i + 2 * n + 2 ≡ i + 2 * suc n = omega arith in
    omega (arith, e, rw g at t)

-- a pass over bytes that stand at another place too adds what it adds there
pub pass_copied : (n : ℕ) (w s : List ℕ) (j i : ℕ) → ((b : ℕ) → b < 16 → byte_at w b ≡ byte_at s (j + b)) → i + 2 * n ≤ 16 → pass_total n w i ≡ pass_total n s (j + i)
unfolding pass_total
pass_copied zero w s j i f h = refl
pass_copied (suc n) w s j i f h =
    let a : j + (i + 2 * n) ≡ j + i + 2 * n = omega arith in
    let b : j + (i + 2 * n + 1) ≡ j + i + 2 * n + 1 = omega arith in
    let low = f (i + 2 * n) (omega arith) in
    let high = f (i + 2 * n + 1) (omega arith) in
    omega (arith, pass_copied n w s j i f (omega arith), rw a at low, rw b at high)

-- the total of bytes has 16 bits a word
pub total_bound : (s : List ℕ) → Bytes s → total s ≤ 65535 * ((length s + 1) / 2)
unfolding total
total_bound [] b = omega arith
total_bound (x ∷ []) b = omega arith
total_bound (x ∷ y ∷ rest) b = omega (arith, total_bound rest b.1.1)

-- the sum goes on after an even number of bytes
pub sum-append : (sum : ℕ) (a b : List ℕ) → length a % 2 ≡ 0 → ones_sum sum (a ++ b) ≡ ones_sum (ones_sum sum a) b
unfolding ones_sum
sum-append sum [] b h = refl
sum-append sum (x ∷ []) b h = absurd (omega arith)
sum-append sum (x ∷ y ∷ rest) b h = sum-append (ones_add sum (word x y)) rest b (omega arith)
