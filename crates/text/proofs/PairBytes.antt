-- Byte strings: the bytes that pairs of digits say, and the word as a whole. Assumes nothing.
use Prim.Native.Nat.{ℕ, zero, suc, ◌+◌, ◌*◌, ◌/◌, ◌%◌, ◌≤◌, ◌<◌}
use mathlib.Core.Path.{◌≡◌, refl, sym, ap, ap₂, ◌∙◌}
use mathlib.Core.Bool.{Bool, true, false, cond, ◌&&◌}
use mathlib.Core.List.{List, [], ◌∷◌, ◌++◌}
use native.Mathlib.Nat.{le_of_suc-le-suc, not-suc-le-zero}
use native.Mathlib.Numerals.{add-one}
use native.Mathlib.Omega.{arith}
use lib.ListN.{length, take, drop, get_or, set}
use lib.Seq.{take_all, length-take-le, take-suc, drop-cons, append_snoc, set_at}
use lib.Dec.{leb-zero}
use borrow.Author.Tests.{ltb-true, lt-ltb, le-leb, lt-leb, eq-eqb}
use Rattle.lists.specs.Bytes.{overwrite}
use Rattle.lists.specs.Lists.{every}
use Rattle.std.specs.Prelude.{Option, Some, None, unwrap_or}
use Rattle.text.specs.ByteString.{is_dash, nibble, is_hex_digit, is_hex, pair_bytes, bytes_of, is_readable, bytes_in, bytes_read}
use Rattle.lists.proofs.Bools.{and_true}
use Rattle.lists.proofs.Places.{each_passes}
use Rattle.std.specs.Simd.{first_chunks}

pub half : (s : List ℕ) → length (pair_bytes s) ≡ length s / 2
unfolding pair_bytes
half [] = refl
half (a ∷ []) = refl
half (a ∷ b ∷ s) = omega (arith, half s)

-- the byte at a place, by the pair of digits there
pair-at : (s : List ℕ) (i : ℕ) → i < length (pair_bytes s) → get_or (pair_bytes s) i 0
    ≡ nibble (get_or (get_or (first_chunks 2 (length s / 2) s) i []) 0 0) * 16 + nibble (get_or (get_or (first_chunks 2 (length s / 2) s) i []) 1 0)
unfolding pair_bytes
pair-at [] i h = absurd (not-suc-le-zero h)
pair-at (a ∷ []) i h = absurd (not-suc-le-zero h)
pair-at (a ∷ b ∷ s) zero h = let k : length (a ∷ b ∷ s) / 2 ≡ suc (length s / 2) = omega arith in rw k
pair-at (a ∷ b ∷ s) (suc i) h = let k : length (a ∷ b ∷ s) / 2 ≡ suc (length s / 2) = omega arith in rw k (pair-at s i (le_of_suc-le-suc h))

-- whose digits are digits
pair_digits : (s : List ℕ) → every is_hex_digit s ≡ true → (i : ℕ) → i < length (pair_bytes s)
    → (is_hex_digit (get_or (get_or (first_chunks 2 (length s / 2) s) i []) 0 0) ≡ true) × (is_hex_digit (get_or (get_or (first_chunks 2 (length s / 2) s) i []) 1 0) ≡ true)
unfolding pair_bytes
pair_digits [] e i h = absurd (not-suc-le-zero h)
pair_digits (a ∷ []) e i h = absurd (not-suc-le-zero h)
pair_digits (a ∷ b ∷ s) e zero h =
    let k : length (a ∷ b ∷ s) / 2 ≡ suc (length s / 2) = omega arith in
    let both = and_true (is_hex_digit a) _ e in
    rw k (both.0, (and_true (is_hex_digit b) _ both.1).0)
pair_digits (a ∷ b ∷ s) e (suc i) h =
    let k : length (a ∷ b ∷ s) / 2 ≡ suc (length s / 2) = omega arith in
    let both = and_true (is_hex_digit a) _ e in
    rw k (pair_digits s (and_true (is_hex_digit b) _ both.1).1 i (le_of_suc-le-suc h))

-- a digit counts less than 16
pub below_sixteen : (s : List ℕ) → every is_hex_digit s ≡ true → (i : ℕ) → i < length s → nibble (get_or s i 0) < 16
below_sixteen s e i h = ltb-true _ _ (each_passes is_hex_digit s e i 0 h)

-- what the code reads of a digit
abbrev pub digit_read : ℕ → Option ℕ
digit_read b = cond (is_hex_digit b) (Some (nibble b)) None

pub pair_value : (s : List ℕ) (ps : List (List ℕ)) (i x y : ℕ) (high low : Option ℕ) → ps ≡ first_chunks 2 (length s / 2) s → every is_hex_digit s ≡ true → i < length (pair_bytes s)
    → high ≡ digit_read (get_or (get_or ps i []) 0 0) → low ≡ digit_read (get_or (get_or ps i []) 1 0) → x ≡ unwrap_or high 0 → y ≡ unwrap_or low 0
    → x * 16 + y ≡ get_or (pair_bytes s) i 0
pair_value s ps i x y high low c e h p q u v =
    let d = pair_digits s e i h in
    let a : x ≡ nibble (get_or (get_or (first_chunks 2 (length s / 2) s) i []) 0 0) = rw (u, p, c, d.0) in
    let b : y ≡ nibble (get_or (get_or (first_chunks 2 (length s / 2) s) i []) 1 0) = rw (v, q, c, d.1) in
    ap₂ (λ (j k : ℕ). j * 16 + k) a b ∙ sym (pair-at s i h)

-- a byte is put after those before it
pub pair_put : (p out : List ℕ) (i v : ℕ) → i < length p → length p ≤ length out → v ≡ get_or p i 0
    → set (take i p ++ drop i out) i v ≡ take (i + 1) p ++ drop (i + 1) out
pair_put p out i v h k e =
    let j : i < length out = omega arith in
    rw (drop-cons out i 0 j, set_at (take i p) (get_or out i 0) (drop (suc i) out) v i (length-take-le i p (omega arith)), e, ← append_snoc (take i p) (get_or p i 0) (drop (suc i) out), ← take-suc p i 0 h, ← add-one i)

-- all are put
pub all_put : (p out out' : List ℕ) (i : ℕ) → length p ≤ i → i ≤ length p → out' ≡ take i p ++ drop i out → out' ≡ overwrite p out
all_put p out out' i h k e = let j : i ≡ length p = omega arith in e ∙ rw (j, take_all (length p) p (omega arith))

-- The whole word

pub and_not : (t : Bool) → t && false ≡ false
and_not true = refl
and_not false = refl

module _ (s : List ℕ) where
  pub hex_all : (length s ≡ 0 → ⊥) → length s % 2 ≡ 0 → every is_hex_digit s ≡ true → is_hex s ≡ true
  hex_all h k e = rw (lt-ltb 0 (length s) (omega arith), eq-eqb (length s % 2) 0 k, e)

module _ (s : List ℕ) (out_len : ℕ) where
  -- what is returned, and the bytes that are read
  abbrev pub ReadAs : Option ℕ → List ℕ → Type 0
  ReadAs r bytes = (r ≡ bytes_read s out_len) × (bytes ≡ bytes_in s out_len)

  bad : is_readable s out_len ≡ false → ReadAs None []
  unfolding bytes_read bytes_in
  bad e = (rw e, rw e)

  pub read_dash : is_dash s ≡ true → ReadAs (Some 0) []
  unfolding bytes_read bytes_in is_readable bytes_of
  read_dash d = (simp (d, leb-zero), simp (d, leb-zero))

  module _ (d : is_dash s ≡ false) where
    pub bad_other : is_hex s ≡ false → ReadAs None []
    unfolding is_readable bytes_of
    bad_other h = bad (simp (d, h))

    pub bad_long : out_len < length (pair_bytes s) → ReadAs None []
    unfolding is_readable bytes_of
    bad_long h = bad (simp (d, lt-leb (length (pair_bytes s)) out_len h) (and_not (is_hex s)))

    pub read_pairs : is_hex s ≡ true → length (pair_bytes s) ≤ out_len → ReadAs (Some (length (pair_bytes s))) (pair_bytes s)
    unfolding bytes_read bytes_in is_readable bytes_of
    read_pairs h k =
        let t = le-leb (length (pair_bytes s)) out_len k in
        (simp (d, h, t), simp (d, h, t))

-- the buffer after it
pub buffer : (s out : List ℕ) (r : Option ℕ) (bytes : List ℕ) → ReadAs s (length out) r bytes →
    (r ≡ bytes_read s (length out)) × (overwrite bytes out ≡ overwrite (bytes_in s (length out)) out)
buffer s out r bytes e = (e.0, ap (λ (t : List ℕ). overwrite t out) e.1)
