-- A number's digits and a byte string's, as they are put. Assumes nothing.
use Prim.Native.Nat.{ℕ, zero, suc, ◌+◌, ◌-◌, ◌/◌, ◌%◌, ◌^◌, ◌≤◌, ◌<◌}
use mathlib.Core.Path.{◌≡◌, refl, sym, ap, ◌∙◌}
use mathlib.Core.Bool.{Bool, true, false, cond}
use mathlib.Core.List.{List, [], ◌∷◌, ◌++◌}
use native.Mathlib.Omega.{arith}
use native.Mathlib.Nat.{pow-suc}
use lib.Dec.{ltb}
use lib.ListN.{length, take, drop, set, length-set, length-append, length-drop}
use Rattle.std.proofs.Common.{append_assoc}
use lib.Seq.{take_all, take_at}
use Rattle.std.proofs.lemmas.List.{drop-set}
use borrow.Author.Tests.{lt-ltb, le-ltb}
use Rattle.lists.specs.Bytes.{overwrite}
use Rattle.text.specs.Number.{digits_of, decimal}
use Rattle.text.specs.ByteString.{hex_digit, hex_of, hex_word}

-- ---- decimal digits

-- a number has no use for one digit more than hold it
enough : (k n : ℕ) → n < 10 ^ suc k → digits_of (suc (suc k)) n ≡ digits_of (suc k) n
unfolding digits_of
enough zero n h =
    let l : n < 10 = h in
    rw (lt-ltb n 10 l)
enough (suc k) n h =
    let m : n / 10 < 10 ^ suc k = omega (arith, pow-suc 10 (suc k)) in
    ap (λ (t : List ℕ). cond (ltb n 10) ((48 + n) ∷ []) (t ++ ((48 + n % 10) ∷ []))) (enough k (n / 10) m)

digits_last : (k n : ℕ) → n < 10 → digits_of (suc k) n ≡ (48 + n) ∷ []
unfolding digits_of
digits_last k n h = rw (lt-ltb n 10 h)

digits_more : (k n : ℕ) → 10 ≤ n → digits_of (suc k) n ≡ digits_of k (n / 10) ++ ((48 + n % 10) ∷ [])
unfolding digits_of
digits_more k n h = rw (le-ltb n 10 h)

-- no more than were allowed
digits_most : (k n : ℕ) → length (digits_of k n) ≤ k
unfolding digits_of
digits_most zero n = omega arith
digits_most (suc k) n = go (ltb n 10) (digits_most k (n / 10))
  where
    go : (t : Bool) → length (digits_of k (n / 10)) ≤ k → length (cond t ((48 + n) ∷ []) (digits_of k (n / 10) ++ ((48 + n % 10) ∷ []))) ≤ suc k
    go true e = omega arith
    go false e = omega (arith, length-append (digits_of k (n / 10)) ((48 + n % 10) ∷ []))

pub digits_some : (k n : ℕ) → 0 < length (digits_of (suc k) n)
unfolding digits_of
digits_some k n = go (ltb n 10)
  where
    go : (t : Bool) → 0 < length (cond t ((48 + n) ∷ []) (digits_of k (n / 10) ++ ((48 + n % 10) ∷ [])))
    go true = omega arith
    go false = omega (arith, length-append (digits_of k (n / 10)) ((48 + n % 10) ∷ []))

decimal_some : (n : ℕ) → 0 < length (decimal n)
unfolding decimal
decimal_some n = digits_some 19 n

decimal_last : (n : ℕ) → n < 10 → decimal n ≡ (48 + n) ∷ []
unfolding decimal
decimal_last n h = digits_last 19 n h

decimal_more : (n : ℕ) → 10 ≤ n → n < 18446744073709551616 → decimal n ≡ decimal (n / 10) ++ ((48 + n % 10) ∷ [])
unfolding decimal
decimal_more n h l =
    let m : n / 10 < 10 ^ 19 = omega arith in
    digits_more 19 n h ∙ ap (λ (t : List ℕ). t ++ ((48 + n % 10) ∷ [])) (sym (enough 18 (n / 10) m))

pub decimal-most_digits : (n : ℕ) → length (decimal n) ≤ 20
unfolding decimal
decimal-most_digits n = digits_most 20 n

-- Digits are put from the last to the first, into a buffer of 20 bytes: those of `left` stand before the ones from place i on.
abbrev pub Split : ℕ → ℕ → ℕ → List ℕ → Type 0
Split n left i back = (i ≤ 20) × ((length back ≡ 20) × (decimal left ++ drop i back ≡ decimal n))

module _ (n left i : ℕ) (back : List ℕ) (so_far : Split n left i back) where
  fits : length (decimal left) ≤ i
  fits = omega (arith, ap length so_far.1.1, length-append (decimal left) (drop i back), length-drop i back, decimal-most_digits n)

  module _ (j : ℕ) (below : j + 1 ≡ i) (x : ℕ) where
    put_one : drop j (set back j x) ≡ x ∷ drop i back
    put_one = let h : j < length back = omega arith in drop-set back j x h ∙ ap (λ (k : ℕ). x ∷ drop k back) below

    pub split_on : 9 < left → left < 18446744073709551616 → x ≡ 48 + left % 10 → Split n (left / 10) j (set back j x)
    split_on h l e = (
      omega arith,
      (
        simp length-set so_far.1.0,
        ap (λ (t : List ℕ). decimal (left / 10) ++ t) put_one ∙ (ap (λ (y : ℕ). decimal (left / 10) ++ (y ∷ drop i back)) e
            ∙ (sym (append_assoc (decimal (left / 10)) ((48 + left % 10) ∷ []) (drop i back)) ∙ (ap (λ (t : List ℕ). t ++ drop i back) (sym (decimal_more left (omega arith) l)) ∙ so_far.1.1))),
      ),
    )

    pub split-end : left ≤ 9 → x ≡ 48 + left → take (20 - j) (drop j (set back j x)) ≡ decimal n
    split-end h e =
        let l : length (drop j (set back j x)) ≤ 20 - j = omega (arith, length-drop j (set back j x), length-set back j x) in
        take_all (20 - j) (drop j (set back j x)) l ∙ put_one ∙ (ap (λ (y : ℕ). y ∷ drop i back) e ∙ (ap (λ (t : List ℕ). t ++ drop i back) (sym (decimal_last left (omega arith))) ∙ so_far.1.1))

  pub split_room : 0 < i
  split_room = omega (arith, fits, decimal_some left)

-- digits copied to the start of a buffer
pub put_digits : (n r : ℕ) (s out out' : List ℕ) → s ≡ decimal n → r ≡ length s → out' ≡ overwrite s out → (r ≡ length (decimal n)) × (take r out' ≡ decimal n)
put_digits n r s out out' d l e = (l ∙ ap length d, rw e (take_at s (drop (length s) out) r (sym l)) ∙ d)

-- ---- hexadecimal digits

pub hex_snoc : (s : List ℕ) (b : ℕ) → hex_of (s ++ (b ∷ [])) ≡ hex_of s ++ (hex_digit (b / 16) ∷ hex_digit (b % 16) ∷ [])
unfolding hex_of
hex_snoc [] b = refl
hex_snoc (a ∷ s) b = ap (λ (x : List ℕ). hex_digit (a / 16) ∷ hex_digit (a % 16) ∷ x) (hex_snoc s b)

-- bytes as a word
pub word_none : (s : List ℕ) → length s ≡ 0 → hex_word s ≡ 45 ∷ []
unfolding hex_word
word_none [] e = refl
word_none (b ∷ s) e = absurd (omega arith)

pub word_some : (s : List ℕ) → (length s ≡ 0 → ⊥) → hex_word s ≡ hex_of s
unfolding hex_word
word_some [] h = absurd (h refl)
word_some (b ∷ s) h = refl

-- ---- examples

decimal_zero : decimal 0 ≡ 48 ∷ []
unfolding decimal digits_of
decimal_zero = refl

decimal_ten : decimal 10 ≡ 49 ∷ 48 ∷ []
unfolding decimal digits_of
decimal_ten = refl

decimal-most : decimal 18446744073709551615 ≡ 49 ∷ 56 ∷ 52 ∷ 52 ∷ 54 ∷ 55 ∷ 52 ∷ 52 ∷ 48 ∷ 55 ∷ 51 ∷ 55 ∷ 48 ∷ 57 ∷ 53 ∷ 53 ∷ 49 ∷ 54 ∷ 49 ∷ 53 ∷ []
unfolding decimal digits_of
decimal-most = refl

hex_none : hex_word [] ≡ 45 ∷ []
unfolding hex_word
hex_none = refl

-- `00ab`
hex_two : hex_word (0 ∷ 171 ∷ []) ≡ 48 ∷ 48 ∷ 97 ∷ 98 ∷ []
unfolding hex_word hex_of
hex_two = refl
