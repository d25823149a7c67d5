-- What is put is read again: numbers, bytes and the words of a line. Assumes nothing.
use Prim.Native.Nat.{ℕ, zero, suc, ◌+◌, ◌-◌, ◌*◌, ◌^◌, ◌/◌, ◌%◌, ◌≤◌, ◌<◌}
use mathlib.Core.Path.{◌≡◌, refl, sym, ap, ap₂, ◌∙◌}
use mathlib.Core.Bool.{Bool, true, false, cond, not}
use mathlib.Core.List.{List, [], ◌∷◌, ◌++◌}
use native.Mathlib.Nat.{pow-suc}
use native.Mathlib.Omega.{arith}
use lib.Dec.{eqb, ltb}
use lib.ListN.{length, get_or}
use borrow.Author.Tests.{ltb-true, ltb-false, le-leb, lt-leb, lt-ltb, not-true}
use Rattle.lists.specs.Bytes.{Bytes}
use Rattle.lists.proofs.Bools.{and_true}
use Rattle.lists.specs.Bytes.{same_bytes}
use Rattle.lists.specs.Lists.{every}
use Rattle.std.specs.Prelude.{Some}
use Rattle.text.specs.Word.{is_space, spaces, first_word, after_word, word_at}
use Rattle.text.specs.Number.{is_digit, value_from, number_in, digits_of, decimal}
use Rattle.text.specs.ByteString.{is_dash, nibble, is_hex_digit, pair_bytes, hex_digit, hex_of, hex_word}
use Rattle.text.proofs.Words.{no_word}
use Rattle.text.proofs.Digits.{digits_some}
use Rattle.text.proofs.Numbers.{number_read}
use Rattle.text.proofs.PairBytes.{ReadAs, and_not, hex_all, read_dash, read_pairs}

-- Numbers

value_append : (m : ℕ) (a b : List ℕ) → value_from m (a ++ b) ≡ value_from (value_from m a) b
unfolding value_from
value_append m [] b = refl
value_append m (x ∷ a) b = value_append (m * 10 + (x - 48)) a b

every_append : (p : ℕ → Bool) (a b : List ℕ) → every p a ≡ true → every p b ≡ true → every p (a ++ b) ≡ true
every_append p [] b e f = f
every_append p (x ∷ a) b e f =
    let both = and_true (p x) (every p a) e in
    rw both.0 (every_append p a b both.1 f)

is_digit_of : (d : ℕ) → d < 10 → every is_digit ((48 + d) ∷ []) ≡ true
is_digit_of d h = simp (le-leb 48 (48 + d) (omega arith), le-leb (48 + d) 57 (omega arith))

-- k digits say every number below 10^k
digits_value : (k n : ℕ) → n < 10 ^ k → value_from 0 (digits_of k n) ≡ n
unfolding digits_of value_from
digits_value zero n h = omega arith
digits_value (suc k) n h = go (ltb n 10) refl (digits_value k (n / 10) (omega (arith, rw pow-suc at h)))
  where
    go : (t : Bool) → ltb n 10 ≡ t → value_from 0 (digits_of k (n / 10)) ≡ n / 10 →
        value_from 0 (cond t ((48 + n) ∷ []) (digits_of k (n / 10) ++ ((48 + n % 10) ∷ []))) ≡ n
    go true t e = omega arith
    go false t e = value_append 0 (digits_of k (n / 10)) ((48 + n % 10) ∷ []) ∙ omega arith

digits_only : (k n : ℕ) → every is_digit (digits_of k n) ≡ true
unfolding digits_of
digits_only zero n = refl
digits_only (suc k) n = go (ltb n 10) refl (digits_only k (n / 10))
  where
    go : (t : Bool) → ltb n 10 ≡ t → every is_digit (digits_of k (n / 10)) ≡ true →
        every is_digit (cond t ((48 + n) ∷ []) (digits_of k (n / 10) ++ ((48 + n % 10) ∷ []))) ≡ true
    go true t e = is_digit_of n (ltb-true n 10 t)
    go false t e = every_append is_digit (digits_of k (n / 10)) _ e (is_digit_of (n % 10) (omega arith))

pub number_again : (n most : ℕ) → n ≤ most → n < 18446744073709551616 → number_in (decimal n) most ≡ Some n
unfolding decimal
number_again n most h k =
    let v : value_from 0 (digits_of 20 n) ≡ n = digits_value 20 n (omega arith) in
    sym (number_read (digits_of 20 n) most (digits_some 19 n) (sym (digits_only 20 n)) (omega arith)) ∙ ap Some v

-- Bytes

nibble_of : (d : ℕ) → d < 16 → nibble (hex_digit d) ≡ d
unfolding nibble
nibble_of d h = go (ltb d 10) refl
  where
    go : (t : Bool) → ltb d 10 ≡ t → nibble (cond t (48 + d) (87 + d)) ≡ d
    go true t =
        let k = ltb-true d 10 t in
        simp (le-leb 48 (48 + d) (omega arith), le-leb (48 + d) 57 (omega arith)) (omega arith)
    go false t =
        let k = ltb-false d 10 t in
        simp (le-leb 48 (87 + d) (omega arith), lt-leb (87 + d) 57 (omega arith), le-leb 65 (87 + d) (omega arith), lt-leb (87 + d) 70 (omega arith), le-leb 97 (87 + d) (omega arith), le-leb (87 + d) 102 (omega arith)) (omega arith)

pub pairs_again : (s : List ℕ) → Bytes s → pair_bytes (hex_of s) ≡ s
unfolding pair_bytes hex_of
pairs_again [] h = refl
pairs_again (b ∷ s) h =
    let k : b < 256 = h.0 in
    let e : nibble (hex_digit (b / 16)) * 16 + nibble (hex_digit (b % 16)) ≡ b = omega (arith, nibble_of (b / 16) (omega arith), nibble_of (b % 16) (omega arith)) in
    ap₂ ◌∷◌ e (pairs_again s h.1)

hex_only : (s : List ℕ) → Bytes s → every is_hex_digit (hex_of s) ≡ true
unfolding hex_of
hex_only [] h = refl
hex_only (b ∷ s) h =
    let k : b < 256 = h.0 in
    let x : b / 16 < 16 = omega arith in
    let y : b % 16 < 16 = omega arith in
    simp (nibble_of (b / 16) x, nibble_of (b % 16) y, lt-ltb (b / 16) 16 x, lt-ltb (b % 16) 16 y) (hex_only s h.1)

twice : (s : List ℕ) → length (hex_of s) ≡ 2 * length s
unfolding hex_of
twice [] = refl
twice (b ∷ s) = omega (arith, twice s)

no_dash : (b : ℕ) (s : List ℕ) → is_dash (hex_of (b ∷ s)) ≡ false
unfolding hex_of same_bytes
no_dash b s = and_not (eqb (hex_digit (b / 16)) 45)

pub bytes_again : (s : List ℕ) (out_len : ℕ) → Bytes s → length s ≤ out_len → ReadAs (hex_word s) out_len (Some (length s)) s
unfolding hex_word same_bytes
bytes_again [] out_len h k = read_dash (45 ∷ []) out_len refl
bytes_again (b ∷ s) out_len h k =
    let w = hex_of (b ∷ s) in
    let e = pairs_again (b ∷ s) h in
    let t = twice (b ∷ s) in
    let n : length (pair_bytes w) ≡ length (b ∷ s) = ap length e in
    let o = read_pairs w out_len (no_dash b s) (hex_all w (λ z. omega arith) (omega arith) (hex_only (b ∷ s) h)) (omega arith) in
    (sym (ap (λ (t : List ℕ). Some (length t)) e) ∙ o.0, sym e ∙ o.1)

-- Words

-- a word and further words, with one space between two
unfoldable pub line_of : List ℕ → List (List ℕ) → List ℕ
line_of w [] = w
line_of w (v ∷ ws) = w ++ 32 ∷ line_of v ws

-- no byte is a space
abbrev pub Whole : List ℕ → Type 0
Whole w = every (λ b. not (is_space b)) w ≡ true

abbrev pub AllWhole : List (List ℕ) → Type 0
AllWhole [] = Unit {0}
AllWhole (w ∷ ws) = Whole w × AllWhole ws

module _ (b : ℕ) (w : List ℕ) (h : Whole (b ∷ w)) where
  no_space : is_space b ≡ false
  no_space = not-true _ (and_true _ (every (λ b. not (is_space b)) w) h).0

  further : Whole w
  further = (and_true (not (is_space b)) _ h).1

first_whole : (w : List ℕ) → Whole w → first_word w ≡ w
unfolding first_word
first_whole [] h = refl
first_whole (b ∷ w) h = rw (no_space b w h) (ap (λ (t : List ℕ). b ∷ t) (first_whole w (further b w h)))

after_whole : (w : List ℕ) → Whole w → after_word w ≡ []
unfolding after_word
after_whole [] h = refl
after_whole (b ∷ w) h = rw (no_space b w h) (after_whole w (further b w h))

none_whole : (w : List ℕ) → Whole w → spaces w ≡ 0
none_whole [] h = refl
none_whole (b ∷ w) h = rw (no_space b w h) (omega (arith, none_whole w (further b w h)))

module _ (rest : List ℕ) where
  first_of : (w : List ℕ) → Whole w → first_word (w ++ 32 ∷ rest) ≡ w
  unfolding first_word
  first_of [] h = refl
  first_of (b ∷ w) h = rw (no_space b w h) (ap (λ (t : List ℕ). b ∷ t) (first_of w (further b w h)))

  after_of : (w : List ℕ) → Whole w → after_word (w ++ 32 ∷ rest) ≡ rest
  unfolding after_word
  after_of [] h = refl
  after_of (b ∷ w) h = rw (no_space b w h) (after_of w (further b w h))

  one_of : (w : List ℕ) → Whole w → spaces (w ++ 32 ∷ rest) ≡ 1 + spaces rest
  one_of [] h = refl
  one_of (b ∷ w) h = rw (no_space b w h) (omega (arith, one_of w (further b w h)))

pub words_again : (w : List ℕ) (ws : List (List ℕ)) → Whole w → AllWhole ws → (i : ℕ) → word_at i (line_of w ws) ≡ get_or (w ∷ ws) i []
unfolding word_at line_of
words_again w [] h k zero = first_whole w h
words_again w [] h k (suc i) = ap (word_at i) (after_whole w h) ∙ no_word i
words_again w (v ∷ ws) h k zero = first_of (line_of v ws) w h
words_again w (v ∷ ws) h k (suc i) = ap (word_at i) (after_of (line_of v ws) w h) ∙ words_again v ws k.0 k.1 i

pub spaces_again : (w : List ℕ) (ws : List (List ℕ)) → Whole w → AllWhole ws → spaces (line_of w ws) ≡ length ws
unfolding line_of
spaces_again w [] h k = none_whole w h
spaces_again w (v ∷ ws) h k = omega (arith, one_of (line_of v ws) w h, spaces_again v ws k.0 k.1)
