-- The key schedule, as the code makes it: word by word, and then the words as one list of bytes.
-- Assumes nothing.
use mathlib.Core.Path.{◌≡◌, ap, ap₂, sym, ◌∙◌}
use mathlib.Core.List.{List, [], ◌∷◌, ◌++◌, append-nil}
use Prim.Native.Nat.{ℕ, zero, suc, ◌+◌, ◌-◌, ◌%◌, ◌≤◌, ◌<◌}
use lib.Dec.{eqb}
use native.Mathlib.Nat.{le_of_eq}
use native.Mathlib.Omega.{arith}
use lib.Seq.{take_all}
use lib.ListN.{length, take, set, length-set}
use Rattle.std.specs.List.{flat_map}
use Rattle.std.specs.Simd.{first_chunks}
use Rattle.std.proofs.lemmas.Grind.{common_steps, flat_map-append}
use Rattle.std.proofs.lemmas.List.{take_more_set}
use Rattle.lists.proofs.Sums.{All, all_set}
use Rattle.cipher.specs.Cipher.{Bytes, column, word, xor_word}
use Rattle.cipher.specs.KeyExpansion.{temp, next_word, extended, schedule, key_expansion}

-- each is a word
abbrev pub AllWords : List Bytes → Type 0
AllWords v = All (λ x. length x ≡ 4) v

-- the words' bytes
abbrev pub flat : List Bytes → Bytes
flat v = flat_map (λ x. x) v

word-first : (x r : Bytes) → length x ≡ 4 → word (x ++ r) 0 ≡ x
word-first x r h = grind (arith, common_steps)

word-later : (x r : Bytes) (j : ℕ) → length x ≡ 4 → word (x ++ r) (suc j) ≡ word r j
word-later x r j h = grind (arith, common_steps)

-- of the first n words
flat-word : (w : List Bytes) (n j : ℕ) → AllWords w → j < n → j < length w → word (flat (take n w)) j ≡ column w j
flat-word [] n j a k h = absurd (omega (arith, h))
flat-word (x ∷ w) zero j a k h = absurd (omega (arith, k))
flat-word (x ∷ w) (suc n) zero a k h = word-first x (flat (take n w)) a.0
flat-word (x ∷ w) (suc n) (suc j) a k h = word-later x (flat (take n w)) j a.0 ∙ flat-word w n j a.1 (omega (arith, k)) (omega (arith, h))

chunks-flat : (key : Bytes) → length key ≡ 16 → flat (first_chunks 4 4 key) ≡ key
chunks-flat key h = grind (arith, common_steps)

-- the key is the first four words
pub key-stored : (key : Bytes) (x rest : List Bytes) (n : ℕ) → n ≡ 4 → length key ≡ 16 → length rest ≡ 40 → AllWords rest → x ≡ first_chunks 4 n key
    → (length (x ++ rest) ≡ 44) × AllWords (x ++ rest) × (flat (take 4 (x ++ rest)) ≡ schedule key 0)
unfolding schedule
key-stored key x rest n f h l a e =
    let g : x ≡ first_chunks 4 4 key = rw f at e in
    rw g (omega arith, (grind (arith, common_steps), (grind (arith, common_steps), (grind (arith, common_steps), (grind (arith, common_steps), a)))), chunks-flat key h)

-- word i is put behind the words before it
pub word-stored : (key x : Bytes) (w : List Bytes) (i : ℕ) → 4 ≤ i → i < 44 → length w ≡ 44 → AllWords w → flat (take i w) ≡ schedule key (i - 4)
    → x ≡ xor_word (column w (i - 4)) (temp (eqb (i % 4) 0) (column w (i - 1)) i)
    → (length (set w i x) ≡ 44) × AllWords (set w i x) × (flat (take (i + 1) (set w i x)) ≡ schedule key (i + 1 - 4))
unfolding schedule extended next_word
word-stored key x w i h k l a e p =
    let n : i + 1 - 4 ≡ suc (i - 4) = omega arith in
    let m : i - 4 + 4 ≡ i = omega arith in
    let b : word (flat (take i w)) (i - 4) ≡ column w (i - 4) = flat-word w i (i - 4) a (omega arith) (omega arith) in
    let c : word (flat (take i w)) (i - 1) ≡ column w (i - 1) = flat-word w i (i - 1) a (omega arith) (omega arith) in
    let q : x ≡ next_word (schedule key (i - 4)) i =
    p ∙ ap₂ (λ (y z : Bytes). xor_word y (temp (eqb (i % 4) 0) z i)) (sym b) (sym c) ∙ ap (λ (y : Bytes). next_word y i) e in (
      length-set w i x ∙ l,
      all_set (λ y. length y ≡ 4) w i x a (ap length p),
      ap flat (take_more_set w i x (omega arith)) ∙ flat_map-append (λ y. y) (take i w) (x ∷ []) ∙ ap₂ ◌++◌ e (append-nil x ∙ q) ∙ rw (n, m),
    )

-- all words are there
pub all_stored : (key : Bytes) (w : List Bytes) (i : ℕ) → i ≡ 44 → length w ≡ 44 → flat (take i w) ≡ schedule key (i - 4) → flat w ≡ key_expansion key
unfolding key_expansion
all_stored key w i e h f = sym (ap flat (take_all 44 w (le_of_eq h))) ∙ (rw e at f)
