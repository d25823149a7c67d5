-- A line that is gathered from the input. Assumes nothing.
use Prim.Native.Nat.{ℕ, suc, ◌+◌, ◌≤◌, ◌<◌}
use mathlib.Core.Path.{◌≡◌, refl, ap, sym, ◌∙◌}
use mathlib.Core.Bool.{Bool, true, false, cond}
use mathlib.Core.List.{List, [], ◌∷◌, ◌++◌, append-nil}
use native.Mathlib.Nat.{not-suc-le-zero}
use native.Mathlib.Omega.{arith}
use Rattle.std.proofs.Common.{length-drop}
use lib.Dec.{eqb, ltb}
use lib.ListN.{length, take, drop}
use lib.Seq.{take_all, drop-length, drop-drop}
use borrow.Author.Tests.{eqb-true, le-ltb, lt-ltb, ltb-true, ltb-false}
use Rattle.std.specs.Prelude.{Option, Some, None, unwrap_or}
use Rattle.text.specs.Line.{feed_at, before_feed, feed_of, length_with, gathered}

-- ---- what the code finds: the input from the place on, and the place of its line feed, or else how long it is

module _ (n from : ℕ) (input left : List ℕ) (size all : ℕ) (feed : Option ℕ) (l : left ≡ drop from input) (u : size ≡ unwrap_or feed (length left)) (f : unwrap_or feed (length left) ≡ feed_at left) (e : all ≡ length_with n size) where
  feed_is : size ≡ feed_at (drop from input)
  feed_is = rw l at (u ∙ f)

  pub cut_off : feed ≡ None → record { next = length input; len = all; complete = false } ≡ gathered n from input
  unfolding gathered
  cut_off h =
      let k : size ≡ length left = u ∙ ap (λ (o : Option ℕ). unwrap_or o (length left)) h in
      let q : length (drop from input) ≤ feed_at (drop from input) = omega (arith, feed_is, rw l at k) in
      let t : ltb (feed_at (drop from input)) (length (drop from input)) ≡ false = le-ltb _ _ q in
      rw t (cc feed_is)

  pub ended : (i : ℕ) → feed ≡ Some i → i < length left → record { next = from + size + 1; len = all; complete = true } ≡ gathered n from input
  unfolding gathered
  ended i h k =
      let j : size ≡ i = u ∙ ap (λ (o : Option ℕ). unwrap_or o (length left)) h in
      let q : feed_at (drop from input) < length (drop from input) = omega (arith, feed_is, rw l at k) in
      let t : ltb (feed_at (drop from input)) (length (drop from input)) ≡ true = lt-ltb _ _ q in
      rw t (cc feed_is)

-- the place after the line feed lies in the input
pub in_input : (from : ℕ) (input left : List ℕ) (size : ℕ) → left ≡ drop from input → size < length left → from + size + 1 ≤ length input
in_input from input left size l h = omega (arith, length-drop from input, rw l at h)

-- ---- a step loses no byte and takes none twice: what was offered is what the line got, its line feed, and what is left

at-feed : (s : List ℕ) → feed_at s < length s → s ≡ before_feed s ++ (10 ∷ drop (suc (feed_at s)) s)
at-feed [] h = absurd (not-suc-le-zero h)
at-feed (x ∷ s) h = go (eqb x 10) refl h (λ k. at-feed s k)
  where
    go : (t : Bool) → eqb x 10 ≡ t → cond t 0 (suc (feed_at s)) < length (x ∷ s) → (feed_at s < length s → s ≡ before_feed s ++ (10 ∷ drop (suc (feed_at s)) s))
        → x ∷ s ≡ take (cond t 0 (suc (feed_at s))) (x ∷ s) ++ (10 ∷ drop (suc (cond t 0 (suc (feed_at s)))) (x ∷ s))
    go true e k w = ap (λ (b : ℕ). b ∷ s) (eqb-true x 10 e)
    go false e k w = ap (λ (l : List ℕ). x ∷ l) (w (omega arith))

module _ (n from : ℕ) (s : List ℕ) where
  parted_by : (k : Bool) → ltb (feed_at (drop from s)) (length (drop from s)) ≡ k
      → drop from s ≡ before_feed (drop from s) ++ (feed_of (gathered n from s).complete ++ drop (gathered n from s).next s)
  unfolding gathered
  parted_by true e =
      let h : feed_at (drop from s) < length (drop from s) = ltb-true _ _ e in
      let k : from + suc (feed_at (drop from s)) ≡ from + feed_at (drop from s) + 1 = omega arith in
      rw e (at-feed (drop from s) h ∙ ap (λ (l : List ℕ). before_feed (drop from s) ++ (10 ∷ l)) (drop-drop (suc (feed_at (drop from s))) from s ∙ ap (λ (j : ℕ). drop j s) k))
  parted_by false e =
      let h : length (drop from s) ≤ feed_at (drop from s) = ltb-false _ _ e in
      rw (e, drop-length s, append-nil) (sym (take_all (feed_at (drop from s)) (drop from s) h))

  pub parted : drop from s ≡ before_feed (drop from s) ++ (feed_of (gathered n from s).complete ++ drop (gathered n from s).next s)
  parted = parted_by _ refl
