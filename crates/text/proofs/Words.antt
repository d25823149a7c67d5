-- The words of a line are the parts between its spaces. Assumes nothing.
use Prim.Native.Nat.{ℕ, zero, suc}
use mathlib.Core.Path.{◌≡◌, refl, sym, ap, ◌∙◌}
use mathlib.Core.Bool.{Bool, true, false, cond}
use mathlib.Core.List.{List, [], ◌∷◌}
use lib.ListN.{get_or}
use lib.Dec.{eqb}
use denote.Ref.{Bor}
use Rattle.std.specs.Prelude.{Option, Some, None, unwrap_or, option_map}
use Rattle.std.specs.List.{slice_split, slice_get, onto_first}
use Rattle.text.specs.Word.{is_space, first_word, after_word, word_at}

-- no words
pub no_word : (i : ℕ) → word_at i [] ≡ []
unfolding word_at first_word after_word
no_word zero = refl
no_word (suc i) = no_word i

pub word_part : (s : List ℕ) (i : ℕ) → get_or (slice_split is_space s) i [] ≡ word_at i s
unfolding word_at first_word after_word
word_part [] zero = refl
word_part [] (suc i) = sym (no_word i)
word_part (b ∷ s) zero = go (eqb b 32) (slice_split is_space s) (word_part s zero)
  where
    go : (t : Bool) (ps : List (List ℕ)) → get_or ps 0 [] ≡ first_word s → get_or (cond t ([] ∷ ps) (onto_first b ps)) 0 [] ≡ cond t [] (b ∷ first_word s)
    go true ps e = refl
    go false [] e = ap (λ (w : List ℕ). b ∷ w) e
    go false (p ∷ ps) e = ap (λ (w : List ℕ). b ∷ w) e
word_part (b ∷ s) (suc i) = go (eqb b 32) (slice_split is_space s) (word_part s i) (word_part s (suc i))
  where
    go : (t : Bool) (ps : List (List ℕ)) → get_or ps i [] ≡ word_at i s → get_or ps (suc i) [] ≡ word_at i (after_word s)
        → get_or (cond t ([] ∷ ps) (onto_first b ps)) (suc i) [] ≡ word_at i (cond t s (after_word s))
    go true ps e f = e
    go false [] e f = f
    go false (p ∷ ps) e f = f

-- the part at a place as it is lent, or else an empty one
pub part_or_none : (s : List ℕ) (i : ℕ) (r : Option (Bor (List ℕ))) (d w : Bor (List ℕ)) → option_map (λ x. x.now) r ≡ slice_get (slice_split is_space s) i
    → w ≡ unwrap_or r d → d.now ≡ [] → w.now ≡ word_at i s
part_or_none s i r d w e u z = ap (λ (x : Bor (List ℕ)). x.now) u ∙ go r z ∙ ap (λ (o : Option (List ℕ)). unwrap_or o []) e ∙ get_part (slice_split is_space s) i ∙ word_part s i
  where
    go : (r : Option (Bor (List ℕ))) → d.now ≡ [] → (unwrap_or r d).now ≡ unwrap_or (option_map (λ x. x.now) r) []
    go None z = z
    go (Some x) z = refl

    get_part : (ps : List (List ℕ)) (i : ℕ) → unwrap_or (slice_get ps i) [] ≡ get_or ps i []
    get_part [] i = refl
    get_part (p ∷ ps) zero = refl
    get_part (p ∷ ps) (suc i) = get_part ps i
