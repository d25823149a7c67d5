-- Entries that move one place on, up to the place of the one that is taken out. Assumes nothing.
use Rattle.std.specs.Prelude.{None, Some, unwrap_or, position}
use Rattle.std.specs.List.{position_or_len, copy_within}
use Rattle.std.proofs.lemmas.List.{get_or_past}
use Prim.Native.Nat.{ℕ, suc, ◌+◌, ◌-◌, ◌≤◌, ◌<◌}
use mathlib.Core.Path.{◌≡◌, refl, sym, ap, ◌∙◌}
use mathlib.Core.Bool.{Bool, true, false, cond}
use mathlib.Core.List.{List, [], ◌∷◌, ◌++◌, append-nil}
use native.Mathlib.Omega.{arith}
use lib.Dec.{ltb}
use lib.ListN.{length, take, drop, get_or, set, length-append, length-drop, drop_of_length-le}
use borrow.Author.Tests.{ltb-true, ltb-false}
use lib.Seq.{paste, take_all, length-take-le}
use Rattle.lists.specs.Lists.{first_index, drop_first}
use Rattle.client.proofs.AddBan.{first_is_position}

module _ {A : Type 0} where
  -- one element is out
  drop-first : (p : A → Bool) (xs : List A) → drop_first p xs ≡ take (first_index p xs) xs ++ drop (suc (first_index p xs)) xs
  drop-first p [] = refl
  drop-first p (x ∷ xs) = go (drop-first p xs) (p x)
    where
      go : drop_first p xs ≡ take (first_index p xs) xs ++ drop (suc (first_index p xs)) xs
          → (b : Bool) → cond b xs (x ∷ drop_first p xs) ≡ take (cond b 0 (suc (first_index p xs))) (x ∷ xs) ++ drop (suc (cond b 0 (suc (first_index p xs)))) (x ∷ xs)
      go more true = refl
      go more false = ap (λ (zs : List A). x ∷ zs) more

  front : (x : A) (xs ys zs : List A) → 0 < length xs → set (take 1 xs ++ ys ++ zs) 0 x ≡ x ∷ (ys ++ zs)
  front x [] ys zs h = absurd (omega (arith, h))
  front x (z ∷ xs) ys zs h = refl

  -- the elements before the one that is taken out move one place on; where none is, all do but the last
  module _ (p : A → Bool) (x : A) (xs : List A) (full : length xs ≡ 32) where
    abbrev place : ℕ
    place = position_or_len p xs

    next : suc place ≡ 1 + place
    next = omega arith

    out : drop_first p xs ≡ take place xs ++ drop (1 + place) xs
    out = drop-first p xs ∙ rw (first_is_position p xs, next) refl

    pub moved_on : set (copy_within xs 0 (unwrap_or (position p xs) 31) 1) 0 x ≡ take 32 (x ∷ drop_first p xs)
    moved_on =
        let n = unwrap_or (position p xs) 31 in
        let all : n - 0 ≡ n = omega arith in
        ap (λ k. set (paste xs 1 xs k) 0 x) all ∙ front x xs _ _ (omega (arith, full)) ∙ go (ltb place (length xs)) refl
      where
        go : (b : Bool) → ltb place (length xs) ≡ b
            → x ∷ (take (unwrap_or (cond b (Some place) None) 31) xs ++ drop (1 + unwrap_or (cond b (Some place) None) 31) xs) ≡ take 32 (x ∷ drop_first p xs)
        go true q =
            let h = ltb-true place (length xs) q in
            let size : length (x ∷ (take place xs ++ drop (1 + place) xs)) ≤ 32 =
            omega (arith, full, h, length-append (take place xs) (drop (1 + place) xs), length-take-le place xs (omega (arith, h)), length-drop (1 + place) xs) in
            rw out (sym (take_all 32 (x ∷ (take place xs ++ drop (1 + place) xs)) size))
        go false q =
            let h = ltb-false place (length xs) q in
            let whole : drop_first p xs ≡ xs =
            out ∙ rw (take_all place xs h, drop_of_length-le xs {i = 1 + place} (omega (arith, h))) (append-nil xs) in
            rw (whole, drop_of_length-le xs {i = 32} (omega (arith, full))) (append-nil (x ∷ take 31 xs))

-- what stands at the first place that passes, or nothing
module _ {A : Type 0} (p : A → Bool) (xs : List A) where
  pub found_at : {i : ℕ} → Some i ≡ position p xs → i ≡ first_index p xs
  found_at {i} e = rw (first_is_position p xs) (go (ltb (position_or_len p xs) (length xs)) e)
    where
      go : (b : Bool) → Some i ≡ cond b (Some (position_or_len p xs)) None → i ≡ position_or_len p xs
      go true q = cc
      go false q = absurd (let z : ◌≡◌ {A = ℕ} 0 1 = cc in omega arith)

  pub found_nowhere : (d : A) → None ≡ position p xs → d ≡ get_or xs (first_index p xs) d
  found_nowhere d e = rw (first_is_position p xs) (sym (get_or_past xs (position_or_len p xs) d (go (ltb (position_or_len p xs) (length xs)) refl e)))
    where
      go : (b : Bool) → ltb (position_or_len p xs) (length xs) ≡ b → None ≡ cond b (Some (position_or_len p xs)) None → length xs ≤ position_or_len p xs
      go true q n = absurd (let z : ◌≡◌ {A = ℕ} 0 1 = cc in omega arith)
      go false q n = ltb-false _ _ q
