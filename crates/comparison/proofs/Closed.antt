-- The list of all differences, entry by entry, is the whole list as far as the room goes, and the rest counted. Assumes nothing.
use Rattle.std.specs.Prelude.{Option, None, Some}
use Rattle.std.proofs.Common.{◌≡◌, ℕ, suc, ◌+◌, ◌-◌, ◌*◌, ◌^◌, ◌<◌, ◌≤◌, Bool, true, false, cond, ltb, List, [], ◌∷◌, length, take, drop, sym, refl, ap, ◌∙◌, mod-eq_of_lt, arith, ltb-false, ltb-true}
use lib.Seq.{take-nil, drop-nil, sets, length-sets}
use Rattle.comparison.specs.Account.{Judged}
use Rattle.comparison.specs.Difference.{difference_of}
use Rattle.comparison.specs.Listing.{Entry, unpaired, before, entries, numbers_of, fitting, more, noted, list_with, counted, tallied, list_then}
use Rattle.comparison.specs.declared.list.Tally.{Tally}
use Rattle.comparison.specs.ToCome.{tally_all, list_all, fed_all}

-- from a tally and a room of n numbers, with these entries to come
pub record Closed (n : ℕ) (t : Tally) (list : List ℕ) (es : List Entry) (last : Tally) (end : List ℕ) : Type 0 where
  pub listed : last.listed ≡ t.listed + length (take (fitting n - t.listed) es)
  pub remaining : last.remaining ≡ t.remaining + length (drop (fitting n - t.listed) es)
  pub numbers : end ≡ sets list (2 * t.listed) (numbers_of (take (fitting n - t.listed) es))

one_more : (k : ℕ) → k + 1 < 2 ^ 64 → more k ≡ k + 1
one_more k h = mod-eq_of_lt h

module _ (n : ℕ) (t : Tally) (list : List ℕ) (size : length list ≡ n) where
  -- one entry
  closed_at : (place : ℕ) (es : List Entry) → t.remaining + 1 < 2 ^ 64 → (last : Tally) (end : List ℕ)
      → Closed n (tallied n t (Some place)) (list_then t (Some place) list) es last end
      → Closed n t list (record { pair = t.pairs; place = place } ∷ es) last end
  unfolding noted list_with
  closed_at place es h last end i = go (ltb t.listed (fitting n)) refl
    where
      go : (b : Bool) → ltb t.listed (fitting n) ≡ b → Closed n t list (record { pair = t.pairs; place = place } ∷ es) last end
      go true e =
          let q : fitting n - t.listed ≡ suc (fitting n - (t.listed + 1)) = omega (arith, ltb-true t.listed (fitting n) e) in
          let j : 2 * (t.listed + 1) ≡ suc (suc (2 * t.listed)) = omega arith in
          let listed = rw e at i.listed in
          let remaining = rw e at i.remaining in
          let numbers = rw (size, e, j) at i.numbers in
          record {
            listed = rw q (omega (arith, listed));
            remaining = rw q remaining;
            numbers = rw q numbers;
          }
      go false e =
          let q : fitting n - t.listed ≡ 0 = omega (arith, ltb-false t.listed (fitting n) e) in
          let listed = rw (e, q) at i.listed in
          let remaining = rw (e, q, one_more t.remaining h) at i.remaining in
          let numbers = rw (size, e, q) at i.numbers in
          record {
            listed = rw q (omega (arith, listed));
            remaining = rw q (omega (arith, remaining));
            numbers = rw q numbers;
          }

  closed_step : (d : Option ℕ) (es : List Entry) → t.remaining + 1 < 2 ^ 64 → (last : Tally) (end : List ℕ)
      → Closed n (tallied n t d) (list_then t d list) es last end → Closed n t list (before t.pairs d es) last end
  closed_step None es h last end i = record { listed = i.listed; remaining = i.remaining; numbers = i.numbers }
  closed_step (Some place) es h last end i = closed_at place es h last end i

  -- the room keeps its size
  pub size-after : (d : Option ℕ) → length (list_then t d list) ≡ n
  unfolding list_with
  size-after None = size
  size-after (Some place) = go (ltb t.listed (fitting (length list)))
    where
      go : (b : Bool) → length (cond b (sets list (2 * t.listed) (t.pairs ∷ place ∷ [])) list) ≡ n
      go true = length-sets list (2 * t.listed) (t.pairs ∷ place ∷ []) ∙ size
      go false = size

-- the next pair, and what was counted so far
record Next (t next : Tally) : Type 0 where
  pairs : next.pairs ≡ more t.pairs
  remaining : next.remaining ≤ t.remaining + 1

next_of : (n : ℕ) (t : Tally) (d : Option ℕ) → t.remaining + 1 < 2 ^ 64 → Next t (tallied n t d)
unfolding noted
next_of n t None h = record { pairs = refl; remaining = omega arith }
next_of n t (Some place) h = go (ltb t.listed (fitting n))
  where
    go : (b : Bool) → Next t (counted (cond b
        (record { pairs = t.pairs; listed = t.listed + 1; remaining = t.remaining })
        (record { pairs = t.pairs; listed = t.listed; remaining = more t.remaining })))
    go true = record { pairs = refl; remaining = omega arith }
    go false = record { pairs = refl; remaining = omega (arith, one_more t.remaining h) }

-- what is known of a tally at a pair
pub record Fits (n : ℕ) (t : Tally) (list : List ℕ) (k : ℕ) : Type 0 where
  pub size : length list ≡ n
  pub pairs : t.pairs ≡ k
  pub remaining : t.remaining ≤ k

fits_next : (n : ℕ) (t : Tally) (list : List ℕ) (k : ℕ) → Fits n t list k → k + 1 < 2 ^ 64 → (d : Option ℕ) → Fits n (tallied n t d) (list_then t d list) (k + 1)
fits_next n t list k f h d =
    let e = next_of n t d (omega (arith, f.remaining)) in
    record {
      size = size-after n t list f.size d;
      pairs = e.pairs ∙ rw f.pairs (one_more k h);
      remaining = omega (arith, e.remaining, f.remaining);
    }

-- a pair before those to come
closed_pair : (n : ℕ) (t : Tally) (list : List ℕ) (k : ℕ) → Fits n t list k → k + 1 < 2 ^ 64 → (d : Option ℕ) (es : List Entry) (last : Tally) (end : List ℕ)
    → Closed n (tallied n t d) (list_then t d list) es last end → Closed n t list (before k d es) last end
closed_pair n t list k f h d es last end i =
    rw (sym f.pairs) (closed_step n t list f.size d es (omega (arith, f.remaining)) last end i)

pub closed : (xs ys : List Judged) (n : ℕ) (t : Tally) (list : List ℕ) (k : ℕ) → Fits n t list k → k + length xs < 2 ^ 64 → k + length ys < 2 ^ 64
    → Closed n t list (entries k xs ys) (tally_all n t xs ys) (list_all n t list xs ys)
unfolding entries tally_all list_all
closed [] [] n t list k f hx hy =
    record {
      listed = rw (take-nil {A = Entry} (fitting n - t.listed)) (omega arith);
      remaining = rw (drop-nil {A = Entry} (fitting n - t.listed)) (omega arith);
      numbers = rw (take-nil {A = Entry} (fitting n - t.listed));
    }
closed (x ∷ xs) [] n t list k f hx hy =
    closed_pair n t list k f (omega arith) unpaired (entries (k + 1) xs []) _ _
    (closed xs [] n (tallied n t unpaired) (list_then t unpaired list) (k + 1) (fits_next n t list k f (omega arith) unpaired) (omega arith) (omega arith))
closed [] (y ∷ ys) n t list k f hx hy =
    closed_pair n t list k f (omega arith) unpaired (entries (k + 1) [] ys) _ _
    (closed [] ys n (tallied n t unpaired) (list_then t unpaired list) (k + 1) (fits_next n t list k f (omega arith) unpaired) (omega arith) (omega arith))
closed (x ∷ xs) (y ∷ ys) n t list k f hx hy =
    let d = difference_of x y in
    closed_pair n t list k f (omega arith) d (entries (k + 1) xs ys) _ _
    (closed xs ys n (tallied n t d) (list_then t d list) (k + 1) (fits_next n t list k f (omega arith) d) (omega arith) (omega arith))

pub fed_all_lem : (xs : List Judged) (k : ℕ) → k + length xs < 2 ^ 64 → fed_all k xs ≡ k + length xs
unfolding fed_all
fed_all_lem [] k h = omega arith
fed_all_lem (x ∷ xs) k h = ap (λ (m : ℕ). fed_all m xs) (one_more k (omega arith)) ∙ fed_all_lem xs (k + 1) (omega arith) ∙ omega arith
