-- When a ban is live; no two live bans have one name, whatever ban is set. Assumes nothing.
use Prim.Native.Nat.{ℕ, zero, suc, ◌+◌, ◌≤◌, ◌<◌}
use mathlib.Core.Path.{◌≡◌, refl, sym, ap, ◌∙◌}
use mathlib.Core.Bool.{Bool, true, false, cond, ◌&&◌}
use mathlib.Core.List.{List, [], ◌∷◌}
use native.Mathlib.Omega.{arith}
use Rattle.std.specs.Prelude.{Some, None, unwrap_or}
use Rattle.std.specs.Option.{option_or}
use Rattle.std.specs.List.{position_or_len}
use Rattle.std.proofs.lemmas.List.Recursion.{is_position_or_len}
use Rattle.std.proofs.lemmas.List.Sums.{passes_at_first}
use lib.Dec.{ltb, eqb}
use lib.ListN.{length, set, replicate, length-set, length-replicate}
use borrow.Author.Tests.{ltb-true, ltb-false, lt-ltb, le-ltb, eqb-true, eq-eqb}
use Rattle.lists.proofs.Bools.{and_true}
use Rattle.lists.specs.Bytes.{same_bytes}
use Rattle.lists.specs.Lists.{bit, sum, tally, first_index}
use Rattle.lists.proofs.SameBytes.{same_bytes_eq, same_bytes_refl}
use Rattle.lists.proofs.Sums.{bit-most, sum_le, sum_zero, sum-set, sum-only, none_passes}
use Rattle.client.specs.Bans.{zero_ban, is_ban, free_place, ends_first, place_for, new_ban, add_ban}
use Rattle.client.specs.declared.bans.Ban.{Ban}

-- A live ban of a name has that name, and ends later

pub ban_is : (t : ℕ) (b : List ℕ) (port : ℕ) (x : Ban) → is_ban t b port x ≡ true → (t < x.end) × (x.port ≡ port) × (x.addr ≡ b)
unfolding is_ban
ban_is t b port x e =
    let live = and_true (ltb t x.end) _ e in
    let name = and_true (eqb x.port port) (same_bytes x.addr b) live.1 in
    (ltb-true t x.end live.0, eqb-true x.port port name.0, same_bytes_eq x.addr b name.1)

pub is_ban_lem : (t : ℕ) (b : List ℕ) (port : ℕ) (x : Ban) → t < x.end → x.port ≡ port → x.addr ≡ b → is_ban t b port x ≡ true
unfolding is_ban
is_ban_lem t b port x l p a = rw (lt-ltb t x.end l, eq-eqb x.port port p, a) (same_bytes_refl b)

-- a test counts once at most
-- an element that is replaced adds no more than its own weight, wherever it goes
set-most : {A : Type 0} (w : A → ℕ) (xs : List A) (i : ℕ) (y : A) → sum w (set xs i y) ≤ sum w xs + w y
set-most w [] i y = omega arith
set-most w (x ∷ xs) zero y = omega arith
set-most w (x ∷ xs) (suc i) y = omega (arith, set-most w xs i y)

-- the first place that passes, by both words for it
pub first_is_position : {A : Type 0} (p : A → Bool) (xs : List A) → first_index p xs ≡ position_or_len p xs
first_is_position p xs = is_position_or_len (first_index p) p refl (λ x xs. ap (cond (p x) 0) (omega arith)) xs

-- 32 places, and from a time on no two live bans of one name
pub record Alone (clock : ℕ) (bans : List Ban) : Type 0 where
  pub places : length bans ≡ 32
  pub single : (t : ℕ) → clock ≤ t → (b : List ℕ) (port : ℕ) → tally (is_ban t b port) bans ≤ 1

pub blank-alone : Alone 0 (replicate 32 zero_ban)
unfolding is_ban
blank-alone =
    record {
      places = length-replicate 32 zero_ban;
      single = λ t _ b port.
          let none : bit (is_ban t b port zero_ban) ≡ 0 = rw (le-ltb t 0 (omega arith)) in
          omega (arith, sum_zero (λ x. bit (is_ban t b port x)) 32 zero_ban none);
    }

pub later-alone : (clock t : ℕ) (bans : List Ban) → clock ≤ t → Alone clock bans → Alone t bans
later-alone clock t bans h a = record { places = a.places; single = λ u k. a.single u (omega arith) }

-- A ban is set at time t₀, and the bans hold from then on.
module _ (clock t₀ : ℕ) (bans : List Ban) (after : clock ≤ t₀) (a : Alone clock bans) (b₀ : List ℕ) (port₀ : ℕ) where
  abbrev new : Ban
  new = new_ban t₀ b₀ port₀

  module _ (t : ℕ) (h : t₀ ≤ t) where
    abbrev now : Ban → Bool
    now x = is_ban t₀ b₀ port₀ x

    abbrev then : Ban → Bool
    then x = is_ban t b₀ port₀ x

    -- a ban that is live then is live now
    fewer : (x : Ban) → bit (then x) ≤ bit (now x)
    unfolding is_ban
    fewer x = go (ltb t x.end) refl (eqb x.port port₀ && same_bytes x.addr b₀)
      where
        go : (live : Bool) → ltb t x.end ≡ live → (named : Bool) → bit (live && named) ≤ bit (ltb t₀ x.end && named)
        go true q named = rw (lt-ltb t₀ x.end (omega (arith, ltb-true t x.end q))) (omega arith)
        go false q named = omega arith

    -- of the ban's own name it is the only one: it takes the place of the one there is, or there is none
    moved : position_or_len now bans < length bans → tally then (set bans (position_or_len now bans) new) ≤ 1
    moved fits =
        let p = position_or_len now bans in
        let most = a.single t₀ after b₀ port₀ in
        let live = passes_at_first now bans zero_ban fits in
        let only = sum-only now (λ x. bit (then x)) (λ x. bit (now x)) (λ x e. omega (arith, fewer x, ap bit e)) bans p zero_ban most fits live in
        omega (arith, only, ap bit live, most, sum-set (λ x. bit (then x)) bans p new zero_ban fits, bit-most (then new))

    added : (i : ℕ) → length bans ≤ position_or_len now bans → tally then (set bans i new) ≤ 1
    added i q =
        let none = none_passes now bans (omega (arith, q, first_is_position now bans)) in
        let fall = sum_le (λ x. bit (then x)) (λ x. bit (now x)) fewer bans in
        omega (arith, none, fall, set-most (λ x. bit (then x)) bans i new, bit-most (then new))

    own : tally then (set bans (place_for t₀ b₀ port₀ bans) new) ≤ 1
    own = go (ltb (position_or_len now bans) (length bans)) refl
      where
        go : (b : Bool) → ltb (position_or_len now bans) (length bans) ≡ b
            → tally then (set bans (unwrap_or (option_or (cond b (Some (position_or_len now bans)) None) (free_place t₀ bans)) (ends_first bans)) new) ≤ 1
        go true q = moved (ltb-true _ _ q)
        go false q = added _ (ltb-false _ _ q)

  pub banned-alone : Alone t₀ (add_ban t₀ b₀ port₀ bans)
  unfolding add_ban is_ban
  banned-alone = record { places = length-set bans _ _ ∙ a.places; single = λ t h b port. go t h b port (is_ban t b port new) refl }
    where
      go : (t : ℕ) → t₀ ≤ t → (b : List ℕ) (port : ℕ) (same : Bool) → is_ban t b port new ≡ same
          → tally (is_ban t b port) (set bans (place_for t₀ b₀ port₀ bans) new) ≤ 1
      go t h b port true q =
          let named = and_true (eqb port₀ port) (same_bytes b₀ b) (and_true (ltb t (t₀ + 600000)) _ q).1 in
          rw (sym (eqb-true port₀ port named.0), sym (same_bytes_eq b₀ b named.1)) (own t h)
      go t h b port false q =
          omega (arith, set-most (λ x. bit (is_ban t b port x)) bans (place_for t₀ b₀ port₀ bans) new, ap bit q, a.single t (omega arith) b port)
