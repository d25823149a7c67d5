-- The record of the calls: a recent address stands once, and what one more store makes of what is recalled. Assumes nothing.
use Rattle.std.specs.Prelude.{None, Option, Some, is_some}
use Rattle.std.specs.Option.{option_or}
use Rattle.std.proofs.lemmas.List.{take-map}
use Prim.Native.Nat.{ℕ, zero, suc}
use mathlib.Core.Path.{◌≡◌, refl, sym, ap, ap₂, ◌∙◌, subst}
use mathlib.Core.Bool.{Bool, true, false, cond, not, ◌||◌, true≢false, or-true}
use mathlib.Core.List.{List, [], ◌∷◌, map}
use native.Mathlib.Omega.{arith}
use lib.Dec.{eqb}
use lib.ListN.{length, take}
use lib.Seq.{take-take}
use Rattle.lists.proofs.Bools.{or_false, chosen}
use Rattle.lists.specs.Bytes.{same_bytes}
use Rattle.lists.specs.Lists.{drop_first}
use Rattle.lists.proofs.SameBytes.{same_bytes_eq, same_bytes_refl}
use Rattle.client.specs.History.{Store, member, without, distinct, recent, last_cookie, last_mss, recalled, Once}

-- Addresses that stand once

-- an address that is not in a list is in no part of it
absent_without : (b a : List ℕ) (l : List (List ℕ)) → member b l ≡ false → member b (without a l) ≡ false
unfolding member without
absent_without b a [] e = refl
absent_without b a (x ∷ l) e =
    let both = or_false (same_bytes x b) (member b l) e in
    let rest = absent_without b a l both.1 in
    chosen (λ z. member b z ≡ false) (same_bytes x a) (without a l) (x ∷ without a l) (λ _. rest) (λ _. rw both.0 rest)

absent_take : (b : List ℕ) (n : ℕ) (l : List (List ℕ)) → member b l ≡ false → member b (take n l) ≡ false
unfolding member
absent_take b zero l e = refl
absent_take b (suc n) [] e = refl
absent_take b (suc n) (x ∷ l) e =
    let both = or_false (same_bytes x b) (member b l) e in
    rw both.0 (absent_take b n l both.1)

absent_itself : (a : List ℕ) (l : List (List ℕ)) → member a (without a l) ≡ false
unfolding member without
absent_itself a [] = refl
absent_itself a (x ∷ l) =
    chosen (λ z. member a z ≡ false) (same_bytes x a) (without a l) (x ∷ without a l) (λ _. absent_itself a l) (λ q. rw q (absent_itself a l))

once-without : (a : List ℕ) (l : List (List ℕ)) → Once l → Once (without a l)
unfolding without Once
once-without a [] h = tt
once-without a (x ∷ l) h =
    let rest = once-without a l h.1 in
    chosen Once (same_bytes x a) (without a l) (x ∷ without a l) (λ _. rest) (λ _. (absent_without x a l h.0, rest))

once-take : (n : ℕ) (l : List (List ℕ)) → Once l → Once (take n l)
unfolding Once
once-take zero l h = tt
once-take (suc n) [] h = tt
once-take (suc n) (x ∷ l) h = (absent_take x n l h.0, once-take n l h.1)

once-distinct : (l : List (List ℕ)) → Once (distinct l)
unfolding distinct Once
once-distinct [] = tt
once-distinct (a ∷ l) = (absent_itself a (distinct l), once-without a (distinct l) (once-distinct l))

-- of a list where each stands once, an address is gone once its first is
without_absent : (a : List ℕ) (l : List (List ℕ)) → member a l ≡ false → without a l ≡ l
unfolding member without
without_absent a [] e = refl
without_absent a (x ∷ l) e =
    let both = or_false (same_bytes x a) (member a l) e in
    rw both.0 (ap (λ z. x ∷ z) (without_absent a l both.1))

once-drop : (a : List ℕ) (l : List (List ℕ)) → Once l → drop_first (λ x. same_bytes x a) l ≡ without a l
unfolding without Once
once-drop a [] h = refl
once-drop a (x ∷ l) h = go (same_bytes x a) refl (once-drop a l h.1)
  where
    go : (t : Bool) → same_bytes x a ≡ t → drop_first (λ y. same_bytes y a) l ≡ without a l
        → cond t l (x ∷ drop_first (λ y. same_bytes y a) l) ≡ cond t (without a l) (x ∷ without a l)
    go true q e = sym (without_absent a l (subst (λ y. member y l ≡ false) (same_bytes_eq x a q) h.0))
    go false q e = ap (λ z. x ∷ z) e

-- Lists: the first n, a first element that is dropped, and a function of each element

drop-take : {A : Type 0} (p : A → Bool) (n : ℕ) (l : List A) → take n (drop_first p (take (suc n) l)) ≡ take n (drop_first p l)
drop-take p zero l = refl
drop-take p (suc n) [] = refl
drop-take {A} p (suc n) (x ∷ l) = go (p x) (drop-take p n l)
  where
    go : (b : Bool) → take n (drop_first p (take (suc n) l)) ≡ take n (drop_first p l)
        → take (suc n) (cond b (take (suc n) l) (x ∷ drop_first p (take (suc n) l))) ≡ take (suc n) (cond b l (x ∷ drop_first p l))
    go true e = take-take (suc n) (suc n) l (omega arith)
    go false e = ap (λ (z : List A). x ∷ z) e

map-drop : {A B : Type 0} (f : A → B) (p : B → Bool) (l : List A) → map f (drop_first (λ x. p (f x)) l) ≡ drop_first p (map f l)
map-drop f p [] = refl
map-drop f p (x ∷ l) = go (p (f x)) (map-drop f p l)
  where
    go : (b : Bool) → map f (drop_first (λ y. p (f y)) l) ≡ drop_first p (map f l)
        → map f (cond b l (x ∷ drop_first (λ y. p (f y)) l)) ≡ cond b (map f l) (f x ∷ drop_first p (map f l))
    go true e = refl
    go false e = ap (λ z. f x ∷ z) e

-- functions that agree on a list's elements
map_agree : {B : Type 0} (f g : List ℕ → B) (l : List (List ℕ)) → ((b : List ℕ) → member b l ≡ true → f b ≡ g b) → map f l ≡ map g l
unfolding member
map_agree f g [] h = refl
map_agree f g (x ∷ l) h =
    ap₂ ◌∷◌ (h x (rw (same_bytes_refl x))) (map_agree f g l (λ b e. h b (rw e (or-true (same_bytes x b)))))

-- What is recalled of one address

abbrev pub last : List ℕ → List Store → Store
last a s = record { address = a; cookie = last_cookie a s; mss = last_mss a s }

abbrev nothing_for : List ℕ → Store
nothing_for a = record { address = a; cookie = []; mss = None }

-- what a list of stores has for it: its first
abbrev pub found_for : List ℕ → List Store → Store
found_for a [] = nothing_for a
found_for a (y ∷ ys) = cond (same_bytes y.address a) y (found_for a ys)

found-last : (a : List ℕ) (s : List Store) (l : List (List ℕ)) → found_for a (map (λ b. last b s) l) ≡ cond (member a l) (last a s) (nothing_for a)
unfolding member
found-last a s [] = refl
found-last a s (b ∷ l) = go (same_bytes b a) refl (found-last a s l)
  where
    go : (t : Bool) → same_bytes b a ≡ t → found_for a (map (λ b. last b s) l) ≡ cond (member a l) (last a s) (nothing_for a)
        → cond t (last b s) (found_for a (map (λ b. last b s) l)) ≡ cond (t || member a l) (last a s) (nothing_for a)
    go true q e = ap (λ (z : List ℕ). last z s) (same_bytes_eq b a q)
    go false q e = e

absent_last : (a : List ℕ) (s : List Store) → member a (recent s) ≡ false → last a s ≡ nothing_for a
unfolding last_cookie last_mss
absent_last a [] e = refl
absent_last a (x ∷ s) e = rw e

pub found-recalled : (a : List ℕ) (s : List Store) → found_for a (recalled s) ≡ last a s
found-recalled a s = found-last a s (recent s) ∙ go (member a (recent s)) refl
  where
    go : (t : Bool) → member a (recent s) ≡ t → cond t (last a s) (nothing_for a) ≡ last a s
    go true q = refl
    go false q = sym (absent_last a s q)

-- One more store

-- a cookie that is not empty and an MSS that is given replace what was stored
abbrev pub joined : Store → Store → Store
joined x y =
    record {
      address = x.address;
      cookie = cond (eqb (length x.cookie) 0) y.cookie x.cookie;
      mss = option_or x.mss y.mss;
    }

-- the store of an address goes to the front, over what was there for it, and the others stay in their order
abbrev pub others : List ℕ → List Store → List Store
others a ys = drop_first (λ y. same_bytes y.address a) ys

abbrev pub learned : Store → List Store → List Store
learned x ys = take 32 (joined x (found_for x.address ys) ∷ others x.address ys)

last-own : (x : Store) (s : List Store) → last x.address (x ∷ s) ≡ joined x (last x.address s)
unfolding last_cookie last_mss member distinct
last-own x s = rw (same_bytes_refl x.address) (λ i. record { address = x.address; cookie = cookies (eqb (length x.cookie) 0) i; mss = sizes x.mss i })
  where
    cookies : (b : Bool) → cond (not b) x.cookie (last_cookie x.address s) ≡ cond b (last_cookie x.address s) x.cookie
    cookies true = refl
    cookies false = refl

    sizes : (v : Option ℕ) → cond (is_some v) v (last_mss x.address s) ≡ option_or v (last_mss x.address s)
    sizes None = refl
    sizes (Some n) = refl

last_other : (b : List ℕ) (x : Store) (s : List Store) → member b (recent (x ∷ s)) ≡ true → same_bytes x.address b ≡ false → last b (x ∷ s) ≡ last b s
unfolding last_cookie last_mss
last_other b x s e q = rw (e, q)

others-recalled : (a : List ℕ) (s : List Store) (n : ℕ) (d : List (List ℕ)) → Once d
    → map (λ b. last b s) (take n (without a d)) ≡ take n (others a (map (λ b. last b s) (take (suc n) d)))
others-recalled a s n d h =
    rw (sym (once-drop a d h), sym (drop-take (λ b. same_bytes b a) n d))
    (sym (take-map (λ b. last b s) n _) ∙ ap (take n) (map-drop (λ b. last b s) (λ y. same_bytes y.address a) (take (suc n) d)))

unlike : (a b : List ℕ) (l : List (List ℕ)) → member a l ≡ false → member b l ≡ true → same_bytes a b ≡ false
unlike a b l n e = go (same_bytes a b) refl
  where
    go : (t : Bool) → same_bytes a b ≡ t → t ≡ false
    go true q = absurd (true≢false (sym e ∙ subst (λ z. member z l ≡ false) (same_bytes_eq a b q) n))
    go false q = refl

pub recalled-more : (x : Store) (s : List Store) → recalled (x ∷ s) ≡ learned x (recalled s)
unfolding member distinct
recalled-more x s =
    let a = x.address in
    let d = distinct (map (λ y. y.address) s) in
    let l : List (List ℕ) = take 31 (without a d) in
    let gone = absent_take a 31 (without a d) (absent_itself a d) in
    ap₂ ◌∷◌ (last-own x s ∙ ap (joined x) (sym (found-recalled a s)))
    (map_agree (λ b. last b (x ∷ s)) (λ b. last b s) l (λ b e. last_other b x s (rw e (or-true (same_bytes a b))) (unlike a b l gone e))
    ∙ others-recalled a s 31 d (once-distinct (map (λ y. y.address) s)))

-- no address stands twice
pub recent-once : (s : List Store) → Once (map (λ x. x.address) (recalled s))
recent-once s = subst Once (sym (same (recent s))) (once-take 32 _ (once-distinct (map (λ x. x.address) s)))
  where
    same : (l : List (List ℕ)) → map (λ x. x.address) (map (λ a. last a s) l) ≡ l
    same [] = refl
    same (a ∷ l) = ap (λ z. a ∷ z) (same l)
