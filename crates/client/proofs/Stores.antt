-- The cache as a list of stores: its entries come first, and one more store makes of both the same. Assumes nothing.
use Rattle.std.specs.Prelude.{None, Some, Option}
use Rattle.std.specs.Option.{option_or}
use Prim.Native.Nat.{ℕ, zero, suc}
use mathlib.Core.Path.{◌≡◌, refl, sym, ap, ap₂, ◌∙◌, subst}
use mathlib.Core.Bool.{Bool, true, false, cond}
use mathlib.Core.List.{List, [], ◌∷◌}
use lib.Dec.{eqb}
use lib.ListN.{length, take, get_or, replicate}
use lib.Seq.{take-nil}
use Rattle.segment.specs.Header.{option_area}
use Rattle.segment.specs.Options.{is_cookie_length, options_of, cookie_bytes}
use Rattle.segment.specs.declared.options.Codings.{Codings}
use Rattle.segment.specs.declared.options.FastOpenOption.{FastOpenOption}
use Rattle.segment.specs.declared.options.FastOpenOption.TheVariants.{Absent, Request, Cookie}
use Rattle.lists.proofs.Bools.{chosen}
use Rattle.segment.proofs.Cookie.{AllInside, cookie_length_back, cookie-bytes, inside_segment}
use Rattle.lists.specs.Bytes.{same_bytes}
use Rattle.lists.specs.Lists.{first_index, drop_first}
use Rattle.endpoint.specs.Address.{size, block}
use Rattle.endpoint.specs.declared.address.Family.{Family}
use Rattle.endpoint.proofs.Names.{short, same_block}
use Rattle.endpoint.proofs.Blocks.{copied_block}
use Rattle.lists.proofs.Sums.{All}
use Rattle.client.specs.Cache.{stored_cookie, stored_mss, is_for, entry_for, cookie_of, learned_from, remembered}
use Rattle.client.specs.Step.{cookie_in}
use Rattle.client.specs.History.{Store, entry_as, stored_in}
use Rattle.client.specs.declared.cache.Cookie.{Cookie as EntryCookie}
use Rattle.client.specs.declared.cache.Entry.{Entry}
use Rattle.client.proofs.Recalled.{found_for, joined, others, learned}

-- a cookie that is empty or has a cookie's length
abbrev sized : List ℕ → Type 0
sized c = cond (is_cookie_length (length c)) (length c) 0 ≡ length c

-- a store with an address of the family and such a cookie
pub record Kept (f : Family) (x : Store) : Type 0 where
  pub address : length x.address ≡ size f
  pub cookie : sized x.cookie

-- the cookie that an answer brings is one
empty-sized : sized []
empty-sized = go (is_cookie_length 0)
  where
    go : (b : Bool) → cond {A = ℕ} b 0 0 ≡ 0
    go true = refl
    go false = refl

pub cookie-sized : (g : Codings) (seg : List ℕ) → sized (cookie_in g seg)
cookie-sized g seg = go (options_of g seg).fast (inside_segment g seg)
  where
    go : (o : FastOpenOption) → AllInside (length (option_area seg)) o → sized (cookie_bytes o (option_area seg))
    go Absent h = empty-sized
    go (Request c) h = empty-sized
    go (Cookie c at len) h = rw (cookie-bytes (option_area seg) c at len h, cookie_length_back len h.size)

-- and it comes out of its block whole
cookie_out : (c : List ℕ) → sized c → take (cond (is_cookie_length (length c)) (length c) 0) (block c) ≡ c
cookie_out c h = rw h (short (length c) c refl)

-- Entries

-- a store as an entry
abbrev cookie_kept : List ℕ → EntryCookie
cookie_kept c = record { bytes = block c; len = length c }

abbrev entry_of : Store → Entry
entry_of x = record { addr = block x.address; cookie = cookie_kept x.cookie; mss = x.mss }

-- the stores as entries, and then none
abbrev pub Filled : List Store → List (Option Entry) → Type 0
Filled [] [] = Unit {0}
Filled [] (e ∷ es) = (e ≡ None) × Filled [] es
Filled (y ∷ ys) [] = ⊥
Filled (y ∷ ys) (e ∷ es) = (e ≡ Some (entry_of y)) × Filled ys es

-- what is stored for an address, by its store
abbrev pub Shows : Store → Option Entry → Type 0
Shows y e = (stored_cookie e ≡ cookie_kept y.cookie) × (stored_mss e ≡ y.mss)

pub blank_filled : (n : ℕ) → Filled [] (replicate n None)
blank_filled zero = tt
blank_filled (suc n) = (refl, blank_filled n)

filled_take : (n : ℕ) (ys : List Store) (es : List (Option Entry)) → Filled ys es → Filled (take n ys) (take n es)
filled_take zero ys es h = tt
filled_take (suc n) [] [] h = tt
filled_take (suc n) [] (e ∷ es) h = (h.0, subst (λ z. Filled z (take n es)) (take-nil n) (filled_take n [] es h.1))
filled_take (suc n) (y ∷ ys) [] h = absurd h
filled_take (suc n) (y ∷ ys) (e ∷ es) h = (h.0, filled_take n ys es h.1)

-- rules that hold of every element hold of a part
module _ {A : Type 0} (Q : A → Type 0) where
  all_take : (n : ℕ) (l : List A) → All Q l → All Q (take n l)
  all_take zero l k = tt
  all_take (suc n) [] k = tt
  all_take (suc n) (x ∷ l) k = (k.0, all_take n l k.1)

  all_drop : (p : A → Bool) (l : List A) → All Q l → All Q (drop_first p l)
  all_drop p [] k = tt
  all_drop p (x ∷ l) k = chosen (All Q) (p x) _ _ (λ _. k.1) (λ _. (k.0, all_drop p l k.1))

module _ (f : Family) where
  entry_as_lem : (y : Store) → Kept f y → entry_as f (entry_of y) ≡ y
  entry_as_lem y k = λ i. record { address = short (size f) y.address k.address i; cookie = cookie_out y.cookie k.cookie i; mss = y.mss }

  pub filled_stored : (ys : List Store) (es : List (Option Entry)) → All (Kept f) ys → Filled ys es → stored_in f es ≡ ys
  unfolding stored_in
  filled_stored [] [] k h = refl
  filled_stored [] (e ∷ es) k h = rw h.0 (filled_stored [] es k h.1)
  filled_stored (y ∷ ys) [] k h = absurd h
  filled_stored (y ∷ ys) (e ∷ es) k h = rw h.0 (ap₂ ◌∷◌ (entry_as_lem y k.0) (filled_stored ys es k.1 h.1))

  -- One address

  module _ (a : List ℕ) (l : length a ≡ size f) where
    is_for_lem : (y : Store) (e : Option Entry) → Kept f y → e ≡ Some (entry_of y) → is_for (block a) e ≡ same_bytes y.address a
    unfolding is_for
    is_for_lem y e k h = rw h (same_block y.address a (k.address ∙ sym l))

    is_unused : (e : Option Entry) → e ≡ None → is_for (block a) e ≡ false
    unfolding is_for
    is_unused e h = rw h

    filled_drop : (ys : List Store) (es : List (Option Entry)) → All (Kept f) ys → Filled ys es
        → Filled (others a ys) (drop_first (is_for (block a)) es)
    filled_drop [] [] k h = tt
    filled_drop [] (e ∷ es) k h = rw (is_unused e h.0) (h.0, filled_drop [] es k h.1)
    filled_drop (y ∷ ys) [] k h = absurd h
    filled_drop (y ∷ ys) (e ∷ es) k h = rw (is_for_lem y e k.0 h.0) (go (same_bytes y.address a) (filled_drop ys es k.1 h.1))
      where
        go : (b : Bool) → Filled (others a ys) (drop_first (is_for (block a)) es)
            → Filled (cond b ys (y ∷ others a ys)) (cond b es (e ∷ drop_first (is_for (block a)) es))
        go true r = h.1
        go false r = (h.0, r)

    pub entry_found : (ys : List Store) (es : List (Option Entry)) → All (Kept f) ys → Filled ys es → Shows (found_for a ys) (entry_for (block a) es)
    entry_found [] [] k h = (λ i. record { bytes = copied_block [] refl i; len = 0 }, refl)
    entry_found [] (e ∷ es) k h = rw (is_unused e h.0) (entry_found [] es k h.1)
    entry_found (y ∷ ys) [] k h = absurd h
    entry_found (y ∷ ys) (e ∷ es) k h = rw (is_for_lem y e k.0 h.0) (go (same_bytes y.address a) (entry_found ys es k.1 h.1))
      where
        go : (b : Bool) → Shows (found_for a ys) (entry_for (block a) es)
            → Shows (cond b y (found_for a ys)) (get_or (e ∷ es) (cond b 0 (suc (first_index (is_for (block a)) es))) None)
        go true r = (ap stored_cookie h.0, ap stored_mss h.0)
        go false r = r

    found-sized : (ys : List Store) → All (Kept f) ys → sized (found_for a ys).cookie
    found-sized [] k = empty-sized
    found-sized (y ∷ ys) k = chosen (λ (z : Store). sized z.cookie) (same_bytes y.address a) _ _ (λ _. k.0.cookie) (λ _. found-sized ys k.1)

    pub cookie-found : (ys : List Store) (es : List (Option Entry)) → All (Kept f) ys → Filled ys es → cookie_of (entry_for (block a) es) ≡ (found_for a ys).cookie
    cookie-found ys es k h =
        let shown = entry_found ys es k h in
        rw shown.0 (cookie_out (found_for a ys).cookie (found-sized ys k))

  -- One more store

  module _ (x : Store) (kept : Kept f x) where
    -- its entry, over an old one
    abbrev over : Option Entry → Entry
    over old = learned_from old (block x.address) x.cookie x.mss

    over_shown : (y : Store) (old : Option Entry) → Shows y old → over old ≡ entry_of (joined x y)
    over_shown y old h = rw (h.0, h.1) (go (eqb (length x.cookie) 0))
      where
        go : (b : Bool)
            → record { addr = block x.address; cookie = cond b (cookie_kept y.cookie) (cookie_kept x.cookie); mss = option_or x.mss y.mss }
            ≡ entry_of (record { address = x.address; cookie = cond b y.cookie x.cookie; mss = option_or x.mss y.mss })
        go true = refl
        go false = refl

    module _ (ys : List Store) (es : List (Option Entry)) (k : All (Kept f) ys) (h : Filled ys es) where
      pub filled_more : Filled (learned x ys) (remembered (over (entry_for (block x.address) es)) es)
      filled_more =
          let first = over_shown (found_for x.address ys) (entry_for (block x.address) es) (entry_found x.address kept.address ys es k h) in
          let rest = filled_drop x.address kept.address ys es k h in
          (ap Some first, filled_take 31 (others x.address ys) (drop_first (is_for (block x.address)) es) rest)

      pub kept_more : All (Kept f) (learned x ys)
      kept_more =
          let cookie = chosen sized (eqb (length x.cookie) 0) _ _ (λ _. found-sized x.address kept.address ys k) (λ _. kept.cookie) in
          let rest = all_drop (Kept f) (λ y. same_bytes y.address x.address) ys k in
          (record { address = kept.address; cookie = cookie }, all_take (Kept f) 31 (others x.address ys) rest)
