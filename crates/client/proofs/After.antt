-- What an answer brings to the cache, where a ban goes, and what an opening sends. Assumes nothing.
use Rattle.std.specs.Prelude.{Option}
use Prim.Native.Nat.{ℕ, ◌-◌, ◌<◌, ◌≤◌}
use mathlib.Core.Path.{◌≡◌, refl, sym, ◌∙◌}
use mathlib.Core.Bool.{Bool, true, false, cond, not, ◌||◌}
use mathlib.Core.List.{List}
use native.Mathlib.Omega.{arith}
use lib.Dec.{eqb}
use lib.ListN.{length}
use borrow.Author.Tests.{ne_eqb}
use Rattle.segment.specs.Header.{option_area}
use Rattle.segment.specs.Options.{is_cookie_length, cookie_bytes}
use Rattle.segment.specs.Remarks.{report_of}
use Rattle.segment.specs.Write.{option_allowed, option_length}
use Rattle.segment.specs.declared.options.Coding.TheVariants.{New}
use Rattle.segment.specs.declared.options.Codings.{Codings}
use Rattle.segment.specs.declared.options.FastOpenOption.{FastOpenOption}
use Rattle.segment.specs.declared.options.FastOpenOption.TheVariants.{Absent, Request, Cookie}
use Rattle.segment.specs.declared.options.Report.{Report}
use Rattle.lists.proofs.Bools.{chosen}
use Rattle.segment.proofs.Cookie.{AllInside, cookie-length, cookie_length_back, cookie-bytes, inside_segment}
use Rattle.segment.proofs.Exchange.{allowed_request, allowed_found}
use Rattle.endpoint.specs.declared.address.Family.{Family}
use Rattle.endpoint.specs.declared.address.Family.TheVariants.{V4, V6}
use Rattle.client.specs.Cache.{size_of, stored_cookie, cookie_length, mss_cap, mss_for, data_room}
use Rattle.client.specs.Step.{sent_with, options_in, cookie_in, mss_in, has_cookie}
use Rattle.client.specs.declared.cache.Cookie.{Cookie as EntryCookie}
use Rattle.client.specs.declared.cache.Entry.{Entry}
use Rattle.client.proofs.Stores.{cookie-sized}

-- The cookie

-- a length that is a cookie's is at most 16
length_most : (n : ℕ) → cond (is_cookie_length n) n 0 ≤ 16
length_most n = chosen (λ k. k ≤ 16) (is_cookie_length n) _ _ (λ q. (cookie-length n q).most) (λ _. omega arith)

-- and not 0
pub length_some : (n : ℕ) → is_cookie_length n ≡ true → eqb n 0 ≡ false
length_some n e = ne_eqb n 0 (λ z. omega (arith, (cookie-length n e).least))

-- an answer's cookie and MSS, from its options and their area
pub brought_is : (g : Codings) (seg : List ℕ) {r : Report} {area cookie : List ℕ} → r ≡ report_of g seg → area ≡ option_area seg → cookie ≡ cookie_bytes r.options.fast area
    → (cookie ≡ cookie_in g seg) × (r.options.mss ≡ mss_in g seg)
brought_is g seg er ea ec = (rw (ec, ea, er), rw er)

-- whether no cookie is brought, by the option that counts
pub cookie_told : (g : Codings) (seg : List ℕ) → not (has_cookie (options_in g seg).fast) ≡ eqb (length (cookie_in g seg)) 0
cookie_told g seg = go (options_in g seg).fast (inside_segment g seg)
  where
    go : (o : FastOpenOption) → AllInside (length (option_area seg)) o → not (has_cookie o) ≡ eqb (length (cookie_bytes o (option_area seg))) 0
    go Absent h = refl
    go (Request c) h = refl
    go (Cookie c at len) h = rw (cookie-bytes (option_area seg) c at len h) (sym (length_some len (cookie_length_back len h.size)))

-- the cookie that an answer brings, and the one that is stored
pub brought_most : (g : Codings) (seg : List ℕ) → length (cookie_in g seg) ≤ 16
brought_most g seg = omega (arith, cookie-sized g seg, length_most (length (cookie_in g seg)))

-- a cookie has at most 16 bytes to send
pub size_most : (c : EntryCookie) → size_of c ≤ 16
size_most c = length_most c.len

pub cookie-most : (e : Option Entry) → cookie_length e ≤ 16
cookie-most e = length_most (stored_cookie e).len

-- and may stand in a Fast Open option, whatever is stored
pub length_allowed : (fast : Bool) (e : Option Entry) → option_allowed fast (cookie_length e) ≡ true
length_allowed fast e =
    chosen (λ n. option_allowed fast n ≡ true) (is_cookie_length (stored_cookie e).len) _ _
    (λ q. allowed_found fast (stored_cookie e).len 0 (stored_cookie e).len (record { fits = omega arith; size = cookie-length (stored_cookie e).len q }))
    (λ _. allowed_request fast)

-- What is sent: no more data than was offered, and no more than 1,460 bytes

cap_most : (f : Family) → mss_cap f ≤ 1460
cap_most V4 = omega arith
cap_most V6 = omega arith

-- it is left by the options
pub sent-left : (f : Family) (banned : Bool) (e : Option Entry) (offered : ℕ) → sent_with f banned e offered ≤ mss_for f e - option_length (not banned) New (cookie_length e)
unfolding data_room
sent-left f true e offered = omega arith
sent-left f false e offered =
    chosen (λ n. n ≤ mss_for f e - option_length true New (cookie_length e)) (eqb (cookie_length e) 0) _ _ (λ _. omega arith) (λ _. omega arith)

pub sent-most : (f : Family) (banned : Bool) (e : Option Entry) (offered : ℕ) → (sent_with f banned e offered ≤ offered) × (sent_with f banned e offered ≤ 1460)
sent-most f banned e offered = (
  chosen (λ n. n ≤ offered) (banned || eqb (cookie_length e) 0) _ _ (λ _. omega arith) (λ _. omega arith),
  omega (arith, sent-left f banned e offered, cap_most f),
)

-- the data room is no more than the cap
pub room_most : (f : Family) (e : Option Entry) → data_room f e ≤ 1460
unfolding data_room
room_most f e = omega (arith, cap_most f)

-- what the options leave of the MSS, in code
module _ (f : Family) (e : Option Entry) {mss len options : ℕ} (em : mss ≡ mss_for f e) (el : len ≡ cookie_length e)
    (eo : options ≡ cond (option_allowed true len) (option_length true New len) 0) where
  options_are : options ≡ option_length true New (cookie_length e)
  options_are = eo ∙ rw (el, length_allowed true e)

  pub room-none : mss < options → 0 ≡ data_room f e
  unfolding data_room
  room-none h = omega (arith, em, options_are)

  pub room-left : mss - options ≡ data_room f e
  unfolding data_room
  room-left = rw (em, options_are)
