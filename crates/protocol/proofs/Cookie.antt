-- When a cookie is right, as an equation with FIPS 197's definition: the listener and the journal share it. And its bytes one by one. Assumes nothing.
use Rattle.std.specs.Prelude.{Option, None, Some}
use Prim.Native.Nat.{ℕ}
use mathlib.Core.Path.{◌≡◌, refl, ap}
use mathlib.Core.Bool.{true, false, false≢true, or-true}
use mathlib.Core.List.{List}
use native.Mathlib.Omega.{arith}
use lib.ListN.{length, take}
use lib.Seq.{length-take-le}
use Rattle.cipher.specs.Cipher.{cipher}
use Rattle.cipher.proofs.Rounds.{block-length}
use Rattle.cipher.proofs.Bounds.{cipher-byte}
use Rattle.lists.specs.Bytes.{Bytes, same_bytes}
use Rattle.segment.specs.Header.{fields_of, kind_of, option_area}
use Rattle.segment.specs.Options.{read_options, options_of}
use Rattle.segment.specs.declared.options.Codings.{Codings}
use Rattle.segment.specs.declared.header.Kind.TheVariants.{Syn}
use Rattle.segment.proofs.Cookie.{syn-options}
use Rattle.lists.proofs.ByteLists.{bytes_take, bytes_of, each_byte}
use Rattle.lists.proofs.Bools.{or_false}
use Rattle.lists.proofs.SameBytes.{same_bytes_eq, same_bytes_refl}
use Rattle.protocol.specs.Cookie.{Carried, nothing, request, cookie, cookie_under, found, carried_by, right_under, right_before, right}
use Rattle.protocol.specs.declared.state.Keys.{Keys}

-- a cookie has 8 bytes
pub cookie_eight : (w b : List ℕ) → length (cookie_under w b) ≡ 8
unfolding cookie_under
cookie_eight w b = length-take-le 8 (cipher w b) (omega (arith, block-length w b))

-- a right cookie is the first 8 bytes of the block's encryption, and those are right
pub right_is : (w b c : List ℕ) → right_under w b (cookie c) ≡ true → c ≡ take 8 (cipher w b)
unfolding right_under cookie_under
right_is w b c e = same_bytes_eq c (take 8 (cipher w b)) e

pub is_right : (w b c : List ℕ) → c ≡ take 8 (cipher w b) → right_under w b (cookie c) ≡ true
unfolding right_under cookie_under
is_right w b c e = rw e (same_bytes_refl (take 8 (cipher w b)))

-- no other option has a right cookie
pub right-carried : (w b : List ℕ) (o : Carried) → right_under w b o ≡ true → o ≡ cookie (cookie_under w b)
unfolding right_under
right-carried w b nothing e = absurd (false≢true e)
right-carried w b request e = absurd (false≢true e)
right-carried w b (cookie c) e = ap (λ (x : List ℕ). cookie x) (same_bytes_eq c (cookie_under w b) e)

-- the cookie that is issued for an address is right, under the present key and, once there is another, under the previous one
pub issued-right : (w b : List ℕ) → right_under w b (cookie (cookie_under w b)) ≡ true
unfolding right_under
issued-right w b = same_bytes_refl (cookie_under w b)

pub right-now : (k : Keys) (b : List ℕ) (o : Carried) → right_under k.present b o ≡ true → right k b o ≡ true
unfolding right
right-now k b o e = rw e

pub right-before : (k : Keys) (b : List ℕ) (o : Carried) {w : List ℕ} → k.previous ≡ Some w → right_under w b o ≡ true → right k b o ≡ true
unfolding right
right-before k b o r e = rw (r, e) (or-true (right_under k.present b o))

-- a cookie is compared with the one under a key; no other option has one
pub cookie_compared : (w b c : List ℕ) → right_under w b (cookie c) ≡ same_bytes c (cookie_under w b)
unfolding right_under
cookie_compared w b c = refl

pub no_cookie : (w b : List ℕ) → (right_under w b nothing ≡ false) × (right_under w b request ≡ false)
unfolding right_under
no_cookie w b = (refl, refl)

-- where it is not the present key's, the previous key decides, if there is one
pub right-alone : (k : Keys) (b : List ℕ) (o : Carried) → right_under k.present b o ≡ false → k.previous ≡ None → right k b o ≡ false
unfolding right
right-alone k b o e r = rw (e, r)

pub right_else : (k : Keys) (b : List ℕ) (o : Carried) {w : List ℕ} → right_under k.present b o ≡ false → k.previous ≡ Some w → right k b o ≡ right_under w b o
unfolding right
right_else k b o e r = rw (e, r)

-- one that is not right is not the present key's, and one that is no key's is not right
pub wrong_now : (k : Keys) (b : List ℕ) (o : Carried) → right k b o ≡ false → right_under k.present b o ≡ false
unfolding right
wrong_now k b o e = (or_false (right_under k.present b o) _ e).0

pub never_right : (k : Keys) (b : List ℕ) (o : Carried) → ((w : List ℕ) → right_under w b o ≡ false) → right k b o ≡ false
unfolding right
never_right k b o n = rw (n k.present) (go k.previous)
  where
    go : (p : Option (List ℕ)) → right_before p b o ≡ false
    go None = refl
    go (Some w) = n w

-- the option of a segment, from the options that were found in it
pub carried-found : (g : Codings) (seg : List ℕ) → carried_by g seg ≡ found (options_of g seg).fast (option_area seg)
unfolding carried_by
carried-found g seg = refl

-- and of an opening, from those in its option area
pub carried-syn : (g : Codings) (seg : List ℕ) → kind_of (fields_of seg).flags ≡ Syn → carried_by g seg ≡ found (read_options g (option_area seg)).fast (option_area seg)
carried-syn g seg e = rw (syn-options g seg e) at (carried-found g seg)

-- a cookie is those 8 bytes
pub cookie_is : (w b : List ℕ) → take 8 (cipher w b) ≡ cookie_under w b
unfolding cookie_under
cookie_is w b = refl

-- it is made of bytes, if the round keys are
pub cookie-bytes : (w b : List ℕ) → Bytes w → Bytes (cookie_under w b)
unfolding cookie_under
cookie-bytes w b h = bytes_take 8 (cipher w b) (bytes_of (cipher w b) (cipher-byte w b (each_byte w h)))
