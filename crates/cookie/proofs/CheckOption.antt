-- What a Fast Open option comes to, from what the functions on the way ensure. Assumes nothing.
use Rattle.std.specs.Prelude.{None, Some}
use Rattle.std.specs.Bool.{then_some}
use Prim.Native.Nat.{ℕ}
use mathlib.Core.Path.{◌≡◌, ap, sym, ◌∙◌}
use mathlib.Core.Bool.{Bool, true, false, cond, not}
use mathlib.Core.List.{List}
use lib.ListN.{take}
use Rattle.lists.specs.Bytes.{same_bytes}
use Rattle.cipher.specs.Cipher.{cipher}
use Rattle.protocol.specs.Cookie.{nothing, request, cookie, cookie_under, right_under}
use Rattle.cookie.specs.Check.{option_check}
use Rattle.protocol.proofs.Cookie.{cookie_is, cookie_compared, no_cookie, right-now, right-alone, right_else, never_right}
use Rattle.protocol.specs.declared.state.Keys.{Keys}
use Rattle.cookie.specs.declared.OptionCheck.{OptionCheck}

-- A cookie that was given: it is the present key's, or there is no other key, or it is compared with the previous key's too.
module _ (k : Keys) (b given : List ℕ) {f : List ℕ} (e : f ≡ cookie_under k.present b) where
  compared : {s : Bool} → same_bytes given f ≡ s → right_under k.present b (cookie given) ≡ s
  compared s = cookie_compared k.present b given ∙ (rw e at s)

  current : same_bytes given f ≡ true → ◌≡◌ {A = OptionCheck} (record { right = true; fresh = None }) (option_check k b (cookie given))
  current s = rw (right-now k b (cookie given) (compared s), compared s)

  pub by_one_key : k.previous ≡ None → {same : Bool} → same ≡ same_bytes given f
      → ◌≡◌ {A = OptionCheck} (record { right = same; fresh = then_some (not same) f }) (option_check k b (cookie given))
  by_one_key r {same = true} m = current (sym m)
  by_one_key r {same = false} m = rw (e, right-alone k b (cookie given) (compared (sym m)) r, compared (sym m))

  pub by_present : {same : Bool} → same ≡ true → same ≡ same_bytes given f → ◌≡◌ {A = OptionCheck} (record { right = same; fresh = then_some (not same) f }) (option_check k b (cookie given))
  by_present s m = rw s (current (sym m ∙ s))

  pub by_previous : {same : Bool} → same ≡ false → same ≡ same_bytes given f → {v : List ℕ} → k.previous ≡ Some v → {g : List ℕ} {right : Bool} → g ≡ cookie_under v b → right ≡ same_bytes given g
      → ◌≡◌ {A = OptionCheck} (record { right = right; fresh = then_some (not same) f }) (option_check k b (cookie given))
  by_previous s n {v} r p m = rw (s, e, right_else k b (cookie given) (compared (sym n ∙ s)) r, compared (sym n ∙ s), cookie_compared v b given, m, p)

-- A block that was encrypted until a half was given: where the first key's cookie is another, the second block has the second key's.
pub went_on : (given w v b : List ℕ) {two f : List ℕ} → two ≡ cond (same_bytes given (take 8 (cipher w b))) (cipher w b) (cipher v b) → f ≡ cookie_under w b → same_bytes given f ≡ false
    → take 8 two ≡ cookie_under v b
went_on given w v b e n s = ap (λ (x : List ℕ). take 8 x) (rw (rw (n, sym (cookie_is w b)) at s) at e) ∙ cookie_is v b

-- Without a cookie none is right, under either key.
module _ (k : Keys) (b : List ℕ) where
  pub option_none : ◌≡◌ {A = OptionCheck} (record { right = false; fresh = None }) (option_check k b nothing)
  option_none = rw (never_right k b nothing (λ w. (no_cookie w b).0))

  pub option_request : {f : List ℕ} → f ≡ cookie_under k.present b → ◌≡◌ {A = OptionCheck} (record { right = false; fresh = Some f }) (option_check k b request)
  option_request e = rw (e, never_right k b request (λ w. (no_cookie w b).1), (no_cookie k.present b).1)
