-- By the key that the cookie is under.
use Rattle.std.proofs.Common.{◌≡◌, false, take, ap, sym, ◌∙◌}
use Rattle.lists.specs.Bytes.{same_bytes}
use Rattle.cipher.specs.declared.Encrypted.{Encrypted}
use Rattle.protocol.specs.Cookie.{cookie_under}
use Rattle.protocol.proofs.Cookie.{cookie_is}
use Rattle.cookie.proofs.CheckOption.{by_one_key, by_present, by_previous, went_on}
use Rattle.cookie.proofs.check_cookie.Goals.{then-current, else-current}
use Rattle.cookie.proofs.check_cookie.Goals as goal

pub returns-in_default : goal.returns-in_default
returns-in_default c =
    let a = c.args in
    rw c.then_some.ensures (by_one_key a.keys a.b a.given.now c.make_cookie-only.ensures c.in_default.is c.is_half-right.ensures)

pub returns : goal.returns
returns c =
    let a = c.args in
    let new : c.first_half-new.result ≡ cookie_under a.keys.present a.b =
    c.first_half-new.ensures ∙ (ap (λ (x : Encrypted). take 8 x.first) c.encrypt_until-made.ensures ∙ cookie_is _ _) in
    rw c.then_some-2.ensures
    (elim c.if-current.branch [
      | then-current w ↦ rw w.result-is (by_present a.keys a.b a.given.now new w.if-current.true c.is_half-current.ensures)
      | else-current w ↦
          let other : same_bytes a.given.now c.first_half-new.result ≡ false = sym c.is_half-current.ensures ∙ w.if-current.false in
          let old : take 8 c.encrypt_until-made.result.second ≡ cookie_under c.in-Some.previous a.b =
          went_on a.given.now _ _ _ (ap (λ (x : Encrypted). x.second) c.encrypt_until-made.ensures) new other in
          rw w.result-is
          (by_previous a.keys a.b a.given.now new w.if-current.false c.is_half-current.ensures c.in-Some.is (w.first_half.ensures ∙ old) w.is_half.ensures)
    ])
