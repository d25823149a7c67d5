-- The first eight bytes of the encrypted block.
use Rattle.std.proofs.Common.{ℕ, List, take, ap, ◌∙◌}
use Rattle.protocol.proofs.Cookie.{cookie_is}
use Rattle.cookie.proofs.make_cookie.Goals as goal

pub returns : goal.returns
returns c = c.first_half.ensures ∙ (ap (λ (x : List ℕ). take 8 x) c.encrypt.ensures ∙ cookie_is _ _)
