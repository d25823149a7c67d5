-- What stands at the place of the address, if there is one.
use Rattle.std.proofs.Common.{ℕ, ◌∙◌, ap, None, get_or}
use Rattle.client.specs.Cache.{is_for}
use Rattle.client.proofs.Remembered.{found_at, found_nowhere}
use Rattle.client.proofs.cache.entry_for.Goals as goal

pub returns-in_err-i : goal.returns-in_err-i
returns-in_err-i c = c.from_residual.ensures ∙ found_nowhere (is_for c.args.b) c.args.cache.now None c.in_err-i.ensures

pub returns : goal.returns
returns c = ap (λ (k : ℕ). get_or c.args.cache.now k None) (found_at (is_for c.args.b) c.args.cache.now c.in_ok-i.ensures)
