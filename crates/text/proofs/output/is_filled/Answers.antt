-- Each byte is tested.
use Rattle.std.proofs.Common.{eqb, rules, ◌∙◌}
use borrow.Author.Tests.{tests}
use Rattle.std.proofs.lemmas.Iterator.{YieldsList-from_slice}
use Rattle.std.proofs.lemmas.Iterator.Search.{all_from_yields_List}
use Rattle.text.proofs.AsStd.{all_every}
use Rattle.text.proofs.output.is_filled.Goals as goal

pub returns : goal.returns
returns c = all_from_yields_List (λ x. eqb x c.args.b) _ _ _ c.all.ensures.ran (YieldsList-from_slice c.args.bytes.now cc) (λ x b q k. search (rules, tests)) ∙ all_every (λ x. eqb x c.args.b) c.args.bytes.now
