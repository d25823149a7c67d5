-- The place, or the length.
use Rattle.std.proofs.Common.{◌∙◌, eqb, ap, length, ℕ, rules}
use borrow.Author.Tests.{tests}
use Rattle.std.specs.Prelude.{unwrap_or, Option}
use Rattle.std.proofs.lemmas.Iterator.{YieldsList-from_slice}
use Rattle.std.proofs.lemmas.Iterator.Search.{position_from_yields_List}
use Rattle.text.proofs.AsStd.{first_or_length}
use Rattle.text.proofs.scan.find.Goals as goal

pub returns-clause-first : goal.returns-clause-first
returns-clause-first c =
    ap (λ (o : Option ℕ). unwrap_or o (length c.args.bytes.now)) (position_from_yields_List (λ x. eqb x c.args.b) _ _ c.position.result c.position.ensures.ran (YieldsList-from_slice c.args.bytes.now cc) (λ x b q k. search (rules, tests)))
    ∙ first_or_length (λ x. eqb x c.args.b) c.args.bytes.now
