-- The part at the place, or none.
use Rattle.std.proofs.Common.{rules, refl}
use borrow.Author.Tests.{tests}
use Rattle.std.proofs.lemmas.Iterator.Consumers.{nth_from_yields_List}
use Rattle.std.proofs.lemmas.Iterator.Splits.{YieldsList-from_slice_split}
use Rattle.text.specs.Word.{is_space}
use Rattle.text.proofs.Words.{part_or_none}
use Rattle.text.proofs.word.word_at.Goals as goal

pub returns : goal.returns
returns c =
    let e = nth_from_yields_List c.nth.result _ c.args.place c.nth.ensures.ran (YieldsList-from_slice_split _ is_space c.args.line.now c.split.ensures.rest c.split.ensures.done c.split.ensures.closure (λ x b q k. search (rules, tests))) in
    part_or_none c.args.line.now c.args.place c.nth.result _ c.unwrap_or.result e c.unwrap_or.ensures refl
