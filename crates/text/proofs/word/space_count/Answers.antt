-- Each byte is tested.
use Rattle.std.proofs.Common.{rules, ◌∙◌}
use borrow.Author.Tests.{tests}
use Rattle.std.proofs.lemmas.List.Sums.{length-filter}
use Rattle.std.proofs.lemmas.Iterator.{YieldsList-from_slice}
use Rattle.std.proofs.lemmas.Iterator.Consumers.{count_from_yields_List, YieldsList-from_filter, YieldsList-at}
use Rattle.text.specs.Word.{is_space}
use Rattle.text.proofs.AsStd.{count_tally}
use Rattle.text.proofs.word.space_count.Goals as goal

pub returns : goal.returns
returns c =
    count_from_yields_List c.filter.result c.count.result c.count.ensures.ran (YieldsList-from_filter _ is_space (YieldsList-at c.filter.ensures.source (YieldsList-from_slice c.args.line.now cc)) c.filter.ensures.closure (λ x r q k. search (rules, tests)))
    ∙ length-filter is_space c.args.line.now ∙ count_tally is_space c.args.line.now
