-- Up to the end of the input, or up to a line feed.
use Rattle.text.proofs.Lines.{cut_off, ended}
use Rattle.text.proofs.line.gather.Goals as goal

pub returns-in-Some-clause-value : goal.returns-in-Some-clause-value
returns-in-Some-clause-value c = ended _ c.args.from c.args.input.now _ _ _ c.find-feed.result c.rest-left.ensures c.unwrap_or-size.ensures c.find-feed.ensures.first c.length_with-all.ensures c.in-Some.field-0 c.in-Some.is c.in-Some.ensures.within

pub returns-in-None-clause-value : goal.returns-in-None-clause-value
returns-in-None-clause-value c = cut_off _ c.args.from c.args.input.now _ _ _ c.find-feed.result c.rest-left.ensures c.unwrap_or-size.ensures c.find-feed.ensures.first c.length_with-all.ensures c.in-None.is
