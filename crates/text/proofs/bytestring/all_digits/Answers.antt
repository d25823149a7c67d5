-- Each byte is tested.
use Rattle.std.proofs.Common.{rules, ◌∙◌}
use borrow.Author.Tests.{tests}
use Rattle.std.proofs.lemmas.Iterator.{YieldsList-from_slice}
use Rattle.std.proofs.lemmas.Iterator.Search.{all_from_yields_List}
use Rattle.text.specs.ByteString.{is_hex_digit}
use Rattle.text.proofs.AsStd.{all_every, is_some_if}
use Rattle.text.proofs.bytestring.all_digits.Goals as goal

pub returns : goal.returns
returns c = all_from_yields_List is_hex_digit _ _ _ c.all.ensures.ran (YieldsList-from_slice c.args.word.now cc) (λ x b q k. search (rules, tests, is_some_if)) ∙ all_every is_hex_digit c.args.word.now
