-- A number that was read is at most the most that it may be.
use Rattle.std.proofs.Common.{sym, ◌∙◌}
use Rattle.text.proofs.Values.{value_most, number_made, none_made}
use Rattle.text.proofs.number.read_unsigned.Goals as goal

pub returns-in_err-n : goal.returns-in_err-n
returns-in_err-n g c = c.from_residual.ensures ∙ none_made g.T.Unsigned.made c.args.word.now _ (rw c.MOST.ensures at c.in_err-n.ensures)

pub returns : goal.returns
returns g c =
    let read = rw c.MOST.ensures at c.in_ok-n.ensures in
    rw (c.made.ensures (value_most c.args.word.now _ c.in_ok-n.n (sym read))) (number_made g.T.Unsigned.made c.args.word.now _ c.in_ok-n.n read)
