-- What is played on comes of the lines so far; each turn takes a part.
use Rattle.text.specs.Play.{Reaches}
use Rattle.text.proofs.play.play_lines.Given as goal

abbrev pub invariant-loop-reader : goal.invariant-loop-reader
invariant-loop-reader g l = Reaches g.P.Play.asked l.fn.start l.state

abbrev pub decreases-loop-reader : goal.decreases-loop-reader
decreases-loop-reader g l = l.reader.left
