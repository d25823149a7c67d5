-- No lines yet, or one more.
use Rattle.std.proofs.Common.{rules}
use Rattle.text.specs.Play.{by_none}
use Rattle.text.proofs.Plays.{line_more}
use Rattle.text.proofs.play.play_lines.Goals as goal

pub loop-reader-init : goal.loop-reader-init
loop-reader-init g c = by_none c.args.start

pub loop-reader-preserved-then-reader : goal.loop-reader-preserved-then-reader
loop-reader-preserved-then-reader g c = search (rules, line_more)
