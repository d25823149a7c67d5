-- The parts of the file that may still be taken: each turn takes one.
use Rattle.compare.proofs.setup.read_setup.Given as goal

abbrev pub decreases-loop-reader : goal.decreases-loop-reader
decreases-loop-reader g l = l.reader.left
