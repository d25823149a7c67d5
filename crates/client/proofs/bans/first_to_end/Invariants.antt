-- What is known of the places before i.
use Rattle.client.proofs.EndsFirst.{Least}
use Rattle.client.proofs.bans.first_to_end.Given as goal

abbrev pub invariant-loop-i : goal.invariant-loop-i
invariant-loop-i l = Least l.bans l.i l.first
