-- What stands before the place are digits, and the number goes on from what they say.
use Rattle.std.proofs.Common.{◌≡◌, ◌<◌, ◌≤◌, length, drop}
use Rattle.text.specs.Number.{is_digit, value_from}
use Rattle.lists.proofs.Places.{Passed}
use Rattle.text.proofs.number.read_number.Given as goal

abbrev pub invariant-loop-b : goal.invariant-loop-b
invariant-loop-b l = (0 < length l.word) × ((l.value ≤ l.most) × (Passed is_digit l.word l.b-index × (value_from l.value (drop l.b-index l.word) ≡ value_from 0 l.word)))
