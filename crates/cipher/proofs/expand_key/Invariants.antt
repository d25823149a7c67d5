-- The words before word i are those of the schedule.
use Rattle.std.proofs.Common.{◌≡◌, ◌-◌, length, take}
use Rattle.cipher.specs.KeyExpansion.{schedule}
use Rattle.cipher.proofs.Schedule.{AllWords, flat}
use Rattle.cipher.proofs.expand_key.Given as goal

abbrev pub invariant-loop-i : goal.invariant-loop-i
invariant-loop-i l = (length l.w ≡ 44) × AllWords l.w × (flat (take l.i l.w) ≡ schedule l.fn.key (l.i - 4))
