-- The table's rule is one test over its ten entries, which antt computes.
use Rattle.std.proofs.Common.{◌-◌, ◌<◌, rules, arith}
use Rattle.cipher.specs.Field.{xtime}
use Rattle.cipher.specs.KeyExpansion.{power_of_x}
use Rattle.cipher.proofs.Table.{rcon_tested}
use Rattle.cipher.proofs.round_constant.Goals as goal

pub returns : goal.returns
unfolding power_of_x xtime
returns c =
    let h : c.args.i - 1 < 10 = omega arith in
    search (rules, rcon_tested)
