-- One more digit, and the copy to the start.
use Rattle.std.proofs.Common.{◌-◌, ◌+◌, ◌%◌, length, arith, refl, ap, rules}
use Rattle.std.proofs.Math.Seq.{drop-append_seam}
use Rattle.text.proofs.Digits.{split_room, split_on, split-end, decimal-most_digits, put_digits}
use Rattle.text.proofs.decimal.decimal.Goals as goal

pub overflow_sub-i : goal.overflow_sub-i
overflow_sub-i c = split_room _ _ _ _ c.loop-left.invariant

pub loop-left-preserved : goal.loop-left-preserved
loop-left-preserved c = let r = split_room _ _ _ _ c.loop-left.invariant in split_on _ _ _ _ c.loop-left.invariant (c.loop-left.i - 1) (omega arith) (48 + c.loop-left.left % 10) (omega arith) (omega arith) refl

pub overflow_sub-i-2 : goal.overflow_sub-i-2
overflow_sub-i-2 c = split_room _ _ _ _ c.loop-left.invariant

pub returns : goal.returns
returns c =
    let h = split-end _ _ _ _ c.loop-left.invariant (c.loop-left.i - 1) (let r = split_room _ _ _ _ c.loop-left.invariant in omega arith) (48 + c.loop-left.left) (omega arith) refl in
    let w = c.copy.ensures.whole (omega (arith, ap length h, decimal-most_digits c.args.n)) in
    let p = put_digits c.args.n _ _ _ _ h w.0 w.1 in
    record { value = p.0; digits_after = p.1; rest = rw w.1 (rw w.0 (search (rules, drop-append_seam))) }
