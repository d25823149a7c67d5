-- Without a Fast Open option, and with one.
use Rattle.std.proofs.Common.{◌≤◌, sym, ap, ◌∙◌, arith}
use Rattle.std.specs.Prelude.{Some}
use Rattle.segment.proofs.Writes.{prefix_size, length_fast, length_plain}
use Rattle.segment.proofs.Written.{allowed_short}
use Rattle.segment.proofs.write.allowed_length.Goals as goal

module _ (c : goal.After-prefix_length) where
  short : c.args.n ≤ 16
  short = allowed_short c.args.fast c.args.n (sym c.is_option_allowed.ensures ∙ c.if-not-is_option_allowed.false) c.if-fast.true

  prefix : c.prefix_length.result ≤ 4
  prefix = omega (arith, c.prefix_length.ensures, prefix_size c.args.coding)

pub overflow_add-n : goal.overflow_add-n
overflow_add-n c = omega (arith, short c, prefix c)

pub overflow_mul-result : goal.overflow_mul-result
overflow_mul-result c = omega (arith, short c.before, prefix c.before, c.div_ceil.ensures)

pub overflow_add-result : goal.overflow_add-result
overflow_add-result c = omega (arith, short c.before, prefix c.before, c.div_ceil.ensures)

pub returns-then-fast-clause-most : goal.returns-then-fast-clause-most
returns-then-fast-clause-most c = omega (arith, short c.before, prefix c.before, c.div_ceil.ensures)

pub returns-then-fast-clause-value : goal.returns-then-fast-clause-value
returns-then-fast-clause-value c =
    rw (sym c.is_option_allowed.ensures ∙ c.if-not-is_option_allowed.false, c.if-fast.true)
    (ap Some (omega (arith, c.div_ceil.ensures, c.prefix_length.ensures, length_fast c.args.coding c.args.n)))

pub returns-else-fast-clause-value : goal.returns-else-fast-clause-value
returns-else-fast-clause-value c =
    rw (sym c.is_option_allowed.ensures ∙ c.if-not-is_option_allowed.false, c.if-fast.false) (ap Some (sym (length_plain c.args.coding c.args.n)))
