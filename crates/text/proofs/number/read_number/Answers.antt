-- No digit, a number too large, or one more digit.
use Rattle.std.proofs.Common.{ℕ, ◌≡◌, ◌+◌, ◌-◌, ◌*◌, ◌≤◌, Some, length, drop, get_or, arith, sym, ap, ◌∙◌}
use borrow.Author.Tests.{eqb-true}
use Rattle.text.specs.Number.{is_digit, value_from}
use Rattle.lists.proofs.Places.{passed_on, passed_not, passed_all}
use Rattle.text.proofs.Numbers.{number-empty, number_other, number_past, number_read, no_digit, a_digit, one_digit, no_more}
use Rattle.text.proofs.number.read_number.Goals as goal

pub returns-then-is_empty : goal.returns-then-is_empty
returns-then-is_empty c = number-empty c.args.word.now c.args.most (eqb-true _ _ (sym c.if-is_empty.ensures))

pub returns-in_err-d : goal.returns-in_err-d
returns-in_err-d c =
    let l = c.loop-b in
    let s = c.args.word.now in
    c.from_residual.ensures ∙ number_other s c.args.most (passed_not is_digit s l.b-index 0 c.loop-b-test.true (no_digit (get_or s l.b-index 0) c.in_err-d.ensures) l.invariant.1.1.0)

pub returns-in_err-checked_mul : goal.returns-in_err-checked_mul
returns-in_err-checked_mul c =
    let l = c.loop-b in
    let h = c.in_err-checked_mul.ensures in
    c.from_residual-in_err-checked_mul.ensures ∙ number_past c.args.word.now c.args.most l.value l.b-index c.loop-b-test.true l.invariant.1.1.1 (omega (arith, h))

pub returns-in_err-value : goal.returns-in_err-value
returns-in_err-value c =
    let l = c.loop-b in
    let d = a_digit (get_or c.args.word.now c.loop-b.b-index 0) c.in_ok-d.d c.in_ok-d.ensures in
    let h = c.in_err-value.ensures in
    let m = c.in_ok-checked_mul.ensures in
    c.from_residual-in_err-value.ensures ∙ number_past c.args.word.now c.args.most l.value l.b-index c.loop-b-test.true l.invariant.1.1.1 (omega (arith, h, m, d.1))

pub returns-then-value-most : goal.returns-then-value-most
returns-then-value-most c =
    let l = c.loop-b in
    let d = a_digit (get_or c.args.word.now c.loop-b.b-index 0) c.in_ok-d.d c.in_ok-d.ensures in
    let h = c.in_ok-value.ensures in
    let m = c.in_ok-checked_mul.ensures in
    number_past c.args.word.now c.args.most l.value l.b-index c.loop-b-test.true l.invariant.1.1.1 (omega (arith, h, m, d.1))

pub loop-b-preserved : goal.loop-b-preserved
loop-b-preserved c =
    let l = c.loop-b in
    let s = c.args.word.now in
    let d = a_digit (get_or c.args.word.now c.loop-b.b-index 0) c.in_ok-d.d c.in_ok-d.ensures in
    let h = c.in_ok-value.ensures in
    let m = c.in_ok-checked_mul.ensures in
    let v : c.in_ok-value.value ≡ l.value * 10 + (get_or s l.b-index 0 - 48) = omega (arith, h, m, d.1) in (
      l.invariant.0,
      (
        omega arith,
        (
          passed_on is_digit s l.b-index 0 c.loop-b-test.true d.0 l.invariant.1.1.0,
          ap (λ (n : ℕ). value_from n (drop (l.b-index + 1) s)) v ∙ sym (one_digit l.value s l.b-index c.loop-b-test.true) ∙ l.invariant.1.1.1,
        ),
      ),
    )

pub returns : goal.returns
returns c =
    let l = c.loop-b in
    let s = c.args.word.now in
    let h : length s ≤ l.b-index = omega arith in
    let v : l.value ≡ value_from 0 s = sym (no_more l.value s l.b-index h) ∙ l.invariant.1.1.1 in
    ap Some v ∙ number_read s c.args.most (omega arith) (passed_all is_digit s l.b-index h l.invariant.1.1.0) (omega arith)
