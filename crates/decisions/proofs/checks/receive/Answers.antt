-- The checks before, then shape, checksum and port.
use Rattle.std.proofs.Common.{◌≡◌, None, Some, Err, arith, sym, ◌∙◌}
use Rattle.segment.specs.Header.{shape_of}
use Rattle.segment.specs.declared.refusal.Refusal.TheVariants.{Format}
use Rattle.endpoint.specs.Checks.{is_untimely}
use Rattle.decisions.proofs.Receive.{dropped_shape, dropped_sum, dropped_port, read}
use Rattle.decisions.proofs.checks.receive.Goals as goal

pub returns-in_err-h : goal.returns-in_err-h
returns-in_err-h c =
    let a = c.args in
    let none : shape_of a.seg.now ≡ None = grind arith in
    let out : c.from_residual-in_err-h.result ≡ Err Format = grind arith in
    out ∙ dropped_shape a.local (is_untimely a.clock a.time) a.src.now a.seg.now a.out_len (sym c.in_ok-check_output.ensures) none

pub returns-then-not-is_checksum_right : goal.returns-then-not-is_checksum_right
returns-then-not-is_checksum_right c =
    let a = c.args in
    let shape : shape_of a.seg.now ≡ Some c.in_ok-h.h = grind arith in
    dropped_sum a.local (is_untimely a.clock a.time) a.src.now a.seg.now a.out_len (sym c.in_ok-check_output.ensures) shape c.size_of-n.ensures
    c.is_checksum_right.ensures c.if-not-is_checksum_right.true

pub returns-then-h-local : goal.returns-then-h-local
returns-then-h-local c =
    let a = c.args in
    let shape : shape_of a.seg.now ≡ Some c.in_ok-h.h = grind arith in
    dropped_port a.local (is_untimely a.clock a.time) a.src.now a.seg.now a.out_len (sym c.in_ok-check_output.ensures) shape c.size_of-n.ensures
    c.is_checksum_right.ensures c.if-not-is_checksum_right.false c.if-h-local.true

pub returns : goal.returns
returns c =
    let a = c.args in
    let shape : shape_of a.seg.now ≡ Some c.in_ok-h.h = grind arith in
    read a.local (is_untimely a.clock a.time) a.src.now a.seg.now a.out_len (sym c.in_ok-check_output.ensures) shape c.size_of-n.ensures
    c.is_checksum_right.ensures c.if-not-is_checksum_right.false c.if-h-local.false
