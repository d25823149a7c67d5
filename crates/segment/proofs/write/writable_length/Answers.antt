-- One case for each test of `can_write`.
use Rattle.std.proofs.Common.{◌<◌, ◌≤◌, sym, ◌∙◌, refl, arith, le-leb}
use borrow.Author.Tests.{lt-leb}
use Rattle.segment.specs.Write.{length_for, can_write}
use Rattle.segment.proofs.Written.{untested, area_length}
use Rattle.segment.proofs.write.writable_length.Goals as goal

pub returns-then-not-is_one_family : goal.returns-then-not-is_one_family
unfolding can_write
returns-then-not-is_one_family c = rw (sym c.is_one_family.ensures ∙ c.if-not-is_one_family.true) refl

pub returns-in_err-m : goal.returns-in_err-m
unfolding can_write
returns-in_err-m c =
    c.from_residual.ensures
    ∙ rw (sym c.is_one_family.ensures ∙ c.if-not-is_one_family.false, untested _ _ c.in_err-m.ensures.value) refl

pub returns-then-m-payload : goal.returns-then-m-payload
unfolding can_write
returns-then-m-payload c =
    let a = c.args in
    let k = area_length a.f.mss a.f.fast a.f.coding a.cookie.now _ c.in_ok-m.ensures.value in
    let h : 1520 < length_for a.f a.cookie.now a.payload.now = omega arith in
    rw (sym c.is_one_family.ensures ∙ c.if-not-is_one_family.false, k.0, lt-leb _ _ h) refl

pub returns : goal.returns
unfolding can_write
returns c =
    let a = c.args in
    let k = area_length a.f.mss a.f.fast a.f.coding a.cookie.now _ c.in_ok-m.ensures.value in
    let h : length_for a.f a.cookie.now a.payload.now ≤ 1520 = omega (arith, c.in_ok-m.ensures.most) in
    c.then_some.ensures ∙ rw (sym c.is_one_family.ensures ∙ c.if-not-is_one_family.false, k.0, le-leb _ _ h, k.1) refl
