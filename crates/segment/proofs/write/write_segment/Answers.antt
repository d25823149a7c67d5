-- Nothing where it cannot be written, else options and payload, then the header.
use Rattle.std.proofs.Common.{arith}
use Rattle.segment.proofs.Written.{untested, allowed, none_written, all_written}
use Rattle.segment.proofs.write.write_segment.Goals as goal

pub returns-in_default : goal.returns-in_default
returns-in_default c =
    let a = c.args in
    let e = none_written a.src.now a.dst.now a.f a.cookie.now a.payload.now a.out.now (untested _ _ c.in_default.ensures) in
    record { value = e.0; out_after = e.1 }

pub put_body-m-requires : goal.put_body-m-requires
put_body-m-requires c =
    let g = allowed _ _ c.args.f _ _ _ _ c.in-Some.ensures in
    (omega (arith, g.area), g.facts.fits)

pub overflow_cast-m : goal.overflow_cast-m
overflow_cast-m c =
    let g = allowed _ _ c.args.f _ _ _ _ c.in-Some.ensures in
    omega (arith, g.area, c.put_body-m.ensures.value)

pub put_header-requires : goal.put_header-requires
put_header-requires c =
    let g = allowed _ _ c.args.f _ _ _ _ c.in-Some.ensures in
    (g.facts.one, (omega (arith, g.area, c.put_body-m.ensures.value), (omega (arith, g.whole), omega (arith, g.facts.fits, g.whole))))

pub returns : goal.returns
returns c =
    let a = c.args in
    let b = c.put_body-m.ensures in
    let g = allowed _ _ c.args.f _ _ _ _ c.in-Some.ensures in
    let e = all_written a.src.now a.dst.now a.f a.cookie.now a.payload.now a.out.now _ _ _ _ g b.value b.out_after c.put_header.ensures in
    record { value = e.0; out_after = e.1 }
