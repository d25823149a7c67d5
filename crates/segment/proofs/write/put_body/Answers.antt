use Rattle.std.proofs.Common.{◌+◌, ◌-◌, ◌∙◌, ◌++◌, sym, ap, arith, List, ℕ, length, take, drop, rules, ◌≤◌}
use lib.Seq.{take_all}
use borrow.Rule.Slice.PartMut.{put_mid}
use Rattle.segment.specs.Write.{option_bytes}
use Rattle.segment.proofs.Writes.{body}
use Rattle.segment.proofs.write.put_body.Goals as goal

pub returns-clause-out_after : goal.returns-clause-out_after
returns-clause-out_after c =
    let a = c.args in
    let p = a.payload.now in
    let o = c.put_options-m.ensures in
    let middle = put_mid 20 (length a.out.now - 20) a.out.now c.put_options-m.new.out in
    let at = 20 + c.put_options-m.result in
    let rest = take (length middle - at) (drop at middle) in
    let l : length p ≤ length rest = search rules in
    let k : at ≤ length middle = search rules in
    let e = (c.copy.ensures.whole l).1 ∙ ap (λ (x : List ℕ). x ++ drop (length p) rest) (sym (take_all (length p) p (omega arith))) in
    body a.out.now (option_bytes a.f.mss a.f.fast a.f.coding a.cookie.now) _ p _ _ (omega arith) o.value o.out_after k e
