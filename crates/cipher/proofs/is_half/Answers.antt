-- The lengths first, then every byte.
use Rattle.std.proofs.Common.{◌≡◌, ◌∙◌, sym, length, rules}
use Rattle.std.proofs.lemmas.Iterator.{empty_from_Zip}
use Rattle.lists.proofs.SameBytes.{unlike}
use Rattle.lists.proofs.CompareLoop.{pair_more, pairs_end}
use Rattle.cipher.proofs.is_half.Goals as goal

pub returns-then-given-ne8 : goal.returns-then-given-ne8
returns-then-given-ne8 c = let h : length c.args.half ≡ 8 = search rules in sym (unlike _ _ (λ e. c.if-given-ne8.true (e ∙ h)))

pub loop-a-preserved : goal.loop-a-preserved
loop-a-preserved c = pair_more _ _ _ _ c.loop-a.invariant.0 c.loop-a.invariant.1 _ _ _ _ c.in-Some.ensures.steps.0 c.in-Some.ensures.steps.1

pub returns : goal.returns
returns c =
    let none = empty_from_Zip c.loop-a.a-iterator c.next.new.self _ c.in-None.is c.next.ensures.steps c.loop-a.invariant.0 in
    pairs_end _ _ _ _ c.loop-a.invariant.0 c.loop-a.invariant.1 none.0
