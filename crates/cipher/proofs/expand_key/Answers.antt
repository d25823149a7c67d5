-- What the loop over the words begins with, one turn of it, and the schedule at its end.
use Rattle.std.proofs.Common.{◌≡◌, ◌∙◌, ◌/◌, ◌≤◌, take, length, refl, replicate, rules, arith}
use lib.Seq.{take_all}
use Rattle.cipher.proofs.Schedule.{key-stored, word-stored, all_stored}
use Rattle.cipher.proofs.expand_key.Goals as goal

pub loop-i-init : goal.loop-i-init
loop-i-init c =
    key-stored c.args.key _ (replicate 40 (replicate 4 0)) (length c.args.key / 4) (search rules) (search rules) refl (search rules)
    (c.copy_from_slice.ensures.after ∙ c.as_chunks.ensures.front)

pub loop-i-preserved : goal.loop-i-preserved
loop-i-preserved c =
    word-stored c.args.key _ _ c.loop-i.i (search rules) c.loop-i-test.true c.loop-i.invariant.0 c.loop-i.invariant.1 c.loop-i.invariant.2
    c.next_word-word.ensures

pub returns : goal.returns
returns c =
    let whole : c.unwrap.result.now ≡ take 176 c.as_flattened.result.now = search rules in
    let long : length c.as_flattened.result.now ≤ 176 = omega (arith, c.as_flattened.ensures.len, c.loop-i.invariant.0) in
    whole ∙ take_all 176 _ long ∙ c.as_flattened.ensures.value
    ∙ all_stored c.args.key c.loop-i.w c.loop-i.i (omega arith) c.loop-i.invariant.0 c.loop-i.invariant.2
