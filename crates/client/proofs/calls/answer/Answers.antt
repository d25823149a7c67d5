-- By the checks.
use Rattle.std.proofs.Common.{◌≡◌, rules}
use Rattle.client.specs.Step.{bans_after, step, moved}
use Rattle.client.proofs.Step.{answer_dropped, answer_kept, answer_negative, answer-done}
use Rattle.client.proofs.After.{brought_is}
use Rattle.client.proofs.calls.answer.Goals as goal
use Rattle.client.proofs.calls.answer.Goals.{then-is_negative, else-is_negative}

pub returns-in-Err : goal.returns-in-Err
unfolding step
returns-in-Err c =
    let a = c.args in
    rw (answer_dropped a.m a.time a.own.now a.server.now a.a a.seg.now a.codings c.in-Err.ensures) c.refused.ensures

pub returns : goal.returns
returns c =
    let a = c.args in
    let heard = c.in-Ok.ensures in
    let report = c.segment_options-found.ensures in
    let named = answer_kept a.m a.time a.own.now a.server.now a.a a.seg.now a.codings heard c.block_of-b.ensures in
    let brings = brought_is a.codings a.seg.now report c.option_area-area.ensures c.cookie.ensures in
    let negative = answer_negative a.m a.time a.own.now a.server.now a.a a.seg.now a.codings heard report c.is_negative.ensures in
    let at = c.at_time-next.result in
    let next : c.if-is_negative.next ≡ moved at at.clock c.learn.new.cache (bans_after a.time c.block_of-b.result a.a.dest c.is_negative.result at.bans) =
    elim c.if-is_negative.branch [ then-is_negative w ↦ search rules | else-is_negative w ↦ search rules ] in
    answer-done a.m a.time a.own.now a.server.now a.a a.seg.now a.codings heard
    c.at_time-next.ensures named brings.0 brings.1 report c.learn.ensures negative next c.new_outcome.ensures
