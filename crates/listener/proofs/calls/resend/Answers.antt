-- By the checks, and by the place that the search found.
use Rattle.std.proofs.Common.{◌≡◌, length, arith, sym, ◌∙◌}
use lib.ListN.{replicate}
use Rattle.endpoint.specs.Checks.{is_untimely}
use Rattle.endpoint.proofs.Blocks.{kept}
use Rattle.protocol.proofs.Step.{resend-stopped, resend-none, resend-done, output-short-address, unwritten, resent}
use Rattle.listener.proofs.Peer.{peer_slot}
use Rattle.listener.proofs.calls.resend.Goals as goal

pub returns-in-Err : goal.returns-in-Err
returns-in-Err c =
    let q = unwritten c.args.out.now c.refused.ensures (resend-stopped c.args.l c.args.time c.args.addr.now c.args.port (length c.args.out.now) (sym c.in-Err.ensures)) in
    record { value = q.0; out_after = q.1 }

pub returns-then-not-is_waiting : goal.returns-then-not-is_waiting
returns-then-not-is_waiting c =
    let l = c.args.l in
    let a = c.args.addr.now in
    let n = length c.args.out.now in
    let first = sym c.in_default.ensures in
    let full : length l.slots ≡ 64 = omega arith in
    let block_is = kept a (output-short-address l.local (is_untimely l.clock c.args.time) a n first) c.block_of.ensures in
    let peer_is = peer_slot l full c.args.time a c.args.port block_is c.find_peer.ensures c.slot_at-slot.ensures in
    let q = unwritten c.args.out.now c.refused-then-not-is_waiting.ensures
    (resend-none l c.args.time a c.args.port n first (rw peer_is at (sym c.is_waiting.ensures ∙ c.if-not-is_waiting.true))) in
    record { value = q.0; out_after = q.1 }

pub returns : goal.returns
returns c =
    let l = c.args.l in
    let a = c.args.addr.now in
    let n = length c.args.out.now in
    let first = sym c.in_default.ensures in
    let full : length l.slots ≡ 64 = omega arith in
    let block_is = kept a (output-short-address l.local (is_untimely l.clock c.args.time) a n first) c.block_of.ensures in
    let peer_is = peer_slot l full c.args.time a c.args.port block_is c.find_peer.ensures c.slot_at-slot.ensures in
    let q = resent l c.args.time a c.args.port n c.args.out.now
    (resend-done l c.args.time a c.args.port n first (rw peer_is at (sym c.is_waiting.ensures ∙ c.if-not-is_waiting.false)))
    peer_is (replicate 8 0) (c.write_from-written.ensures.value, c.write_from-written.ensures.out_after) c.unremarked.ensures in
    record { value = q.0; out_after = q.1 }
