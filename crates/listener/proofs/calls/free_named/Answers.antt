-- By the checks, and by the place that the search found.
use Rattle.std.proofs.Common.{◌≡◌, length, arith, sym, ◌∙◌}
use Rattle.endpoint.specs.Checks.{is_untimely}
use Rattle.endpoint.proofs.Blocks.{kept}
use Rattle.endpoint.proofs.Chain.{named-short}
use Rattle.protocol.proofs.Step.{release_stopped, release_none, release_done}
use Rattle.listener.proofs.Peer.{peer_slot, freed_is}
use Rattle.listener.proofs.calls.free_named.Goals as goal

pub returns-in-Err : goal.returns-in-Err
returns-in-Err c =
    c.refused.ensures ∙ sym (release_stopped c.args.l c.args.time c.args.addr.now c.args.port c.args.established (sym c.in-Err.ensures))

pub returns-then-not-is_releasable : goal.returns-then-not-is_releasable
returns-then-not-is_releasable c =
    let l = c.args.l in
    let a = c.args.addr.now in
    let first = sym c.in_default.ensures in
    let full : length l.slots ≡ 64 = omega arith in
    let block_is = kept a (named-short l.local.started (is_untimely l.clock c.args.time) l.local.family a first) c.block_of.ensures in
    let peer_is = peer_slot l full c.args.time a c.args.port block_is c.find_peer-place.ensures c.slot_at-slot.ensures in
    c.refused-then-not-is_releasable.ensures
    ∙ sym (release_none l c.args.time a c.args.port c.args.established first (rw peer_is at (sym c.is_releasable.ensures ∙ c.if-not-is_releasable.true)))

pub returns : goal.returns
returns c =
    let l = c.args.l in
    let a = c.args.addr.now in
    let first = sym c.in_default.ensures in
    let full : length l.slots ≡ 64 = omega arith in
    let block_is = kept a (named-short l.local.started (is_untimely l.clock c.args.time) l.local.family a first) c.block_of.ensures in
    let peer_is = peer_slot l full c.args.time a c.args.port block_is c.find_peer-place.ensures c.slot_at-slot.ensures in
    rw (c.store.ensures, c.with_status.ensures, freed_is l full c.args.time a c.args.port block_is c.find_peer-place.ensures c.slot_at-slot.ensures) at c.done.ensures
    ∙ sym (release_done l c.args.time a c.args.port c.args.established first (rw peer_is at (sym c.is_releasable.ensures ∙ c.if-not-is_releasable.false)))
