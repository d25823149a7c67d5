-- A segment of the right shape, with its checksum and between the two ports: as an answer.
use Rattle.std.proofs.Common.{sym, ◌∙◌}
use Rattle.client.proofs.Refusals.{replied}
use Rattle.client.proofs.checks.check_segment.Goals as goal

pub returns : goal.returns
returns c =
    replied c.args.own.now c.args.server.now c.args.a c.args.seg.now (sym c.read_header.ensures ∙ c.in_ok-h.ensures.ok_part) c.is_checksum_right.ensures
    c.if-not-is_checksum_right.false c.is_between.ensures c.if-not-is_between.false c.check_reply.ensures
