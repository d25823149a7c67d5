-- One more byte, by its two digits.
use Rattle.std.proofs.Common.{◌+◌, ◌*◌, ◌<◌, ◌∙◌, length, arith, sym}
use lib.ListN.{length-set}
use Rattle.text.specs.ByteString.{pair_bytes}
use Rattle.text.proofs.PairBytes.{half, pair_value, pair_put, all_put}
use Rattle.text.proofs.bytestring.decode.Goals as goal

pub bounds-out-i : goal.bounds-out-i
bounds-out-i c = omega (arith, half c.args.word.now, c.as_chunks.ensures.front_len)

pub loop-i-preserved : goal.loop-i-preserved
loop-i-preserved c =
    let s = c.args.word.now in
    let l = c.loop-i in
    let h : l.i < length (pair_bytes s) = omega (arith, half s, c.as_chunks.ensures.front_len) in
    let v = pair_value s c.as_chunks.result.0.now l.i c.unwrap_or.result c.unwrap_or-in-loop-i.result c.nibble.result c.nibble-in-loop-i.result c.as_chunks.ensures.front c.requires.word_value h c.nibble.ensures c.nibble-in-loop-i.ensures c.unwrap_or.ensures c.unwrap_or-in-loop-i.ensures in (
      simp length-set l.invariant.0,
      rw l.invariant.1 (pair_put (pair_bytes s) c.args.out.now l.i (c.unwrap_or.result * 16 + c.unwrap_or-in-loop-i.result) h c.requires.word_in_bounds v),
    )

pub returns : goal.returns
returns c =
    let l = c.loop-i in
    record {
      value = c.as_chunks.ensures.front_len ∙ sym (half c.args.word.now);
      out_after = all_put _ _ _ l.i (omega (arith, half c.args.word.now, c.as_chunks.ensures.front_len)) (omega (arith, half c.args.word.now, c.as_chunks.ensures.front_len)) l.invariant.1;
    }
