-- By what the word is: `-`, no byte string, one too long, or one that fits.
use Rattle.std.proofs.Common.{◌≤◌, Some, None, [], length, arith, sym, ap, ◌∙◌}
use Rattle.text.specs.ByteString.{pair_bytes}
use Rattle.text.proofs.PairBytes.{half, ReadAs, read_dash, bad_other, bad_long, read_pairs, buffer}
use Rattle.text.proofs.bytestring.read_bytes.Goals as goal
use Rattle.text.proofs.bytestring.read_bytes.Goals.{then-not-is_hex-via-then-not-is_hex, then-not-is_hex-via-else-not-is_hex+then-word-out}

pub returns-then-is_word : goal.returns-then-is_word
returns-then-is_word c =
    let p = buffer c.args.word.now c.args.out.now _ _ (read_dash c.args.word.now _ (sym c.if-is_word.ensures)) in
    record { value = p.0; out_after = p.1 }

pub returns-then-not-is_hex : goal.returns-then-not-is_hex
returns-then-not-is_hex c =
    let s = c.args.word.now in
    let out = c.args.out.now in
    let d = sym c.if-is_word.ensures in
    let b : ReadAs s (length out) None [] =
    elim c.then-not-is_hex.branch [
      | then-not-is_hex-via-then-not-is_hex w ↦ bad_other s _ d (sym c.is_hex.ensures ∙ w.if-not-is_hex.true)
      | then-not-is_hex-via-else-not-is_hex+then-word-out w ↦ bad_long s _ d (omega (arith, half s))
    ] in
    let p = buffer s out _ _ b in
    record { value = p.0; out_after = p.1 }

pub decode-requires-clause-word_in_bounds : goal.decode-requires-clause-word_in_bounds
decode-requires-clause-word_in_bounds c = omega (arith, half c.args.word.now)

pub returns : goal.returns
returns c =
    let s = c.args.word.now in
    let out = c.args.out.now in
    let k : length (pair_bytes s) ≤ length out = omega (arith, half s) in
    let o = buffer s out _ _ (read_pairs s _ (sym c.if-is_word.ensures) (sym c.if-not-is_hex.ensures) k) in
    record { value = ap Some c.decode.ensures.value ∙ o.0; out_after = c.decode.ensures.out_after ∙ o.1 }
