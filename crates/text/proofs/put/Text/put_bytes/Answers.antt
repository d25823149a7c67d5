-- `-`, or digits: two more at each turn.
use Rattle.std.proofs.Common.{◌≡◌, ◌+◌, List, ℕ, take, ◌++◌, sym, ap, add-one}
use lib.Seq.{take_all}
use Rattle.std.proofs.Math.Seq.{take-suc}
use borrow.Author.Tests.{eqb-true, eqb-false}
use Rattle.text.specs.ByteString.{hex_of}
use Rattle.text.proofs.Puts.{put_nothing, put_put}
use Rattle.text.proofs.Digits.{hex_snoc, word_none, word_some}
use Rattle.text.proofs.put.Text.put_bytes.Goals as goal

pub returns-then-is_empty : goal.returns-then-is_empty
returns-then-is_empty c = rw (word_none c.args.src.now (eqb-true _ _ (sym c.if-is_empty.ensures))) c.put.ensures

pub loop-b-init : goal.loop-b-init
unfolding hex_of
loop-b-init c = sym (put_nothing c.args.self.now)

pub loop-b-preserved : goal.loop-b-preserved
loop-b-preserved c =
    let s = c.args.src.now in
    let l = c.loop-b in
    let pair = c.digits_of in
    let e : hex_of (take (l.b-index + 1) s) ≡ hex_of (take l.b-index s) ++ pair.result =
    rw (add-one, take-suc s l.b-index 0 c.loop-b-test.true, hex_snoc) (sym (ap (λ (x : List ℕ). hex_of (take l.b-index s) ++ x) pair.ensures)) in
    rw (e, c.put-in-loop-b.ensures, l.invariant) (put_put (hex_of (take l.b-index s)) c.args.self.now pair.result)

pub returns : goal.returns
returns c =
    let s = c.args.src.now in
    rw (word_some s (eqb-false _ _ (sym c.if-is_empty.ensures)), ← take_all c.loop-b.b-index s c.loop-b-test.false) c.loop-b.invariant
