use Rattle.std.proofs.Common.{◌≤◌, ◌++◌, ◌∙◌, List, ℕ, sym, ap, length, drop, arith, rules}
use lib.Seq.{take_all}
use Rattle.segment.proofs.OneFamily.{family, pseudo_even}
use Rattle.segment.proofs.Writes.{header-written}
use Rattle.segment.proofs.write.put_header.Goals as goal

pub returns : goal.returns
returns c =
    let a = c.args in
    let o = a.out.now in
    let h = c.header-with_checksum.result in
    let l : length h ≤ length o = search rules in
    let e = (c.copy.ensures.whole l).1 ∙ ap (λ (x : List ℕ). x ++ drop (length h) o) (sym (take_all (length h) h (omega arith))) in
    header-written a.f a.offset _ _ _ _ _ _ _ o _
    (pseudo_even a.src.now a.dst.now a.n (family _ _ c.requires.0))
    c.header-without_checksum.ensures c.pseudo_sum.ensures c.add_bytes.ensures c.add_bytes-sum.ensures c.header-with_checksum.ensures e
