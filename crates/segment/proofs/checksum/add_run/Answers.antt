-- The words of a run come to less than 2^32 with a word more.
use Rattle.std.proofs.Common.{◌≡◌, ℕ, ◌+◌, ◌*◌, ◌/◌, ◌%◌, ◌<◌, ◌≤◌, List, length, get_or, ◌∙◌, arith}
use Rattle.lists.proofs.ByteLists.{bytes_of}
use Rattle.segment.specs.Totals.{swapped, total, most_total}
use Rattle.segment.proofs.Total.{total_bound}
use Rattle.segment.proofs.Folded.{run-sum}
use Rattle.segment.proofs.checksum.add_run.Goals as goal

bound : (s : List ℕ) → ((i : ℕ) → get_or s i 0 < 256) → length s ≤ 65536 → total s ≤ most_total
bound s f h = omega (arith, total_bound s (bytes_of s f))

pub total_of-requires : goal.total_of-requires
total_of-requires c = bound c.args.s.now (λ i. omega (arith, c.type_inv.s i)) c.requires

pub overflow_add-from : goal.overflow_add-from
overflow_add-from c = omega (arith, bound c.args.s.now (λ i. omega (arith, c.type_inv.s i)) c.requires, c.total_of.ensures, c.swap_bytes.ensures, c.from.ensures)

swap_word : (x : ℕ) → x < 65536 → x % 256 * 256 + x / 256 % 256 ≡ swapped x
unfolding swapped
swap_word x h = omega arith

pub returns : goal.returns
returns c =
    let a = c.args in
    let b = bytes_of a.s.now (λ i. omega (arith, c.type_inv.s i)) in
    c.swap_bytes-2.ensures ∙ swap_word c.fold.result (omega arith)
    ∙ rw (c.fold.ensures, c.from.ensures, c.swap_bytes.ensures, swap_word a.sum (omega arith), c.total_of.ensures) (run-sum a.sum a.s.now (omega arith) b)
