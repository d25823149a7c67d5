-- A word more, an odd last byte, or none.
use Rattle.std.proofs.Common.{◌≡◌, ℕ, ◌+◌, ◌*◌, ◌/◌, ◌<◌, List, [], length, drop, get_or, ap, add-zero, arith}
use Rattle.std.proofs.lemmas.List.{get_or-drop}
use Rattle.std.specs.Simd.{first_chunks}
use Rattle.segment.specs.Totals.{total}
use Rattle.segment.proofs.Chunks.{chunk_byte}
use Rattle.segment.proofs.Total.{total_two, total-last, total-none}
use Rattle.segment.proofs.checksum.total_of_rest.Goals as goal

one_more : (s : List ℕ) (ws : List (List ℕ)) (i : ℕ) → ws ≡ first_chunks 2 (length s / 2) s → i < length s / 2
    → get_or (get_or ws i []) 0 0 + 256 * get_or (get_or ws i []) 1 0 + total (drop (2 * (i + 1)) s) ≡ total (drop (2 * i) s)
one_more s ws i e h =
    let g : 2 * (i + 1) ≡ 2 * i + 2 = omega arith in
    let m : i * 2 ≡ 2 * i = omega arith in
    rw (e, chunk_byte 2 _ s i 0 h (omega arith), chunk_byte 2 _ s i 1 h (omega arith), g, m, add-zero (2 * i)) (omega (arith, total_two s (2 * i) (omega arith)))

pub loop-word-preserved : goal.loop-word-preserved
loop-word-preserved c =
    let a = c.as_chunks in
    omega (arith, one_more c.args.s.now a.result.0.now c.loop-word.word-index a.ensures.front (omega arith), c.loop-word.invariant)

pub returns-then-odd-eq1 : goal.returns-then-odd-eq1
returns-then-odd-eq1 c =
    let s = c.args.s.now in
    let a = c.as_chunks in
    let i = c.loop-word.word-index in
    let e : i ≡ length s / 2 = omega arith in
    let l = total-last s (2 * i) (omega arith) in
    let b : get_or a.result.1.now 0 0 ≡ get_or s (2 * i) 0 = rw (a.ensures.back, get_or-drop (length s / 2 * 2) s 0 0) (ap (λ (j : ℕ). get_or s j 0) (omega arith)) in
    omega (arith, c.loop-word.invariant, l, b)

pub returns-else-odd-eq1 : goal.returns-else-odd-eq1
returns-else-odd-eq1 c = omega (arith, total-none c.args.s.now (2 * c.loop-word.word-index) (omega arith), c.loop-word.invariant)
