-- Both halves of a pass take from what is left to add what they add.
use Rattle.std.proofs.Common.{◌≡◌, ℕ, ◌+◌, ◌*◌, ◌/◌, ◌<◌, List, [], length, drop, get_or, arith}
use Rattle.std.specs.Simd.{first_chunks}
use Rattle.segment.specs.Totals.{total, pass_total}
use Rattle.segment.proofs.Chunks.{chunk_byte}
use Rattle.segment.proofs.Total.{total_pass, pass_copied}
use Rattle.segment.proofs.checksum.total_of.Goals as goal

one_pass : (s : List ℕ) (ws : List (List ℕ)) (k : ℕ) → ws ≡ first_chunks 16 (length s / 16) s → k < length s / 16
    → pass_total 4 (get_or ws k []) 0 + pass_total 4 (get_or ws k []) 8 + total (drop (16 * (k + 1)) s) ≡ total (drop (16 * k) s)
one_pass s ws k e h =
    let copied : (b : ℕ) → b < 16 → get_or (get_or ws k []) b 0 ≡ get_or s (16 * k + b) 0 = λ b m.
    let j : k * 16 ≡ 16 * k = omega arith in
    rw (e, ← j) (chunk_byte 16 (length s / 16) s k b h m) in
    let a = pass_copied 4 (get_or ws k []) s (16 * k) 0 copied (omega arith) in
    let b = pass_copied 4 (get_or ws k []) s (16 * k) 8 copied (omega arith) in
    let p = total_pass 4 s (16 * k + 0) (omega arith) in
    let q = total_pass 4 s (16 * k + 8) (omega arith) in
    let x : 16 * k + 0 ≡ 16 * k = omega arith in
    let y : 16 * k + 0 + 2 * 4 ≡ 16 * k + 8 = omega arith in
    let z : 16 * k + 8 + 2 * 4 ≡ 16 * (k + 1) = omega arith in
    omega (arith, a, b, rw (y, x) at p, rw z at q, rw x at a)

pub add_words-first-requires : goal.add_words-first-requires
add_words-first-requires c =
    let o = one_pass c.args.s.now c.as_chunks.result.0.now c.loop-pass.pass-index c.as_chunks.ensures.front (omega arith) in
    (omega arith, omega (arith, o, c.loop-pass.invariant, c.requires))

pub add_words-second-requires : goal.add_words-second-requires
add_words-second-requires c =
    let o = one_pass c.args.s.now c.as_chunks.result.0.now c.loop-pass.pass-index c.as_chunks.ensures.front (omega arith) in
    (omega arith, omega (arith, o, c.loop-pass.invariant, c.requires))

pub loop-pass-preserved : goal.loop-pass-preserved
loop-pass-preserved c =
    let o = one_pass c.args.s.now c.as_chunks.result.0.now c.loop-pass.pass-index c.as_chunks.ensures.front (omega arith) in
    omega (arith, o, c.loop-pass.invariant, c.add_words-first.ensures, c.add_words-second.ensures)
