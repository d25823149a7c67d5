-- The bytes of an array that a slice was divided into. Assumes nothing.
use Rattle.std.proofs.Common.{◌≡◌, ℕ, zero, suc, ◌+◌, ◌*◌, ◌<◌, List, [], take, drop, get_or, ap, arith}
use Rattle.std.proofs.lemmas.List.{get_or-drop, get_or-take}
use Rattle.std.proofs.lemmas.Grind.{common_steps}
use Rattle.std.specs.Simd.{first_chunks}

chunk_at : (n k i : ℕ) (s : List ℕ) → i < k → get_or (first_chunks n k s) i [] ≡ take n (drop (i * n) s)
chunk_at n zero i s h = absurd (omega arith)
chunk_at n (suc k) zero s h = search (arith, common_steps)
chunk_at n (suc k) (suc i) s h = grind (arith, common_steps, chunk_at n k i (drop n s))

pub chunk_byte : (n k : ℕ) (s : List ℕ) (i b : ℕ) → i < k → b < n → get_or (get_or (first_chunks n k s) i []) b 0 ≡ get_or s (i * n + b) 0
chunk_byte n k s i b h m = rw (chunk_at n k i s h, get_or-take n (drop (i * n) s) b 0 m) (get_or-drop (i * n) s b 0)
