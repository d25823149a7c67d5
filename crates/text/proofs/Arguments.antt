-- Arguments as they are read, with the bytes in buffers, are the arguments that the words say. Assumes nothing.
use Prim.Native.Nat.{ℕ, zero, suc, min}
use mathlib.Core.Path.{◌≡◌, sym, ap}
use mathlib.Core.List.{List, ◌∷◌}
use Rattle.std.specs.Prelude.{Some}
use native.Mathlib.Omega.{arith}
use lib.ListN.{length, take, replicate}
use lib.Seq.{take_at}
use Rattle.text.specs.Word.{word_at}
use Rattle.text.specs.ByteString.{bytes_read}
use Rattle.text.specs.Argument.{out_at, bytes_at, count_at, bytes_over}
use Rattle.text.proofs.Values.{value_most, bytes_counted}

-- a byte string that was read is at the start of the buffer that it was read to
pub bytes_there : (i : ℕ) (s z z' : List ℕ) (n : ℕ) → length z ≡ 4096 → Some n ≡ count_at i s (length z) → z' ≡ bytes_over i s z → bytes_at i s ≡ Some (take n z')
bytes_there i s z z' n l e f =
    let h : bytes_read (word_at i s) 4096 ≡ Some n = rw (← l) (sym e) in
    rw (h, f, l) (ap Some (sym (take_at _ _ n (bytes_counted (word_at i s) 4096 n h))))

-- an OUT that is read is at most 2,048
pub out_there : (i : ℕ) (s : List ℕ) (n : ℕ) → Some n ≡ out_at i s → out_at i s ≡ Some (min n 2048)
out_there i s n e = let k : min n 2048 ≡ n = omega (arith, value_most (word_at i s) 2048 n (sym e)) in rw (← e, k)

-- so many bytes of a filled output
pub take-replicate : (k n x : ℕ) → take k (replicate n x) ≡ replicate (min k n) x
take-replicate zero n x = let e : min 0 n ≡ 0 = omega arith in rw e
take-replicate (suc k) zero x = let e : min (suc k) 0 ≡ 0 = omega arith in rw e
take-replicate (suc k) (suc n) x =
    let e : min (suc k) (suc n) ≡ suc (min k n) = omega arith in
    rw e (ap (λ (r : List ℕ). x ∷ r) (take-replicate k n x))
