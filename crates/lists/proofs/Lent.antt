-- Parts of an output that were lent, from a place on, and came back written. Assumes nothing.
use Prim.Native.Nat.{ℕ, ◌+◌, ◌-◌, ◌≤◌}
use mathlib.Core.Path.{◌≡◌, sym, ap, ◌∙◌}
use mathlib.Core.List.{List, [], ◌++◌, append-nil, append_assoc}
use native.Mathlib.Omega.{arith}
use lib.ListN.{length, take, drop, drop_of_length-le, length-drop, length-append}
use lib.Seq.{take_all, take_at, drop_at, drop-drop}
use borrow.Rule.Slice.PartMut.{put_mid, post_of}
use Rattle.lists.specs.Bytes.{overwrite}

-- the output from `at` on was lent, and came back as `last`
pub lent : (out last : List ℕ) (at : ℕ) → at ≤ length out → put_mid at (length out - at) out last ≡ take at out ++ last
lent out last at h =
    let b : length (drop at out) ≤ length out - at = omega (arith, length-drop at out) in
    let p : post_of at (length out - at) out ≡ [] = drop_of_length-le (drop at out) b in
    ap (λ (x : List ℕ). take at out ++ (last ++ x)) p ∙ ap (λ (x : List ℕ). take at out ++ x) (append-nil last)

-- what was lent is the output from `at` on
pub lent_out : (out : List ℕ) (at : ℕ) → take (length out - at) (drop at out) ≡ drop at out
lent_out out at = take_all (length out - at) (drop at out) (omega (arith, length-drop at out))

-- bytes copied to the start of what was lent
pub copied : (out src last : List ℕ) (at : ℕ) → at ≤ length out
    → last ≡ take (length src) src ++ drop (length src) (take (length out - at) (drop at out))
    → put_mid at (length out - at) out last ≡ take at out ++ (src ++ drop (at + length src) out)
copied out src last at h e =
    let r : take (length src) src ≡ src = take_all (length src) src (omega arith) in
    let l : last ≡ src ++ drop (at + length src) out = e ∙ rw (r, lent_out out at, drop-drop) in
    lent out last at h ∙ ap (λ (x : List ℕ). take at out ++ x) l

-- a header copied to the output's start, and then bytes to what is behind it
pub headed : (out h src mid last : List ℕ) (n : ℕ) → length h ≡ n → n ≤ length out
    → mid ≡ take (length h) h ++ drop (length h) out
    → last ≡ take (length src) src ++ drop (length src) (take (length mid - n) (drop n mid))
    → put_mid n (length mid - n) mid last ≡ overwrite (h ++ src) out
headed out h src mid last n e k m l =
    let w : mid ≡ h ++ drop n out = m ∙ rw (take_all (length h) h (omega arith), e) in
    let j : length mid ≡ length h + length (drop n out) = ap length w ∙ length-append h (drop n out) in
    let t : take n mid ≡ h = ap (take n) w ∙ take_at h (drop n out) n e in
    let d : drop n mid ≡ drop n out = ap (drop n) w ∙ drop_at h (drop n out) n e in
    let b : drop (n + length src) mid ≡ drop (n + length src) out =
    sym (drop-drop (length src) n mid) ∙ ap (drop (length src)) d ∙ drop-drop (length src) n out in
    copied mid src last n (omega (arith, length-drop n out)) l ∙ rw (t, b, append_assoc, length-append h src, e)
