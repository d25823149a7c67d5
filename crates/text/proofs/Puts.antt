-- Puts that follow one another are one put, and what one put leaves. Assumes nothing.
use Prim.Native.Nat.{ℕ, ◌+◌, ◌-◌, ◌≤◌, ◌<◌, min}
use mathlib.Core.Path.{◌≡◌, refl, ap, sym, ◌∙◌}
use mathlib.Core.Bool.{Bool, true, false}
use mathlib.Core.List.{List, [], ◌++◌, append-nil, append_assoc}
use native.Mathlib.Omega.{arith}
use lib.Dec.{leb}
use lib.ListN.{length, take, drop, length-append, length-drop}
use lib.Seq.{take_all, take-append-le, take-append-add, drop-drop, length-take-le, length-paste, take-paste, drop-paste, paste, paste-zero}
use borrow.Author.Tests.{leb-true, leb-false}
use borrow.Rule.Slice.PartMut.{put_mid}
use Rattle.lists.specs.Bytes.{overwrite}
use Rattle.lists.proofs.Lent.{copied}
use Rattle.text.specs.Put.{fitting, place_after, laid, put_after}
use Rattle.text.specs.declared.put.Text.{Text}

-- ---- what a put leaves, by how many bytes fit; a put past the end changes nothing

module _ (at : ℕ) (s out : List ℕ) where
  pub laid_as : (k : ℕ) → k ≡ fitting at (length s) (length out) → laid at s out ≡ paste out at s k
  unfolding laid
  laid_as k e = rw e

  pub laid_past : length out ≤ at → laid at s out ≡ out
  laid_past h = laid_as 0 (omega arith) ∙ sym (paste-zero out at s)

  pub place_past : length out ≤ at → place_after at (length s) (length out) ≡ at
  unfolding place_after
  place_past h = omega arith

  -- a buffer keeps its length
  length_laid_by : (k : Bool) → leb at (length out) ≡ k → length (laid at s out) ≡ length out
  length_laid_by true e =
      let h : at ≤ length out = leb-true at (length out) e in
      let k = fitting at (length s) (length out) in
      ap length (laid_as k refl) ∙ length-paste out at s k (omega arith) (omega arith)
  length_laid_by false e = ap length (laid_past (omega (arith, leb-false at (length out) e)))

  pub length-laid : length (laid at s out) ≡ length out
  length-laid = length_laid_by _ refl

-- ---- puts that follow one another

pub place-place : (at m n out_len : ℕ) → place_after (place_after at m out_len) n out_len ≡ place_after at (m + n) out_len
unfolding place_after
place-place at m n out_len = omega arith

-- what fits of two texts
take_two : (s w : List ℕ) (m : ℕ) (t : Bool) → leb (length s) m ≡ t
    → take (min (length s) m) s ++ take (min (length w) (m - min (length s) m)) w ≡ take (min (length s + length w) m) (s ++ w)
take_two s w m true e =
    let h : length s ≤ m = leb-true (length s) m e in
    let a : min (length s) m ≡ length s = omega arith in
    let b : min (length s + length w) m ≡ length s + min (length w) (m - length s) = omega arith in
    rw (b, a, take-append-add s w, take_all (length s) s (omega arith))
take_two s w m false e =
    let h : m < length s = leb-false (length s) m e in
    let a : min (length s) m ≡ m = omega arith in
    let b : min (length s + length w) m ≡ m = omega arith in
    let z : min (length w) (m - m) ≡ 0 = omega arith in
    rw (b, a, z, append-nil, take-append-le m s w (omega arith))

-- what the first of two texts leaves
left_after : (at m n out_len : ℕ) → min n (out_len - at - min m (out_len - at)) ≡ fitting (at + min m (out_len - at)) n out_len
left_after at m n out_len = omega arith

laid_laid_by : (at : ℕ) (s w out : List ℕ) (t : Bool) → leb at (length out) ≡ t
    → laid (place_after at (length s) (length out)) w (laid at s out) ≡ laid at (s ++ w) out
unfolding place_after
laid_laid_by at s w out true e =
    let h : at ≤ length out = leb-true at (length out) e in
    let m = length out - at in
    let j = min (length s) m in
    let k = min (length w) (m - j) in
    let q = min (length s + length w) m in
    let first = paste out at s j in
    let l : length first ≡ length out = length-paste out at s j (omega arith) (omega arith) in
    let t : take (at + j) first ≡ take at out ++ take j s = take-paste out at s j h (omega arith) in
    let d : drop (at + j + k) first ≡ drop (at + j + k) out =
    sym (drop-drop k (at + j) first) ∙ ap (drop k) (drop-paste out at s j h (omega arith)) ∙ drop-drop k (at + j) out in
    let n : at + j + k ≡ at + q = omega arith in
    ap (laid (at + j) w) (laid_as at s out j refl)
    ∙ laid_as (at + j) w first k (left_after at (length s) (length w) (length out) ∙ ap (fitting (at + j) (length w)) (sym l))
    ∙ rw (t, d, append_assoc (take at out), take_two s w m (leb (length s) m) refl, n)
    (sym (laid_as at (s ++ w) out q (omega (arith, length-append s w))))
laid_laid_by at s w out false e =
    let h : length out ≤ at = omega (arith, leb-false at (length out) e) in
    rw (place_past at s out h, laid_past at s out h, laid_past at w out h) (sym (laid_past at (s ++ w) out h))

pub laid-laid : (at : ℕ) (s w out : List ℕ) → laid (place_after at (length s) (length out)) w (laid at s out) ≡ laid at (s ++ w) out
laid-laid at s w out = laid_laid_by at s w out _ refl

-- the same of a text; and what a put leaves of each of its parts
module _ (s : List ℕ) (t : Text) where
  pub at_after : (put_after s t).at ≡ place_after t.at (length s) (length t.out.now)
  unfolding put_after
  at_after = refl

  pub out_after : (put_after s t).out.now ≡ laid t.at s t.out.now
  unfolding put_after
  out_after = refl

  pub same_reference : (put_after s t).out.ghost_name ≡ t.out.ghost_name
  unfolding put_after
  same_reference = refl

  pub put_put : (w : List ℕ) → put_after w (put_after s t) ≡ put_after (s ++ w) t
  unfolding put_after
  put_put w = rw (length-laid t.at s t.out.now, place-place, laid-laid, length-append s w) refl

-- ---- a put of nothing; and what the check tries where puts follow one another

pub place_none : (at n : ℕ) → place_after at 0 n ≡ at
unfolding place_after
place_none at n = omega arith

pub laid_none : (at : ℕ) (out : List ℕ) → laid at [] out ≡ out
laid_none at out = laid_as at [] out 0 (omega arith) ∙ sym (paste-zero out at [])

pub put_nothing : (t : Text) → put_after [] t ≡ t
unfolding put_after
put_nothing t = rw (place_none, laid_none) refl

pub ruleset puts = (put_put, at_after, out_after, same_reference, put_nothing, place_none, laid_none)

-- ---- one put: past the end; of as much as there is room for, where the room is lent and comes back as `last`

-- what one put comes to: the place n and the buffer now, from a place and a buffer before
abbrev pub Put : List ℕ → ℕ → List ℕ → ℕ → List ℕ → Type 0
Put o at s n out = (n ≡ place_after at (length s) (length o)) × (out ≡ laid at s o)

-- as a text
pub as_text : (s : List ℕ) (t : Text) (n : ℕ) (out : List ℕ) → Put t.out.now t.at s n out → record t { out = record t.out { now = out }; at = n } ≡ put_after s t
unfolding put_after
as_text s t n out p = rw (p.0, p.1) refl

module _ (out src : List ℕ) (at : ℕ) where
  pub put_past : length out < at → Put out at src at out
  put_past h = (sym (place_past at src out (omega arith)), sym (laid_past at src out (omega arith)))

  -- as much as fits
  fits : (m : ℕ) (t : Bool) → leb (length src) m ≡ t → (take m src ≡ take (min (length src) m) src) × (length (take m src) ≡ min (length src) m)
  fits m true e =
      let h : length src ≤ m = leb-true (length src) m e in
      let k : min (length src) m ≡ length src = omega arith in
      rw (k, take_all m src h, take_all (length src) src (omega arith)) (refl, refl)
  fits m false e =
      let h : m < length src = leb-false (length src) m e in
      let k : min (length src) m ≡ m = omega arith in
      (rw k, length-take-le m src (omega arith) ∙ sym k)

  pub put_room : (last room : List ℕ) (n : ℕ) → at ≤ length out → room ≡ take (length out - at) (drop at out)
      → n ≡ min (length src) (length room) → last ≡ overwrite (take (length room) src) room → Put out at src (at + n) (put_mid at (length out - at) out last)
  unfolding place_after
  put_room last room n h r c e =
      let m = length out - at in
      let l : length room ≡ m = ap length r ∙ length-take-le m (drop at out) (omega (arith, length-drop at out)) in
      let f = fits m _ refl in
      let s = take m src in
      let x : put_mid at m out last ≡ take at out ++ (s ++ drop (at + length s) out) =
      copied out s last at h (rw (take_all (length s) s (omega arith)) (rw (l, r) at e)) in
      (omega arith, x ∙ rw (f.1, f.0, ← append_assoc) (sym (laid_as at src out (min (length src) m) refl)))

  -- the front of a text that is longer than the room
  pub put_front : (last : List ℕ) → at ≤ length out → length out - at < length src
      → last ≡ overwrite (take (length out - at) src) (take (length out - at) (drop at out))
      → Put out at src (length (put_mid at (length out - at) out last)) (put_mid at (length out - at) out last)
  unfolding place_after
  put_front last h k e =
      let m = length out - at in
      let l : length (take m src) ≡ m = length-take-le m src (omega arith) in
      let x : put_mid at m out last ≡ laid at src out =
      copied out (take m src) last at h (rw (take_all (length (take m src)) (take m src) (omega arith)) e) ∙ rw (l, ← append_assoc) (sym (laid_as at src out m (omega arith))) in
      (ap length x ∙ length-laid at src out ∙ omega arith, x)

  -- a text that fits
  pub put_whole : (last : List ℕ) → at ≤ length out → length src ≤ length out - at
      → last ≡ overwrite src (take (length out - at) (drop at out))
      → Put out at src (at + length src) (put_mid at (length out - at) out last)
  unfolding place_after
  put_whole last h k e =
      let a : laid at src out ≡ take at out ++ (src ++ drop (at + length src) out) =
      laid_as at src out (length src) (omega arith) ∙ rw (take_all (length src) src (omega arith), append_assoc) in
      (omega arith, copied out src last at h (rw (take_all (length src) src (omega arith)) e) ∙ sym a)
