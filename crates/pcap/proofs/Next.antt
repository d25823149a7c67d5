-- What stands at the start of what is left of a capture, case by case; more bytes behind a whole record change nothing. Assumes nothing.
use Rattle.std.specs.Prelude.{None, Some, Ok, Err}
use Prim.Native.Nat.{ℕ, ◌+◌, ◌-◌, ◌≤◌, ◌<◌}
use mathlib.Core.Path.{◌≡◌, refl, ap, ◌∙◌}
use mathlib.Core.Logic.{◌⊎◌, inl, inr}
use mathlib.Core.Bool.{Bool, true, false, cond}
use mathlib.Core.List.{List, ◌++◌}
use native.Mathlib.Omega.{arith}
use borrow.Author.Tests.{lt-ltb, le-ltb, ne_eqb, ltb-true, ltb-false, eqb-true}
use lib.Dec.{ltb, eqb}
use lib.Seq.{take-append-le, drop-append-le}
use lib.ListN.{length, drop, get_or, length-append, length-drop, get_or-append}
use Rattle.pcap.specs.File.{long_in}
use Rattle.segment.specs.Refusal.{number_of}
use Rattle.segment.specs.declared.refusal.Refusal.{Refusal}
use Rattle.segment.specs.declared.refusal.Refusal.TheVariants.{CutRecord, BadCapture}
use Rattle.pcap.specs.Record.{head_of, Found, bodied, next_of}
use Rattle.pcap.specs.Records.{packet_of}
use Rattle.pcap.specs.declared.file.ByteOrder.{ByteOrder}
use Rattle.pcap.specs.declared.file.ByteOrder.TheVariants.{LowFirst, HighFirst}
use Rattle.pcap.specs.declared.record.RecordHead.{RecordHead}

-- behind a whole header
pub next_headed : (o : ByteOrder) (s : List ℕ) → 16 ≤ length s → next_of o s ≡ bodied (head_of o s) (length s - 16)
unfolding next_of
next_headed o s h = rw (ne_eqb (length s) 0 (λ e. omega arith), le-ltb (length s) 16 h)

pub body_over : (h : RecordHead) (n : ℕ) → 4096 < h.captured → bodied h n ≡ Err BadCapture
unfolding bodied
body_over h n m = rw (lt-ltb 4096 h.captured m)

pub body_whole : (h : RecordHead) (n : ℕ) → h.captured ≤ 4096 → h.captured ≤ n → bodied h n ≡ Ok (Some h)
unfolding bodied
body_whole h n m k = rw (le-ltb 4096 h.captured m, le-ltb n h.captured k)

-- what is known of a whole record
pub record Whole (o : ByteOrder) (s : List ℕ) (h : RecordHead) : Type 0 where
  pub head : head_of o s ≡ h
  pub most : h.captured ≤ 4096
  pub fits : 16 + h.captured ≤ length s

-- and of what else is found: no step but one to a whole record has such a header
abbrev pub Told : ByteOrder → List ℕ → Found → Type 0
Told o s (Ok (Some h)) = Whole o s h
Told o s (Ok None) = length s ≡ 0
Told o s (Err r) = ((r ≡ CutRecord) × (length s < 4112)) ⊎ ((r ≡ BadCapture) × ((16 ≤ length s) × (4096 < (head_of o s).captured)))

told : (o : ByteOrder) (s : List ℕ) → Told o s (next_of o s)
unfolding next_of bodied
told o s = go (eqb (length s) 0) refl (ltb (length s) 16) refl (ltb 4096 (head_of o s).captured) refl (ltb (length s - 16) (head_of o s).captured) refl
  where
    go : (a : Bool) → eqb (length s) 0 ≡ a → (b : Bool) → ltb (length s) 16 ≡ b → (c : Bool) → ltb 4096 (head_of o s).captured ≡ c
        → (d : Bool) → ltb (length s - 16) (head_of o s).captured ≡ d
        → Told o s (cond a (Ok None) (cond b (Err CutRecord) (cond c (Err BadCapture) (cond d (Err CutRecord) (Ok (Some (head_of o s)))))))
    go true p b q c r d t = eqb-true (length s) 0 p
    go false p true q c r d t = inl (refl, omega (arith, ltb-true (length s) 16 q))
    go false p false q true r d t = inr (refl, (ltb-false (length s) 16 q, ltb-true 4096 (head_of o s).captured r))
    go false p false q false r true t = inl (refl, omega (arith, ltb-true (length s - 16) (head_of o s).captured t, ltb-false 4096 (head_of o s).captured r, ltb-false (length s) 16 q))
    go false p false q false r false t =
        record { head = refl; most = ltb-false 4096 (head_of o s).captured r; fits = omega (arith, ltb-false (length s - 16) (head_of o s).captured t, ltb-false (length s) 16 q) }

pub whole : (o : ByteOrder) (s : List ℕ) (h : RecordHead) → next_of o s ≡ Ok (Some h) → Whole o s h
whole o s h e = rw e at (told o s)

pub none_left : (o : ByteOrder) (s : List ℕ) → next_of o s ≡ Ok None → length s ≡ 0
none_left o s e = rw e at (told o s)

-- a record that is refused is cut, and then less than one is left, or has too many bytes
pub refused : (o : ByteOrder) (s : List ℕ) (r : Refusal) → next_of o s ≡ Err r → Told o s (Err r)
refused o s r e = rw e at (told o s)

-- More bytes behind

pub long-append : (o : ByteOrder) (s t : List ℕ) (i : ℕ) → i + 4 ≤ length s → long_in o (s ++ t) i ≡ long_in o s i
long-append o s t i h = go o
  where
    byte : (j : ℕ) → j < length s → get_or (s ++ t) j 0 ≡ get_or s j 0
    byte j k = get_or-append s t 0 j k

    go : (o : ByteOrder) → long_in o (s ++ t) i ≡ long_in o s i
    go LowFirst = rw (byte (i + 3) (omega arith), byte (i + 2) (omega arith), byte (i + 1) (omega arith), byte i (omega arith))
    go HighFirst = rw (byte i (omega arith), byte (i + 1) (omega arith), byte (i + 2) (omega arith), byte (i + 3) (omega arith))

pub head_append : (o : ByteOrder) (s t : List ℕ) → 16 ≤ length s → head_of o (s ++ t) ≡ head_of o s
unfolding head_of
head_append o s t h =
    rw (long-append o s t 0 (omega arith), long-append o s t 4 (omega arith), long-append o s t 8 (omega arith), long-append o s t 12 (omega arith))

module _ (o : ByteOrder) (s t : List ℕ) (h : RecordHead) (e : next_of o s ≡ Ok (Some h)) where
  known : Whole o s h
  known = whole o s h e

  -- a whole record stays the record that it is
  pub next-append : next_of o (s ++ t) ≡ Ok (Some h)
  next-append =
      let l = length-append s t in
      next_headed o (s ++ t) (omega (arith, known.fits)) ∙ ap (λ (k : RecordHead). bodied k (length (s ++ t) - 16)) (head_append o s t (omega (arith, known.fits)) ∙ known.head)
      ∙ body_whole h (length (s ++ t) - 16) known.most (omega (arith, known.fits))

  pub packet-append : packet_of h (s ++ t) ≡ packet_of h s
  packet-append =
      rw (drop-append-le 16 s t (omega (arith, known.fits)))
      (take-append-le h.captured (drop 16 s) t (omega (arith, length-drop 16 s, known.fits)))

-- what no capture has stays that
pub bad_append : (o : ByteOrder) (s t : List ℕ) → next_of o s ≡ Err BadCapture → next_of o (s ++ t) ≡ Err BadCapture
bad_append o s t e = go (refused o s BadCapture e)
  where
    go : Told o s (Err BadCapture) → next_of o (s ++ t) ≡ Err BadCapture
    go (inl k) = absurd (let z : ◌≡◌ {A = ℕ} 15 14 = ap number_of k.0 in omega arith)
    go (inr k) =
        let same = head_append o s t k.1.0 in
        next_headed o (s ++ t) (omega (arith, k.1.0, length-append s t))
        ∙ body_over (head_of o (s ++ t)) (length (s ++ t) - 16) (rw same k.1.1)
