-- Records that are written read back, in either byte order. Assumes nothing.
use Rattle.std.specs.Prelude.{Option, None, Some, Ok, Err}
use Rattle.segment.specs.Refusal.{all_clear}
use Prim.Native.Nat.{ℕ, zero, suc, ◌+◌, ◌-◌}
use mathlib.Core.Path.{◌≡◌, refl, sym, ap, ◌∙◌}
use mathlib.Core.List.{List, [], ◌∷◌, ◌++◌, append_assoc, flat_map}
use native.Mathlib.Omega.{arith}
use lib.Seq.{take-append_seam, drop_at, drop-drop, drop-nil}
use lib.ListN.{length, take, drop, length-append}
use Rattle.lists.proofs.Sums.{All}
use Rattle.segment.proofs.ReadBack.{back32}
use Rattle.pcap.specs.File.{linked, header_of}
use Rattle.pcap.specs.Record.{head_of, Found, bodied, next_of, place_from, next_behind, next_in}
use Rattle.pcap.specs.Records.{Recorded, packet_of, size_of, joined, walk, walk_behind, capture, ReaderWalks}
use Rattle.pcap.specs.Write.{head_in, record_in, file_header_in, Fits, ReadsBack}
use Rattle.pcap.specs.declared.file.ByteOrder.{ByteOrder}
use Rattle.pcap.specs.declared.file.ByteOrder.TheVariants.{LowFirst, HighFirst}
use Rattle.pcap.specs.declared.record.RecordHead.{RecordHead}
use Rattle.pcap.proofs.Next.{next_headed, body_whole}
use Rattle.pcap.proofs.Windows.{header-append}
use Rattle.pcap.proofs.Written.{head_length, file_length}

-- A walk, step by step

-- what is passed over is dropped
pub passed : (o : ByteOrder) (s : List ℕ) (k : ℕ) → walk o k s ≡ walk o 0 (drop k s)
unfolding walk
passed o [] k = rw drop-nil
passed o (b ∷ s) zero = refl
passed o (b ∷ s) (suc k) = passed o s k

pub one_step : (o : ByteOrder) (s : List ℕ) → walk o 0 s ≡ joined (next_of o s) s (walk o 0 (drop (size_of (next_of o s)) s))
unfolding walk next_of
one_step o [] = refl
one_step o (b ∷ s) = go (next_of o (b ∷ s)) refl
  where
    go : (n : Found) → next_of o (b ∷ s) ≡ n → walk o 0 (b ∷ s) ≡ joined n (b ∷ s) (walk o 0 (drop (size_of n) (b ∷ s)))
    go (Ok (Some h)) e =
        let k : 16 + h.captured ≡ suc (16 + h.captured - 1) = omega arith in
        let d : drop (16 + h.captured) (b ∷ s) ≡ drop (16 + h.captured - 1) s = ap (λ (n : ℕ). drop n (b ∷ s)) k in
        rw e (ap (joined (Ok (Some h)) (b ∷ s)) (passed o s (16 + h.captured - 1) ∙ ap (walk o 0) (sym d)))
    go (Ok None) e = rw e
    go (Err r) e = rw e

-- A record

module _ (o : ByteOrder) (r : Recorded) (fits : Fits r) (y : List ℕ) where
  head : RecordHead
  head = record { seconds = r.seconds; micros = r.micros; captured = length r.packet; original = r.original }

  -- the header's bytes, and what is behind it
  bytes : List ℕ
  bytes = head_in o r.seconds r.micros (length r.packet) r.original ++ (r.packet ++ y)

  head_back : head_of o bytes ≡ head
  unfolding head_of head_in bytes head
  head_back = go o
    where
      go : (o : ByteOrder) → head_of o (head_in o r.seconds r.micros (length r.packet) r.original ++ (r.packet ++ y)) ≡ head
      go LowFirst =
          rw (back32 r.seconds fits.seconds, back32 r.micros fits.micros, back32 (length r.packet) (omega (arith, fits.packet)), back32 r.original fits.original)
      go HighFirst =
          rw (back32 r.seconds fits.seconds, back32 r.micros fits.micros, back32 (length r.packet) (omega (arith, fits.packet)), back32 r.original fits.original)

  all : length bytes ≡ 16 + (length r.packet + length y)
  unfolding bytes
  all = length-append (head_in o r.seconds r.micros (length r.packet) r.original) (r.packet ++ y)
      ∙ rw (head_length o r.seconds r.micros (length r.packet) r.original, length-append r.packet y)

  next_back : next_of o bytes ≡ Ok (Some head)
  unfolding head
  next_back =
      next_headed o bytes (omega (arith, all)) ∙ ap (λ (h : RecordHead). bodied h (length bytes - 16)) head_back
      ∙ body_whole head (length bytes - 16) fits.packet (omega (arith, all))

  rest_back : drop 16 bytes ≡ r.packet ++ y
  unfolding bytes
  rest_back = drop_at (head_in o r.seconds r.micros (length r.packet) r.original) (r.packet ++ y) 16 (head_length o r.seconds r.micros (length r.packet) r.original)

  packet_back : packet_of head bytes ≡ r.packet
  unfolding head
  packet_back = ap (take (length r.packet)) rest_back ∙ take-append_seam r.packet y

  later_back : drop (16 + length r.packet) bytes ≡ y
  later_back = sym (drop-drop (length r.packet) 16 bytes) ∙ ap (drop (length r.packet)) rest_back ∙ drop_at r.packet y (length r.packet) refl

  -- the walk takes the record, and goes on behind it
  pub record_back : walk o 0 (record_in o r ++ y) ≡ record { records = r ∷ (walk o 0 y).records; check = (walk o 0 y).check }
  unfolding bytes head
  record_back =
      let a : record_in o r ++ y ≡ bytes = append_assoc (head_in o r.seconds r.micros (length r.packet) r.original) r.packet y in
      ap (walk o 0) a ∙ one_step o bytes ∙ rw (next_back, later_back, packet_back)

records_back : (o : ByteOrder) (rs : List Recorded) → All Fits rs → walk o 0 (flat_map (record_in o) rs) ≡ record { records = rs; check = all_clear }
unfolding walk flat_map
records_back o [] h = refl
records_back o (r ∷ rs) h = record_back o r h.0 (flat_map (record_in o) rs) ∙ rw (records_back o rs h.1)

-- the file header is good, in its byte order
file_back : (o : ByteOrder) → header_of (file_header_in o) ≡ Some o
unfolding header_of linked file_header_in
file_back LowFirst = refl
file_back HighFirst = refl

pub read_back : (o : ByteOrder) (rs : List Recorded) → All Fits rs → ReadsBack o rs
unfolding capture
read_back o rs h =
    let s = flat_map (record_in o) rs in
    let g : header_of (file_header_in o ++ s) ≡ Some o = header-append (file_header_in o) s (omega (arith, file_length o)) ∙ file_back o in
    ap (λ (f : Option ByteOrder). walk_behind f (file_header_in o ++ s)) g ∙ passed o (file_header_in o ++ s) 24 ∙ ap (walk o 0) (drop_at (file_header_in o) s 24 (file_length o)) ∙ records_back o rs h

-- The reader, from place to place

pub reader_walks : (s : List ℕ) (o : ByteOrder) → header_of s ≡ Some o → ReaderWalks s o
unfolding capture next_in
reader_walks s o g =
    record {
      first = ap (λ (f : Option ByteOrder). walk_behind f s) g ∙ passed o s 24;
      next =
          λ at.
          let n : next_in s at ≡ next_of o (drop (place_from at) s) = ap (λ (f : Option ByteOrder). next_behind f s at) g in
          one_step o (drop (place_from at) s)
          ∙ ap (λ (x : Found). joined x (drop (place_from at) s) (walk o 0 (drop (size_of x) (drop (place_from at) s)))) (sym n)
          ∙ ap (λ (y : List ℕ). joined (next_in s at) (drop (place_from at) s) (walk o 0 y)) (drop-drop (size_of (next_in s at)) (place_from at) s);
    }
