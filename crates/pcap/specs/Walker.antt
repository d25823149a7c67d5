-- Document 02, Item 3: a capture that is read in pieces. The bytes in hand are those that the last step left and, behind them, the next piece.
-- Assumes nothing.
use Rattle.std.specs.Prelude.{ℕ, zero, suc, ◌+◌, ◌-◌, ◌<◌, ◌^◌, ◌≡◌, Bool, cond, ◌&&◌, length, drop, ltb, Err, Option, None, Some, Ok}
use mathlib.Core.List.{List, [], ◌∷◌, ◌++◌, flatten}
use Rattle.segment.specs.declared.refusal.Refusal.TheVariants.{CutRecord, BadCapture}
use Rattle.segment.specs.Refusal.{Check, all_clear}
use Rattle.pcap.specs.File.{file_header, header_of}
use Rattle.pcap.specs.Record.{record_header, most_captured, Found, next_of, check_of}
use Rattle.pcap.specs.Records.{Recorded, recorded_as, capture}
use Rattle.pcap.specs.declared.file.ByteOrder.{ByteOrder}
use Rattle.pcap.specs.declared.walker.Walker.{Walker}
use Rattle.pcap.specs.declared.walker.Taken.{Taken}
use Rattle.pcap.specs.declared.walker.Taken.TheVariants.{Opened, Record, More, Bad, TooLong}
use Rattle.pcap.specs.declared.walker.Step.{Step}

abbrev pub fresh : Walker
fresh = record { order = None; bytes = 0; records = 0 }

-- counts are of 64 bits: so many bytes more, and a record more, can be counted
unfoldable pub has_room : Walker → ℕ → Bool
has_room w n = ltb (w.records + 1) (2 ^ 64) && ltb (w.bytes + n) (2 ^ 64)

-- and all that is left of a capture can be
pub record Counts (w : Walker) (left : ℕ) : Type 0 where
  pub records : w.records + left < 2 ^ 64
  pub bytes : w.bytes + left < 2 ^ 64

-- A step, on the bytes in hand

abbrev pub opened_by : Walker → Option ByteOrder → Taken
opened_by w None = Bad
opened_by w (Some o) = cond (has_room w file_header) (Opened o) TooLong

unfoldable pub header_taken : Walker → List ℕ → Taken
header_taken w s = cond (ltb (length s) file_header) More (opened_by w (header_of s))

abbrev pub next_taken : Walker → Found → Taken
next_taken w (Ok (Some h)) = cond (has_room w (record_header + h.captured)) (Record h) TooLong
next_taken w (Ok None) = More
next_taken w (Err CutRecord) = More
next_taken w (Err r) = Bad

unfoldable pub record_taken : Walker → ByteOrder → List ℕ → Taken
record_taken w o s = next_taken w (next_of o s)

abbrev pub taken_at : Walker → Option ByteOrder → List ℕ → Taken
taken_at w None s = header_taken w s
taken_at w (Some o) s = record_taken w o s

abbrev pub taken_of : Walker → List ℕ → Taken
taken_of w s = taken_at w w.order s

-- how many bytes it takes
abbrev pub size_taken : Taken → ℕ
size_taken (Opened o) = file_header
size_taken (Record h) = record_header + h.captured
size_taken More = 0
size_taken Bad = 0
size_taken TooLong = 0

abbrev pub walker_after : Walker → Taken → Walker
walker_after w (Opened o) = record { order = Some o; bytes = w.bytes + file_header; records = w.records }
walker_after w (Record h) = record { order = w.order; bytes = w.bytes + (record_header + h.captured); records = w.records + 1 }
walker_after w More = w
walker_after w Bad = w
walker_after w TooLong = w

abbrev pub step_by : Walker → Taken → ℕ → Step
step_by w t at = record { taken = t; walker = walker_after w t; next = at + size_taken t }

-- at a place of a window
unfoldable pub step_of : Walker → List ℕ → ℕ → Step
step_of w window at = step_by w (taken_of w (drop at window)) at

-- The end of the input, with these bytes in hand

abbrev pub header_check : Option ByteOrder → Check
header_check None = Err BadCapture
header_check (Some o) = all_clear

abbrev pub finish_at : Option ByteOrder → List ℕ → Check
finish_at None s = header_check (header_of s)
finish_at (Some o) s = check_of (next_of o s)

unfoldable pub finish_of : Walker → List ℕ → Check
finish_of w s = finish_at w.order s

-- All steps that the bytes in hand allow: the records, the walker then, and the bytes that are left

pub record Drained : Type 0 where
  pub records : List Recorded
  pub walker : Walker
  pub rest : List ℕ

abbrev pub stopped : Walker → List ℕ → Drained
stopped w s = record { records = []; walker = w; rest = s }

abbrev pub drained_by : Walker → Taken → List ℕ → Drained → Drained
drained_by w (Opened o) s later = later
drained_by w (Record h) s later = record { records = recorded_as h s ∷ later.records; walker = later.walker; rest = later.rest }
drained_by w More s later = stopped w s
drained_by w Bad s later = stopped w s
drained_by w TooLong s later = stopped w s

-- what a step took is passed over, byte by byte
unfoldable pub drain : Walker → ℕ → List ℕ → Drained
drain w k [] = stopped w []
drain w (suc k) (b ∷ s) = drain w k s
drain w zero (b ∷ s) = let t = taken_of w (b ∷ s) in drained_by w t (b ∷ s) (drain (walker_after w t) (size_taken t - 1) s)

abbrev pub after : List Recorded → Drained → Drained
after rs d = record { records = rs ++ d.records; walker = d.walker; rest = d.rest }

-- The pieces of a capture, one after the other, each behind the bytes that the one before it left
unfoldable pub fed : Walker → List ℕ → List (List ℕ) → Drained
fed w held [] = drain w 0 held
fed w held (p ∷ ps) = let d = drain w 0 (held ++ p) in after d.records (fed d.walker d.rest ps)

-- a walker that cannot go on needs more bytes, or the walk is over
abbrev pub Stands : Taken → Type 0
Stands (Opened o) = ⊥
Stands (Record h) = ⊥
Stands More = Unit {0}
Stands Bad = Unit {0}
Stands TooLong = Unit {0}

-- They give what the walk over the whole gives. The walker's count of records is the place of the next one, its count of bytes lacks those that are left; it
-- has gone as far as it can, and where it needs more it keeps less than one record.
pub record SameWalk (pieces : List (List ℕ)) : Type 0 where
  pub records : (fed fresh [] pieces).records ≡ (capture (flatten pieces)).records
  pub check : finish_of (fed fresh [] pieces).walker (fed fresh [] pieces).rest ≡ (capture (flatten pieces)).check
  pub place : (fed fresh [] pieces).walker.records ≡ length (fed fresh [] pieces).records
  pub bytes : (fed fresh [] pieces).walker.bytes + length (fed fresh [] pieces).rest ≡ length (flatten pieces)
  pub stands : Stands (taken_of (fed fresh [] pieces).walker (fed fresh [] pieces).rest)
  pub kept : taken_of (fed fresh [] pieces).walker (fed fresh [] pieces).rest ≡ More → length (fed fresh [] pieces).rest < record_header + most_captured

-- A step at a place of a window is one step of those that its bytes allow.
abbrev pub OneStep : Walker → List ℕ → ℕ → Type 0
OneStep w window at =
    drain w 0 (drop at window)
    ≡ drained_by w (step_of w window at).taken (drop at window) (drain (step_of w window at).walker 0 (drop (step_of w window at).next window))
