-- Document 02, Item 3: all records of a capture, and how it ends: well, or with 14 or 15 behind the whole records before it.
-- Assumes nothing.
use Rattle.std.specs.Prelude.{ℕ, zero, suc, ◌+◌, ◌-◌, ◌≡◌, List, [], ◌∷◌, take, drop, Err, Option, None, Some, Ok}
use Rattle.segment.specs.declared.refusal.Refusal.TheVariants.{BadCapture}
use Rattle.segment.specs.Refusal.{Check, all_clear}
use Rattle.pcap.specs.File.{file_header, header_of}
use Rattle.pcap.specs.Record.{record_header, Found, next_of, place_from, next_in}
use Rattle.pcap.specs.declared.file.ByteOrder.{ByteOrder}
use Rattle.pcap.specs.declared.record.RecordHead.{RecordHead}

-- a record: its time, the packet's original length, and the bytes that were captured of it
pub record Recorded : Type 0 where
  pub seconds : ℕ
  pub micros : ℕ
  pub original : ℕ
  pub packet : List ℕ

-- the packet of the record at the start of what is left
abbrev pub packet_of : RecordHead → List ℕ → List ℕ
packet_of h s = take h.captured (drop record_header s)

abbrev pub recorded_as : RecordHead → List ℕ → Recorded
recorded_as h s = record { seconds = h.seconds; micros = h.micros; original = h.original; packet = packet_of h s }

-- how many bytes of what is left are read
abbrev pub size_of : Found → ℕ
size_of (Ok (Some h)) = record_header + h.captured
size_of (Ok None) = 0
size_of (Err r) = 0

-- the records, and what the walk's end comes to
pub record Walk : Type 0 where
  pub records : List Recorded
  pub check : Check

-- a record goes before those of the later walk; all else ends the walk
abbrev pub joined : Found → List ℕ → Walk → Walk
joined (Ok (Some h)) s later = record { records = recorded_as h s ∷ later.records; check = later.check }
joined (Ok None) s later = record { records = []; check = all_clear }
joined (Err r) s later = record { records = []; check = Err r }

-- what comes before the bytes of the next record is passed over, byte by byte
unfoldable pub walk : ByteOrder → ℕ → List ℕ → Walk
walk o k [] = record { records = []; check = all_clear }
walk o (suc k) (b ∷ s) = walk o k s
walk o zero (b ∷ s) = let n = next_of o (b ∷ s) in joined n (b ∷ s) (walk o (size_of n - 1) s)

abbrev pub walk_behind : Option ByteOrder → List ℕ → Walk
walk_behind None s = record { records = []; check = Err BadCapture }
walk_behind (Some o) s = walk o file_header s

-- the walk over a whole capture
unfoldable pub capture : List ℕ → Walk
capture s = walk_behind (header_of s) s

-- The reader, from place to place, gives the walk: the first record stands where place 0 leads, and what stands at a place goes before the walk from the
-- place behind it. Where the file header is bad there is neither.
pub record ReaderWalks (s : List ℕ) (o : ByteOrder) : Type 0 where
  pub first : capture s ≡ walk o 0 (drop (place_from 0) s)
  pub next : (at : ℕ) → walk o 0 (drop (place_from at) s)
      ≡ joined (next_in s at) (drop (place_from at) s) (walk o 0 (drop (place_from at + size_of (next_in s at)) s))
