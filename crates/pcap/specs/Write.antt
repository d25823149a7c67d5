-- Document 02, Item 3, and the classic pcap format: captures that are written, and the same in the other byte order, for the reader.
-- Assumes nothing.
use Rattle.std.specs.Prelude.{ℕ, ◌+◌, ◌/◌, ◌%◌, ◌≤◌, ◌<◌, ◌^◌, ◌≡◌, length, ltb, Result, Err, Ok}
use mathlib.Core.List.{List, [], ◌∷◌, ◌++◌, flat_map}
use Rattle.segment.specs.Bytes.{be16, be32}
use Rattle.segment.specs.Refusal.{refusal, Check, all_clear}
use Rattle.segment.specs.declared.refusal.Refusal.{Refusal}
use Rattle.segment.specs.declared.refusal.Refusal.TheVariants.{Output, BadCapture}
use Rattle.pcap.specs.File.{file_header, magic, raw_ip}
use Rattle.pcap.specs.Record.{record_header, most_captured}
use Rattle.pcap.specs.Records.{Recorded, capture}
use Rattle.pcap.specs.declared.file.ByteOrder.{ByteOrder}
use Rattle.pcap.specs.declared.file.ByteOrder.TheVariants.{LowFirst, HighFirst}

-- the low 16 bits of a number as two bytes, and the low 32 as four
abbrev pub short_bytes : ByteOrder → ℕ → List ℕ
short_bytes LowFirst x = x % 256 ∷ x / 256 % 256 ∷ []
short_bytes HighFirst x = be16 x

abbrev pub long_bytes : ByteOrder → ℕ → List ℕ
long_bytes LowFirst x = x % 256 ∷ x / 256 % 256 ∷ x / 65536 % 256 ∷ x / 16777216 % 256 ∷ []
long_bytes HighFirst x = be32 x

-- magic number, version in two halves, zone, accuracy, most bytes of a packet, link type
unfoldable pub file_header_in : ByteOrder → List ℕ
file_header_in o = long_bytes o magic ++ (short_bytes o 2 ++ (short_bytes o 4 ++ (long_bytes o 0 ++ (long_bytes o 0 ++ (long_bytes o most_captured ++ long_bytes o raw_ip)))))

unfoldable pub head_in : ByteOrder → ℕ → ℕ → ℕ → ℕ → List ℕ
head_in o seconds micros captured original = long_bytes o seconds ++ (long_bytes o micros ++ (long_bytes o captured ++ long_bytes o original))

abbrev pub record_in : ByteOrder → Recorded → List ℕ
record_in o r = head_in o r.seconds r.micros (length r.packet) r.original ++ r.packet

-- What is written is low byte first

abbrev pub file_header_bytes : List ℕ
file_header_bytes = file_header_in LowFirst

abbrev pub head_bytes : ℕ → ℕ → ℕ → ℕ → List ℕ
head_bytes seconds micros captured original = head_in LowFirst seconds micros captured original

abbrev pub record_bytes : ℕ → ℕ → ℕ → List ℕ → List ℕ
record_bytes seconds micros original packet = record_in LowFirst (record { seconds = seconds; micros = micros; original = original; packet = packet })

-- 11: no room for the file header
abbrev pub file_check : ℕ → Check
file_check room = refusal ((Output, ltb room file_header) ∷ [])

-- 15: a packet of over 4,096 bytes. 11: no room for the record
abbrev pub record_check : ℕ → ℕ → Check
record_check n room = refusal ((BadCapture, ltb most_captured n) ∷ (Output, ltb room (record_header + n)) ∷ [])

-- what is written: nothing where it is refused
abbrev pub put_by : Check → List ℕ → List ℕ
put_by (Ok _) bytes = bytes
put_by (Err r) bytes = []

-- what a write comes to: how many bytes it wrote, or why it is refused
abbrev pub writing : Check → List ℕ → Result ℕ Refusal
writing (Ok _) bytes = Ok (length bytes)
writing (Err r) bytes = Err r

-- A record fits: its numbers are of 32 bits, and its packet has up to 4,096 bytes
pub record Fits (r : Recorded) : Type 0 where
  pub seconds : r.seconds < 2 ^ 32
  pub micros : r.micros < 2 ^ 32
  pub original : r.original < 2 ^ 32
  pub packet : length r.packet ≤ most_captured

-- a file header and records behind it, in a byte order
abbrev pub capture_in : ByteOrder → List Recorded → List ℕ
capture_in o rs = file_header_in o ++ flat_map (record_in o) rs

-- the walk over it gives the same records, and ends well
abbrev pub ReadsBack : ByteOrder → List Recorded → Type 0
ReadsBack o rs = capture (capture_in o rs) ≡ record { records = rs; check = all_clear }
