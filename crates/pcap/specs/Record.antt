-- Document 02, Item 3, and the classic pcap format: what stands at a place of a capture.
-- Assumes nothing.
use Rattle.std.specs.Prelude.{ℕ, ◌-◌, List, cond, length, drop, ltb, eqb, Option, None, Some, Result, Ok, Err}
use Rattle.segment.specs.declared.refusal.Refusal.{Refusal}
use Rattle.segment.specs.declared.refusal.Refusal.TheVariants.{CutRecord, BadCapture}
use Rattle.segment.specs.Refusal.{Check, all_clear}
use Rattle.pcap.specs.File.{file_header, long_in, header_of}
use Rattle.pcap.specs.declared.file.ByteOrder.{ByteOrder}
use Rattle.pcap.specs.declared.record.RecordHead.{RecordHead}

-- how many bytes a record's header has, and the most of a packet
abbrev pub record_header : ℕ
record_header = 16

abbrev pub most_captured : ℕ
most_captured = 4096

-- the header at the start of what is left of a capture
unfoldable pub head_of : ByteOrder → List ℕ → RecordHead
head_of o s = record { seconds = long_in o s 0; micros = long_in o s 4; captured = long_in o s 8; original = long_in o s 12 }

-- what comes next: a whole record's header, nothing at the end, or the refusal that ends the walk
abbrev pub Found : Type 0
Found = Result (Option RecordHead) Refusal

-- a record with this header, and so many bytes behind it: 15 for too many bytes comes before 14 for cut ones
unfoldable pub bodied : RecordHead → ℕ → Found
bodied h n = cond (ltb most_captured h.captured) (Err BadCapture) (cond (ltb n h.captured) (Err CutRecord) (Ok (Some h)))

-- what is left of a capture begins with a whole record, or is nothing, or is refused
unfoldable pub next_of : ByteOrder → List ℕ → Found
next_of o s = cond (eqb (length s) 0) (Ok None) (cond (ltb (length s) record_header) (Err CutRecord) (bodied (head_of o s) (length s - record_header)))

-- the refusal that the end of a walk comes to
abbrev pub check_of : Found → Check
check_of (Ok _) = all_clear
check_of (Err r) = Err r

-- the first record stands behind the file header
abbrev pub place_from : ℕ → ℕ
place_from at = cond (ltb at file_header) file_header at

abbrev pub next_behind : Option ByteOrder → List ℕ → ℕ → Found
next_behind None s at = Err BadCapture
next_behind (Some o) s at = next_of o (drop (place_from at) s)

-- the reader: what stands at a place of a whole capture
unfoldable pub next_in : List ℕ → ℕ → Found
next_in s at = next_behind (header_of s) s at
