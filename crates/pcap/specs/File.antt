-- Document 02, Item 3, and the classic pcap format: the file header of a capture, and numbers in either byte order.
-- Assumes nothing.
use Rattle.std.specs.Prelude.{ℕ, ◌+◌, List, Bool, cond, length, ltb, eqb, Option, None, Some}
use Rattle.segment.specs.Bytes.{byte_at, long, long_at}
use Rattle.pcap.specs.declared.file.ByteOrder.{ByteOrder}
use Rattle.pcap.specs.declared.file.ByteOrder.TheVariants.{LowFirst, HighFirst}

-- how many bytes the file header has
abbrev pub file_header : ℕ
file_header = 24

-- what it begins with, read in the file's own byte order
abbrev pub magic : ℕ
magic = 0xA1B2C3D4

-- the link type of raw IP packets
abbrev pub raw_ip : ℕ
raw_ip = 101

-- the number of four bytes from i on
abbrev pub long_in : ByteOrder → List ℕ → ℕ → ℕ
long_in LowFirst s i = long (byte_at s (i + 3)) (byte_at s (i + 2)) (byte_at s (i + 1)) (byte_at s i)
long_in HighFirst s i = long_at s i

-- a file in this byte order is of raw IP packets: the whole word counts
unfoldable pub linked : ByteOrder → List ℕ → Option ByteOrder
linked o s = cond (eqb (long_in o s 20) raw_ip) (Some o) None

-- whether a file begins with the magic number in a byte order
abbrev pub begins : ByteOrder → List ℕ → Bool
begins o s = eqb (long_in o s 0) magic

-- the file header: short, of another magic number or link type it is bad
unfoldable pub header_of : List ℕ → Option ByteOrder
header_of s = cond (ltb (length s) file_header) None (cond (begins LowFirst s) (linked LowFirst s) (cond (begins HighFirst s) (linked HighFirst s) None))
