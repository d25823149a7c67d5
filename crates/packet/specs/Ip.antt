-- Document 02, Item 3, RFC 791, 3.1, and RFC 8200, 3: whole packets with TCP, their addresses and their segment.
-- Assumes nothing.
use Rattle.std.specs.Prelude.{ℕ, ◌+◌, ◌*◌, ◌/◌, ◌%◌, List, [], Bool, cond, ◌&&◌, leb, eqb, length, take, drop, Option, None, Some}
use Rattle.lists.specs.Bytes.{same_bytes}
use Rattle.segment.specs.Bytes.{byte_at, word_at}
use Rattle.segment.specs.Checksum.{protocol}
use Rattle.endpoint.specs.Address.{size, block}
use Rattle.endpoint.specs.declared.address.Family.{Family}
use Rattle.endpoint.specs.declared.address.Family.TheVariants.{V4, V6}

-- the least length of a header; in IPv6, without extension headers, the only one
abbrev pub least_header : Family → ℕ
least_header V4 = 20
least_header V6 = 40

abbrev pub version : List ℕ → ℕ
version p = byte_at p 0 / 16

-- how many bytes the header has: in IPv4 it says so itself, in words of four
unfoldable pub header_length : Family → List ℕ → ℕ
header_length V4 p = 4 * (byte_at p 0 % 16)
header_length V6 p = least_header V6

-- IPv4: at least 20 bytes of header inside the packet, whose total length is its own; no more fragments (the bit of value 32 in byte 6) and offset 0; TCP
unfoldable pub is_whole_v4 : List ℕ → Bool
is_whole_v4 p =
    leb (least_header V4) (length p)
    && (eqb (version p) 4
    && (leb (least_header V4) (4 * (byte_at p 0 % 16))
    && (leb (4 * (byte_at p 0 % 16)) (length p)
    && (eqb (word_at p 2) (length p) && (eqb (byte_at p 6 % 64) 0 && (eqb (byte_at p 7) 0 && eqb (byte_at p 9) protocol))))))

-- IPv6: payload length + 40 is the packet's own length; the next header is TCP's
unfoldable pub is_whole_v6 : List ℕ → Bool
is_whole_v6 p = leb (least_header V6) (length p) && (eqb (version p) 6 && (eqb (word_at p 4 + least_header V6) (length p) && eqb (byte_at p 6) protocol))

abbrev pub is_whole : Family → List ℕ → Bool
is_whole V4 p = is_whole_v4 p
is_whole V6 p = is_whole_v6 p

-- the source and, behind it, the destination address
abbrev pub source_at : Family → ℕ
source_at V4 = 12
source_at V6 = 8

abbrev pub source_of : Family → List ℕ → List ℕ
source_of f p = take (size f) (drop (source_at f) p)

abbrev pub dest_of : Family → List ℕ → List ℕ
dest_of f p = take (size f) (drop (source_at f + size f) p)

-- a whole packet with TCP to the address of a family with this block
unfoldable pub is_to : Family → List ℕ → List ℕ → Bool
is_to f own p = is_whole f p && same_bytes (block (dest_of f p)) own

-- where its segment begins; all other packets are skipped
unfoldable pub carried_to : Family → List ℕ → List ℕ → Option ℕ
carried_to f own p = cond (is_to f own p) (Some (header_length f p)) None

-- the segment
abbrev pub tcp_of : List ℕ → Option ℕ → List ℕ
tcp_of p (Some start) = drop start p
tcp_of p None = []
