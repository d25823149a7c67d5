-- RFC 1071, 1, and RFC 9293, 3.1: the sum of 16-bit words, the pseudo-header, and when a checksum is right.
-- Assumes nothing.
use Rattle.std.specs.Prelude.{ℕ, ◌+◌, ◌-◌, ◌/◌, ◌%◌, Bool, cond, ◌&&◌, ◌||◌, List, [], ◌∷◌, ◌++◌, length, ◌==◌}
use Rattle.segment.specs.Bytes.{be16, be32, word}

-- the ones' complement sum of two words: the carry out of the high end is added at the low end
unfoldable pub ones_add : ℕ → ℕ → ℕ
ones_add a b = (a + b) % 65536 + (a + b) / 65536

-- the words of some bytes added to a sum, one after the other; an odd last byte is the high byte of a word. The sum of no bytes, from 0, is 0.
unfoldable pub ones_sum : ℕ → List ℕ → ℕ
ones_sum sum [] = sum
ones_sum sum (a ∷ []) = ones_add sum (word a 0)
ones_sum sum (a ∷ b ∷ rest) = ones_sum (ones_add sum (word a b)) rest

-- a word's ones' complement
abbrev pub complement : ℕ → ℕ
complement sum = 65535 - sum

-- two addresses of 4 bytes, or two of 16
abbrev pub one_family : List ℕ → List ℕ → Bool
one_family src dst = length src == length dst && (length src == 4 || length src == 16)

-- TCP's number among the protocols
abbrev pub protocol : ℕ
protocol = 6

-- what follows the addresses in the pseudo-header: in IPv4 (RFC 9293, 3.1) zero, protocol and length (its low 16 bits); in IPv6 (RFC 8200, 8.1) length,
-- three zeros and protocol
abbrev pub pseudo_tail : Bool → ℕ → List ℕ
pseudo_tail ipv4 len = cond ipv4 (0 ∷ protocol ∷ be16 len) (be32 len ++ (0 ∷ 0 ∷ 0 ∷ protocol ∷ []))

-- the pseudo-header of a segment of len bytes
unfoldable pub pseudo_header : List ℕ → List ℕ → ℕ → List ℕ
pseudo_header src dst len = src ++ (dst ++ pseudo_tail (length src == 4) len)

-- the sum over a segment and its pseudo-header
unfoldable pub segment_sum : List ℕ → List ℕ → List ℕ → ℕ
segment_sum src dst seg = ones_sum 0 (pseudo_header src dst (length seg) ++ seg)

-- the checksum is right: with the field as it stands, the sum is 65,535. Addresses that are not of one family have no right checksum.
unfoldable pub checksum_right : List ℕ → List ℕ → List ℕ → Bool
checksum_right src dst seg = one_family src dst && segment_sum src dst seg == 65535
