-- Document 02, Item 3, RFC 791, 3.1, and RFC 8200, 3: packets that are written around a TCP segment.
-- Assumes nothing.
use Rattle.std.specs.Prelude.{ℕ, ◌+◌, ◌≡◌, List, [], ◌∷◌, ◌++◌, length, take, ltb, Some}
use Rattle.segment.specs.Bytes.{be16, byte_at}
use Rattle.segment.specs.Checksum.{protocol, ones_sum, complement}
use Rattle.segment.specs.Refusal.{refusal}
use Rattle.segment.specs.declared.refusal.Refusal.TheVariants.{Output, BadCapture}
use Rattle.segment.specs.Refusal.{Check}
use Rattle.endpoint.specs.Address.{block}
use Rattle.endpoint.specs.declared.address.Family.{Family}
use Rattle.endpoint.specs.declared.address.Family.TheVariants.{V4, V6}
use Rattle.pcap.specs.Record.{most_captured}
use Rattle.packet.specs.Ip.{least_header, source_of, carried_to, tcp_of}

-- the address at the start of a block: byte by byte, as it is written
abbrev pub four_of : List ℕ → List ℕ
four_of b = byte_at b 0 ∷ byte_at b 1 ∷ byte_at b 2 ∷ byte_at b 3 ∷ []

abbrev pub sixteen_of : List ℕ → List ℕ
sixteen_of b =
    byte_at b 0 ∷ byte_at b 1 ∷ byte_at b 2 ∷ byte_at b 3 ∷ byte_at b 4 ∷ byte_at b 5 ∷ byte_at b 6 ∷ byte_at b 7
    ∷ byte_at b 8 ∷ byte_at b 9 ∷ byte_at b 10 ∷ byte_at b 11 ∷ byte_at b 12 ∷ byte_at b 13 ∷ byte_at b 14 ∷ byte_at b 15 ∷ []

-- time to live, or hop limit
abbrev pub hops : ℕ
hops = 64

-- IPv4: version 4 and a header of five words, type of service 0, total length, identification 0, do not fragment and offset 0, time to live, protocol
abbrev pub before_check : ℕ → List ℕ
before_check n = 0x45 ∷ 0 ∷ be16 (least_header V4 + n) ++ (0 ∷ 0 ∷ 0x40 ∷ 0 ∷ hops ∷ protocol ∷ [])

-- then the checksum and the addresses
unfoldable pub header_v4 : List ℕ → List ℕ → ℕ → ℕ → List ℕ
header_v4 own dst n check = before_check n ++ (be16 check ++ (four_of own ++ four_of dst))

-- the checksum is the complement of the sum in which it is 0
unfoldable pub checked_v4 : List ℕ → List ℕ → ℕ → List ℕ
checked_v4 own dst n = header_v4 own dst n (complement (ones_sum 0 (header_v4 own dst n 0)))

-- IPv6: version 6, traffic class and flow label 0, payload length, next header, hop limit, the addresses
unfoldable pub header_v6 : List ℕ → List ℕ → ℕ → List ℕ
header_v6 own dst n = 0x60 ∷ 0 ∷ 0 ∷ 0 ∷ be16 n ++ (protocol ∷ hops ∷ (sixteen_of own ++ sixteen_of dst))

-- from one block's address to another's
unfoldable pub packet_bytes : Family → List ℕ → List ℕ → List ℕ → List ℕ
packet_bytes V4 own dst tcp = checked_v4 own dst (length tcp) ++ tcp
packet_bytes V6 own dst tcp = header_v6 own dst (length tcp) ++ tcp

-- 15: a packet of over 4,096 bytes, which no record has. 11: no room for it
abbrev pub packet_check : Family → ℕ → ℕ → Check
packet_check f n room = refusal ((BadCapture, ltb most_captured (least_header f + n)) ∷ (Output, ltb room (least_header f + n)) ∷ [])

-- The packet between two addresses of a family is read as one to its destination, with its source and its segment
pub record PacketBack (f : Family) (own dst tcp : List ℕ) : Type 0 where
  pub carried : carried_to f (block dst) (packet_bytes f (block own) (block dst) tcp) ≡ Some (least_header f)
  pub source : source_of f (packet_bytes f (block own) (block dst) tcp) ≡ own
  pub segment : tcp_of (packet_bytes f (block own) (block dst) tcp) (Some (least_header f)) ≡ tcp

-- and the sum over its header, in IPv4, is 65,535
abbrev pub HeaderSum : List ℕ → List ℕ → List ℕ → Type 0
HeaderSum own dst tcp = ones_sum 0 (take (least_header V4) (packet_bytes V4 own dst tcp)) ≡ 65535
