-- RFC 9293, 3.1, and document 01, "Numbers returned" (1), "Options" (the area), "Listener" (kinds of segment), "Client" (an answer): the header.
-- Assumes nothing.
use Rattle.std.specs.Prelude.{ℕ, ◌-◌, ◌*◌, ◌/◌, ◌%◌, Bool, cond, not, ◌&&◌, ◌||◌, List, [], length, take, drop, ◌==◌, nat_lt, Err, None, Option, Some}
use Rattle.segment.specs.Bytes.{byte_at, word_at, long_at}
use Rattle.segment.specs.declared.refusal.Refusal.TheVariants.{Format}
use Rattle.segment.specs.Refusal.{Check, all_clear}
use Rattle.segment.specs.declared.header.Header.{Header}
use Rattle.segment.specs.declared.header.Kind.{Kind}
use Rattle.segment.specs.declared.header.Kind.TheVariants.{Syn, Rst, Ack, Other}

-- the data offset: the header's length in 32-bit words
abbrev pub offset_of : List ℕ → ℕ
offset_of s = byte_at s 12 / 16

-- the header's length in bytes
abbrev pub header_length : List ℕ → ℕ
header_length s = 4 * offset_of s

-- the longest segment that is read or written
abbrev pub longest_segment : ℕ
longest_segment = 1520

-- refusal 1
unfoldable pub malformed : List ℕ → Bool
malformed s = nat_lt (length s) 20 || (nat_lt longest_segment (length s) || (nat_lt (offset_of s) 5 || nat_lt (length s) (header_length s)))

-- the fields of a header that are used
unfoldable pub fields_of : List ℕ → Header
fields_of s =
    record {
      source = word_at s 0;
      dest = word_at s 2;
      seq = long_at s 4;
      ack = long_at s 8;
      offset = offset_of s;
      flags = byte_at s 13;
    }

-- refusal 1, or the header
unfoldable pub shape_of : List ℕ → Option Header
shape_of s = cond (malformed s) None (Some (fields_of s))

-- the check that a shape comes to
abbrev pub shape_check : Option Header → Check
shape_check None = Err Format
shape_check (Some h) = all_clear

-- the option area, from byte 20 to the header's end (at most 40 bytes, by the law `area-most`), and the payload; nothing of a segment that is refused 1
unfoldable pub option_area : List ℕ → List ℕ
option_area s = cond (malformed s) [] (take (header_length s - 20) (drop 20 s))

unfoldable pub payload_of : List ℕ → List ℕ
payload_of s = cond (malformed s) [] (drop (header_length s) s)

-- the control bits, by their weight in the flags
abbrev pub FIN : ℕ
FIN = 1

abbrev pub SYN : ℕ
SYN = 2

abbrev pub RST : ℕ
RST = 4

abbrev pub ACK : ℕ
ACK = 16

-- whether the flags have a control bit
unfoldable pub has : ℕ → ℕ → Bool
has flags bit = flags / bit % 2 == 1

-- `Syn` is 01's opening: SYN, no ACK, RST or FIN. `Rst` is its reset: RST, no SYN. `Ack` is its completion: ACK, no SYN or RST; FIN allowed.
unfoldable pub kind_of : ℕ → Kind
kind_of flags =
    cond (has flags SYN)
    (cond (has flags ACK || (has flags RST || has flags FIN)) Other Syn)
    (cond (has flags RST) Rst (cond (has flags ACK) Ack Other))

-- 01's answer as a client takes it: SYN and ACK, no RST or FIN
unfoldable pub is_syn_ack : ℕ → Bool
is_syn_ack flags = has flags SYN && (has flags ACK && not (has flags RST || has flags FIN))
