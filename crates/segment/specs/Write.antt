-- RFC 9293, 3.1, RFC 7413, 4.1.1 and 9, document 01, "Answer" and "Client", and document 02, Item 4: the segments that are written.
-- Assumes nothing.
use Rattle.std.specs.Prelude.{ℕ, ◌+◌, ◌-◌, ◌*◌, ◌/◌, ◌%◌, Bool, true, false, cond, not, ◌&&◌, ◌||◌, List, [], ◌∷◌, ◌++◌, length, replicate, ◌==◌, nat_le}
use Rattle.segment.specs.Bytes.{be16, be32}
use Rattle.segment.specs.Header.{SYN, ACK, longest_segment}
use Rattle.segment.specs.Options.{is_cookie_length}
use Rattle.segment.specs.Checksum.{complement, one_family, segment_sum}
use Rattle.segment.specs.Sequence.{next_after, window}
use Rattle.segment.specs.declared.options.Coding.{Coding}
use Rattle.segment.specs.declared.options.Coding.TheVariants.{New, Older}
use Rattle.segment.specs.declared.write.Outgoing.{Outgoing}
use Rattle.segment.specs.declared.write.SynAck.{SynAck}
use Rattle.segment.specs.declared.write.Opening.{Opening}

-- kind 2, length 4 and the maximum segment size
abbrev pub mss_bytes : ℕ → List ℕ
mss_bytes mss = 2 ∷ 4 ∷ be16 mss

-- what stands before a cookie of n bytes: kind and length, and in the older coding the two bytes of the experiment
abbrev pub prefix_bytes : Coding → ℕ → List ℕ
prefix_bytes New n = 34 ∷ (n + 2) ∷ []
prefix_bytes Older n = 254 ∷ (n + 4) ∷ 0xF9 ∷ 0x89 ∷ []

-- the Fast Open option in a coding; an empty cookie is a request
abbrev pub fast_open_bytes : Coding → List ℕ → List ℕ
fast_open_bytes c cookie = prefix_bytes c (length cookie) ++ cookie

-- whether a segment may have these options: a Fast Open option has no cookie (a request) or one of a cookie's length
unfoldable pub option_allowed : Bool → ℕ → Bool
option_allowed fast n = not fast || (n == 0 || is_cookie_length n)

-- how many bytes of kind 1 follow n bytes of options, up to a multiple of four
abbrev pub padding : ℕ → ℕ
padding n = (4 - n % 4) % 4

abbrev pub padded : List ℕ → List ℕ
padded options = options ++ replicate (padding (length options)) 1

-- the option area: the MSS option and, if there is to be one, the Fast Open option
unfoldable pub option_bytes : ℕ → Bool → Coding → List ℕ → List ℕ
option_bytes mss false c cookie = mss_bytes mss
option_bytes mss true c cookie = padded (mss_bytes mss ++ fast_open_bytes c cookie)

-- how many bytes the area has with a cookie of n bytes: here of zeros, and with MSS 0, but it is the same for all (law `options-length`)
unfoldable pub option_length : Bool → Coding → ℕ → ℕ
option_length fast c n = length (option_bytes 0 fast c (replicate n 0))

-- the header with a data offset and a checksum; window 65,535, urgent 0
unfoldable pub header_bytes : Outgoing → ℕ → ℕ → List ℕ
header_bytes f offset check =
    be16 f.source ++ be16 f.dest ++ be32 f.seq ++ be32 f.ack
    ++ (offset * 16 ∷ f.flags ∷ []) ++ be16 window ++ be16 check ++ be16 0

-- a header with a checksum before its options and payload
unfoldable pub segment_with : Outgoing → ℕ → List ℕ → List ℕ → List ℕ
segment_with f check options payload = header_bytes f ((20 + length options) / 4) check ++ (options ++ payload)

-- the segment with its checksum: the complement of the sum in which the checksum is 0
unfoldable pub segment_bytes : List ℕ → List ℕ → Outgoing → List ℕ → List ℕ → List ℕ
segment_bytes src dst f options payload =
    segment_with f (complement (segment_sum src dst (segment_with f 0 options payload))) options payload

-- the option area of a segment to be written
abbrev pub options_for : Outgoing → List ℕ → List ℕ
options_for f cookie = option_bytes f.mss f.fast f.coding cookie

-- how many bytes the segment has
abbrev pub length_for : Outgoing → List ℕ → List ℕ → ℕ
length_for f cookie payload = 20 + length (options_for f cookie) + length payload

-- A segment is written where its addresses are of one family, it may have its options, it has no more than the 1,520 bytes that are
-- read, and the output is long enough for it.
unfoldable pub can_write : List ℕ → List ℕ → Outgoing → List ℕ → List ℕ → ℕ → Bool
can_write src dst f cookie payload out_len =
    one_family src dst
    && (option_allowed f.fast (length cookie)
    && (nat_le (length_for f cookie payload) longest_segment && nat_le (length_for f cookie payload) out_len))

-- the bytes that are written to an output of this length; none where the segment is not written
unfoldable pub written : List ℕ → List ℕ → Outgoing → List ℕ → List ℕ → ℕ → List ℕ
written src dst f cookie payload out_len =
    cond (can_write src dst f cookie payload out_len) (segment_bytes src dst f (options_for f cookie) payload) []

-- "Answer": SYN and ACK, our initial number, their number + 1 + accepted, and a cookie, in a coding, if it is fresh
abbrev pub syn_ack_fields : SynAck → Outgoing
syn_ack_fields a =
    record {
      source = a.source;
      dest = a.dest;
      seq = a.iss;
      ack = next_after a.irs a.accepted;
      flags = SYN + ACK;
      mss = a.mss;
      fast = a.fresh;
      coding = a.coding;
    }

unfoldable pub syn_ack_bytes : List ℕ → List ℕ → SynAck → List ℕ → ℕ → List ℕ
syn_ack_bytes src dst a cookie out_len = written src dst (syn_ack_fields a) cookie [] out_len

-- the longest SYN-ACK: a header of 20 bytes, the MSS option of 4 and a Fast Open option of 12 with its padding
abbrev pub longest_syn_ack : ℕ
longest_syn_ack = 36

-- how many bytes it has where it is written: 36 with a fresh cookie of 8, 24 without
abbrev pub syn_ack_length : Bool → ℕ
syn_ack_length false = 24
syn_ack_length true = longest_syn_ack

-- "Client": SYN, our initial number, acknowledgement 0, and a Fast Open option, always in the new coding, if there is to be one
abbrev pub opening_fields : Opening → Outgoing
opening_fields o =
    record {
      source = o.source;
      dest = o.dest;
      seq = o.iss;
      ack = 0;
      flags = SYN;
      mss = o.mss;
      fast = o.fast;
      coding = New;
    }

unfoldable pub opening_bytes : List ℕ → List ℕ → Opening → List ℕ → List ℕ → ℕ → List ℕ
opening_bytes src dst o cookie payload out_len = written src dst (opening_fields o) cookie payload out_len

-- The output that an opening asks for: a header of 20 bytes, options of 24 with the longest cookie, and 1,460 bytes of data. (The client,
-- which takes the options off the data, sends none that long.)
abbrev pub longest_opening : ℕ
longest_opening = 1504
