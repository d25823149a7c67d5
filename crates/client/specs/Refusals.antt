-- Document 01, "Numbers returned" and "Client": the checks of each call, and the refusal that they come to.
-- Assumes nothing.
use Rattle.std.specs.Prelude.{ℕ, List, [], ◌∷◌, ◌++◌, Bool, not, ◌&&◌, ltb, leb, eqb, Result, Err, Ok}
use Rattle.segment.specs.Refusal.{Checks, refusal}
use Rattle.segment.specs.Header.{malformed, fields_of, is_syn_ack}
use Rattle.segment.specs.Options.{least_mss, most_mss}
use Rattle.segment.specs.Write.{longest_opening}
use Rattle.segment.specs.Checksum.{checksum_right}
use Rattle.segment.specs.Sequence.{acknowledged}
use Rattle.segment.specs.declared.refusal.Refusal.{Refusal}
use Rattle.segment.specs.declared.refusal.Refusal.TheVariants.{Format, Checksum, Port, Flags, Sequence, Output, Range}
use Rattle.segment.specs.Refusal.{Check}
use Rattle.segment.specs.declared.header.Header.{Header}
use Rattle.endpoint.specs.Checks.{is_untimely, timely, addressed}
use Rattle.endpoint.specs.declared.address.Family.{Family}
use Rattle.client.specs.Call.{Call, connect, answer, failed}
use Rattle.client.specs.declared.outcome.Attempt.{Attempt}
use Rattle.client.specs.declared.state.Memory.{Memory}

-- the most bytes of data that an attempt may have sent
abbrev pub most_sent : ℕ
most_sent = 1460

-- not 12: own MSS is 536 to 1,460
unfoldable pub is_mss : ℕ → Bool
is_mss mss = leb least_mss mss && leb mss most_mss

-- not 4: both ports are the attempt's
unfoldable pub is_between : Attempt → Header → Bool
is_between a h = eqb h.source a.dest && eqb h.dest a.source

-- the acknowledged count: acknowledgement − our number − 1, modulo 2^32
abbrev pub count_in : Attempt → Header → ℕ
count_in a h = acknowledged a.iss h.ack

-- 13, 5, and 2 for both addresses
abbrev pub pair_checks : Bool → Family → Bool → List ℕ → List ℕ → Checks
pair_checks started f untimely own server = timely started untimely ++ addressed f own ++ addressed f server

-- 11: an output of under 1,504 bytes
abbrev pub open_checks : Bool → Family → Bool → List ℕ → List ℕ → ℕ → ℕ → Checks
open_checks started f untimely own server mss out_len =
    pair_checks started f untimely own server ++ ((Output, ltb out_len longest_opening) ∷ (Range, not (is_mss mss)) ∷ [])

-- of the segment, which goes from the server to us
abbrev pub wire_checks : List ℕ → List ℕ → Attempt → List ℕ → Checks
wire_checks own server a seg =
    (Format, malformed seg) ∷ (Checksum, not (checksum_right server own seg)) ∷ (Port, not (is_between a (fields_of seg))) ∷ []

-- as an answer to the attempt: bytes sent above 1,460 are 12, a count above the bytes sent is 10
abbrev pub reply_checks : Attempt → Header → Checks
reply_checks a h = (Flags, not (is_syn_ack h.flags)) ∷ (Range, ltb most_sent a.sent) ∷ (Sequence, ltb a.sent (count_in a h)) ∷ []

abbrev pub answer_checks : Bool → Family → Bool → List ℕ → List ℕ → Attempt → List ℕ → Checks
answer_checks started f untimely own server a seg =
    pair_checks started f untimely own server ++ wire_checks own server a seg ++ reply_checks a (fields_of seg)

-- the checks of a call
abbrev pub checks : Memory → Call → Checks
checks m (connect t own server o offered out_len) = open_checks m.started m.family (is_untimely m.clock t) own server o.mss out_len
checks m (answer t own server a seg g) = answer_checks m.started m.family (is_untimely m.clock t) own server a seg
checks m (failed t server port) = timely m.started (is_untimely m.clock t) ++ addressed m.family server

-- what they come to: the first refusal, in 01's order, that applies
unfoldable pub call_check : Memory → Call → Check
call_check m c = refusal (checks m c)

-- an answer that is not refused has its acknowledged count
abbrev pub reply_from : Check → Attempt → Header → Result ℕ Refusal
reply_from (Ok _) a h = Ok (count_in a h)
reply_from (Err r) a h = Err r
