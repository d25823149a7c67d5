-- Document 01, "Numbers returned" and "Listener", and document 02, Item 8: the checks of each call, and the refusal that they come to.
-- Assumes nothing.
use Rattle.std.specs.Prelude.{ℕ, List, [], ◌∷◌, ◌++◌, Bool, true, false, not, ◌&&◌, ◌||◌, ltb, leb, eqb, length}
use Rattle.segment.specs.Refusal.{Checks, refusal}
use Rattle.segment.specs.Header.{malformed, fields_of, kind_of}
use Rattle.segment.specs.Options.{least_mss, most_mss}
use Rattle.segment.specs.Write.{longest_syn_ack}
use Rattle.segment.specs.Checksum.{checksum_right}
use Rattle.segment.specs.Sequence.{next_after, in_window}
use Rattle.segment.specs.declared.refusal.Refusal.TheVariants.{Format, Checksum, Port, Flags, NameInUse, TableFull, NoConnection, Sequence, Output, Range}
use Rattle.segment.specs.Refusal.{Check}
use Rattle.segment.specs.declared.header.Header.{Header}
use Rattle.segment.specs.declared.header.Kind.{Kind}
use Rattle.segment.specs.declared.header.Kind.TheVariants.{Syn, Rst, Ack, Other}
use Rattle.endpoint.specs.Checks.{timely, addressed}
use Rattle.protocol.specs.Table.{is_waiting, is_established, accepted_with}
use Rattle.protocol.specs.Call.{Call, segment, settings, key, abandon, resend, close}
use Rattle.protocol.specs.View.{known, own_address, view_of}
use Rattle.protocol.specs.declared.state.Settings.{Settings}
use Rattle.protocol.specs.declared.state.LocalEndpoint.{LocalEndpoint}
use Rattle.protocol.specs.declared.state.View.{View}
use Rattle.protocol.specs.declared.state.Listener.{Listener}
use Rattle.protocol.specs.declared.slots.Status.{Status}
use Rattle.protocol.specs.declared.slots.Slot.{Slot}

-- Named checks

-- the most that a settings call may ask for: as limit, as early room in bytes, as hold in ms
abbrev pub most_limit : ℕ
most_limit = 64

abbrev pub most_early_room : ℕ
most_early_room = 1460

abbrev pub most_hold : ℕ
most_hold = 65535

-- the least and the most that it may ask for as share: how many early openings of one address may be pending
abbrev pub least_share : ℕ
least_share = 1

abbrev pub most_share : ℕ
most_share = 64

-- not 12: limit 0 to 64, early room 0 to 1,460, hold 0 to 65,535, MSS 536 to 1,460, share 1 to 64
unfoldable pub in_range : Settings → Bool
in_range g =
    leb g.limit most_limit && (leb g.early_room most_early_room && (leb g.hold most_hold
    && (leb least_mss g.mss && (leb g.mss most_mss && (leb least_share g.share && leb g.share most_share)))))

-- not 12: a key has 16 bytes
abbrev pub is_key : List ℕ → Bool
is_key k = eqb (length k) 16

-- an opening for a slot is a repeat: the same initial number, and status plain or early; else 7
unfoldable pub repeats : Slot → Header → Bool
repeats s h = is_waiting s.status && eqb h.seq s.irs

-- the sequence number that is expected next: their number + 1 + accepted
abbrev pub expected : Slot → ℕ
expected s = next_after s.irs (accepted_with s.status)

-- not 10: a completion's sequence number lies in the window and it acknowledges our initial number + 1
unfoldable pub completes : Slot → Header → Bool
completes s h = in_window (expected s) h.seq && eqb h.ack (next_after s.iss 0)

-- not 10: a reset's sequence number is exactly the expected one
unfoldable pub resets : Slot → Header → Bool
resets s h = eqb h.seq (expected s)

-- Checks that calls share

-- 11: 01's answer, the SYN-ACK, has at most 36 bytes
abbrev pub output_checks : ℕ → Checks
output_checks out_len = (Output, ltb out_len longest_syn_ack) ∷ []

-- a connection that is there and not complete
abbrev pub waiting : Slot → Checks
waiting s = (NoConnection, not (is_waiting s.status)) ∷ []

-- and whose numbers are admitted
abbrev pub sequence_checks : Slot → Bool → Checks
sequence_checks s admitted = waiting s ++ ((Sequence, not admitted) ∷ [])

-- by the kind of segment
abbrev pub kind_checks : View → Header → Kind → Checks
kind_checks v h Syn = (NameInUse, known v && not (repeats v.slot h)) ∷ (TableFull, not (known v || v.vacant)) ∷ []
kind_checks v h Ack = sequence_checks v.slot (completes v.slot h)
kind_checks v h Rst = sequence_checks v.slot (resets v.slot h)
kind_checks v h Other = (Flags, true) ∷ []

-- what is asked of a segment before its kind
abbrev pub wire_checks : LocalEndpoint → Bool → List ℕ → List ℕ → ℕ → Checks
wire_checks local untimely src seg out_len =
    timely local.started untimely ++ addressed local.family src ++ output_checks out_len
    ++ ((Format, malformed seg)
    ∷ (Checksum, not (checksum_right src (own_address local) seg))
    ∷ (Port, not (eqb (fields_of seg).dest local.port)) ∷ [])

-- the checks of a call
abbrev pub checks : View → Call → Checks
checks v (segment t src seg iss out_len) = wire_checks v.local v.untimely src seg out_len ++ kind_checks v (fields_of seg) (kind_of (fields_of seg).flags)
checks v (settings t g) = timely v.local.started v.untimely ++ ((Range, not (in_range g)) ∷ [])
checks v (key t k) = timely v.local.started v.untimely ++ ((Range, not (is_key k)) ∷ [])
checks v (abandon t a p) = timely v.local.started v.untimely ++ addressed v.local.family a ++ waiting v.slot
checks v (resend t a p out_len) = timely v.local.started v.untimely ++ addressed v.local.family a ++ output_checks out_len ++ waiting v.slot
checks v (close t a p) = timely v.local.started v.untimely ++ addressed v.local.family a ++ ((NoConnection, not (is_established v.slot.status)) ∷ [])

-- what the checks of a call come to: the first refusal, in 01's order, that applies
unfoldable pub call_check : Listener → Call → Check
call_check l c = refusal (checks (view_of l c) c)

-- For the code and its laws alone: abandon and close in one. Close is for an established connection, abandon for one that is not complete.
abbrev pub is_releasable : Bool → Status → Bool
is_releasable true s = is_established s
is_releasable false s = is_waiting s

abbrev pub release_of : Bool → ℕ → List ℕ → ℕ → Call
release_of true t a p = close t a p
release_of false t a p = abandon t a p
