-- Document 01, "The table of sixteen", with the share of document 02, Item 8, in row 14: one table of statements about the definitions that the contracts cite.
-- Assumes nothing.
use Rattle.std.specs.Prelude.{ℕ, ◌≤◌, ◌<◌, ◌≡◌, List, [], ◌∷◌, true, false, length, Err}
use Rattle.segment.specs.Header.{fields_of, kind_of}
use Rattle.segment.specs.Refusal.{refusal, all_clear}
use Rattle.segment.specs.Sequence.{next_after}
use Rattle.segment.specs.Options.{nothing, read_options}
use Rattle.segment.specs.Write.{syn_ack_fields, syn_ack_bytes}
use Rattle.segment.specs.Found.{only_fast_open, FoundCookie, EarlierStands}
use Rattle.segment.specs.declared.options.Coding.{Coding}
use Rattle.segment.specs.declared.options.Coding.TheVariants.{New}
use Rattle.segment.specs.declared.options.Codings.{Codings}
use Rattle.segment.specs.declared.options.FastOpenOption.TheVariants.{Request}
use Rattle.segment.specs.declared.refusal.Refusal.TheVariants.{Sequence}
use Rattle.segment.specs.declared.header.Header.{Header}
use Rattle.segment.specs.declared.header.Kind.TheVariants.{Syn, Ack}
use Rattle.segment.specs.declared.write.SynAck.{SynAck}
use Rattle.endpoint.specs.Address.{block}
use Rattle.protocol.specs.Cookie.{carried_by, right}
use Rattle.protocol.specs.Table.{slot_count, is_waiting, pending_at, pending_from}
use Rattle.protocol.specs.Call.{segment, sender}
use Rattle.protocol.specs.View.{known, view}
use Rattle.protocol.specs.Refusals.{expected, kind_checks, call_check}
use Rattle.protocol.specs.Step.{accepts, step, pending_number}
use Rattle.protocol.specs.declared.state.View.{View}
use Rattle.protocol.specs.declared.state.Listener.{Listener}
use Rattle.protocol.specs.declared.outcome.Event.TheVariants as events

-- a new opening that is not refused, on a listener of 64 slots
pub record NewOpening (l : Listener) (t : ℕ) (src seg : List ℕ) (iss out_len : ℕ) : Type 0 where
  pub clear : call_check l (segment t src seg iss out_len) ≡ all_clear
  pub syn : kind_of (fields_of seg).flags ≡ Syn
  pub new : known (view l t (sender src seg)) ≡ false
  pub slots : length l.slots ≡ slot_count

-- its cookie is right, under whatever keys the listener has
abbrev pub HasRight : Listener → List ℕ → List ℕ → Type 0
HasRight l src seg = right l.keys (block src) (carried_by l.settings.codings seg) ≡ true

-- a completion for a connection that waits for it, whose next sequence number is 5, with the right acknowledgement
pub record CompletesFive (v : View) (h : Header) : Type 0 where
  pub waits : is_waiting v.slot.status ≡ true
  pub five : expected v.slot ≡ 5
  pub acknowledges : h.ack ≡ next_after v.slot.iss 0

pub record Sixteen : Type 0 where
  -- the acknowledgement of a SYN-ACK for a number with so many bytes accepted
  pub row1 : (a : SynAck) → a.irs ≡ 4294967295 → a.accepted ≡ 0 → (syn_ack_fields a).ack ≡ 0
  pub row2 : (a : SynAck) → a.irs ≡ 4294967290 → a.accepted ≡ 10 → (syn_ack_fields a).ack ≡ 5
  -- a completion where 5 is expected: admitted, or refused 10
  pub row3 : (v : View) (h : Header) → CompletesFive v h → h.seq ≡ 65539 → refusal (kind_checks v h Ack) ≡ all_clear
  pub row4 : (v : View) (h : Header) → CompletesFive v h → h.seq ≡ 65540 → refusal (kind_checks v h Ack) ≡ Err Sequence
  pub row5 : (v : View) (h : Header) → CompletesFive v h → h.seq ≡ 4 → refusal (kind_checks v h Ack) ≡ Err Sequence
  -- options, under either setting of the codings: a request; skipped, so that one behind is found; a cookie; reading ends, and one before stands
  pub row6 : (g : Codings) → read_options g (34 ∷ 2 ∷ []) ≡ only_fast_open (Request New)
  pub row7 : (g : Codings) → (read_options g (34 ∷ 3 ∷ 0 ∷ []) ≡ nothing) × (read_options g (34 ∷ 3 ∷ 0 ∷ 34 ∷ 2 ∷ []) ≡ only_fast_open (Request New))
  pub row8 : (g : Codings) → (read_options g (34 ∷ 4 ∷ 1 ∷ 2 ∷ []) ≡ nothing) × (read_options g (34 ∷ 4 ∷ 1 ∷ 2 ∷ 34 ∷ 2 ∷ []) ≡ only_fast_open (Request New))
  pub row9 : (g : Codings) (a b c d : ℕ) → FoundCookie g (a ∷ b ∷ c ∷ d ∷ []) (34 ∷ 6 ∷ a ∷ b ∷ c ∷ d ∷ [])
  pub row10 : (u : Codings) (a b c d e f g h i j k l m n o p : ℕ)
      → FoundCookie u (a ∷ b ∷ c ∷ d ∷ e ∷ f ∷ g ∷ h ∷ i ∷ j ∷ k ∷ l ∷ m ∷ n ∷ o ∷ p ∷ [])
      (34 ∷ 18 ∷ a ∷ b ∷ c ∷ d ∷ e ∷ f ∷ g ∷ h ∷ i ∷ j ∷ k ∷ l ∷ m ∷ n ∷ o ∷ p ∷ [])
  pub row11 : (g : Codings) (rest : List ℕ) → (read_options g (34 ∷ 0 ∷ rest) ≡ nothing) × EarlierStands g (34 ∷ 0 ∷ rest)
  pub row12 : (g : Codings) → (read_options g (34 ∷ []) ≡ nothing) × EarlierStands g (34 ∷ [])
  -- limit 0: plain
  pub row13 : (l : Listener) (t : ℕ) (src seg : List ℕ) (iss out_len : ℕ) → NewOpening l t src seg iss out_len
      → l.settings.limit ≡ 0
      → (step l (segment t src seg iss out_len)).event ≡ events.Regular
  -- pending 1, limit 2, right cookie: early; pending 2. The address is below its share: always so where the share is 2 or more, as with the fresh one, since
  -- an address's number is at most pending (the law `from_some`)
  pub row14 : (l : Listener) (t : ℕ) (src seg : List ℕ) (iss out_len : ℕ) → NewOpening l t src seg iss out_len
      → l.settings.on ≡ true → l.settings.limit ≡ 2 → pending_at t l.slots ≡ 1 → pending_from t (block src) l.slots < l.settings.share → HasRight l src seg
      → ((step l (segment t src seg iss out_len)).event ≡ events.FastOpened (accepts l.settings seg))
      × (pending_number (step l (segment t src seg iss out_len)).listener ≡ 2)
  -- pending 2, limit 2, right cookie: plain, 24 bytes
  pub row15 : (l : Listener) (t : ℕ) (src seg : List ℕ) (iss out_len : ℕ) → NewOpening l t src seg iss out_len
      → l.settings.on ≡ true → l.settings.limit ≡ 2 → pending_at t l.slots ≡ 2 → HasRight l src seg
      → ((step l (segment t src seg iss out_len)).event ≡ events.Regular)
      × ((step l (segment t src seg iss out_len)).written ≡ 24)
  -- the SYN-ACK's bytes, in any output that is long enough, whatever coding a cookie would have
  pub row16 : (c : Coding) (cookie : List ℕ) (out_len : ℕ) → 24 ≤ out_len
      → syn_ack_bytes (192 ∷ 0 ∷ 2 ∷ 2 ∷ []) (192 ∷ 0 ∷ 2 ∷ 1 ∷ [])
      (record { source = 443; dest = 40000; iss = 1000; irs = 4294967295; accepted = 0; mss = 1460; fresh = false; coding = c }) cookie out_len
      ≡ 0x01 ∷ 0xBB ∷ 0x9C ∷ 0x40 ∷ 0x00 ∷ 0x00 ∷ 0x03 ∷ 0xE8 ∷ 0x00 ∷ 0x00 ∷ 0x00 ∷ 0x00 ∷ 0x60 ∷ 0x12 ∷ 0xFF ∷ 0xFF
      ∷ 0x72 ∷ 0x2F ∷ 0x00 ∷ 0x00 ∷ 0x02 ∷ 0x04 ∷ 0x05 ∷ 0xB4 ∷ []
