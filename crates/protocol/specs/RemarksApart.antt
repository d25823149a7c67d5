-- Document 02, Item 7: the listener next, the event, the output and the accepted part do not depend on what is remarked. Two segments that are alike in all else that the rules read of a segment come
-- to the same but for the remarks.
-- Assumes nothing.
use Rattle.std.specs.Prelude.{ℕ, ◌≡◌, List}
use Rattle.segment.specs.Header.{malformed, fields_of, payload_of}
use Rattle.segment.specs.Checksum.{checksum_right}
use Rattle.segment.specs.Options.{options_of, coding_of}
use Rattle.protocol.specs.Cookie.{carried_by}
use Rattle.protocol.specs.Call.{Call, segment, accepted_part}
use Rattle.protocol.specs.View.{own_address}
use Rattle.protocol.specs.Step.{step, output_of}
use Rattle.protocol.specs.declared.state.Listener.{Listener}

-- The header, the payload, and the Fast Open option that counts, by its cookie and its coding. Skipped options, the option's place, a break and how long the option area is may differ.
pub record Alike (l : Listener) (src seg other : List ℕ) : Type 0 where
  pub shape : malformed seg ≡ malformed other
  pub sum : checksum_right src (own_address l.local) seg ≡ checksum_right src (own_address l.local) other
  pub source : (fields_of seg).source ≡ (fields_of other).source
  pub dest : (fields_of seg).dest ≡ (fields_of other).dest
  pub seq : (fields_of seg).seq ≡ (fields_of other).seq
  pub ack : (fields_of seg).ack ≡ (fields_of other).ack
  pub flags : (fields_of seg).flags ≡ (fields_of other).flags
  pub payload : payload_of seg ≡ payload_of other
  pub carried : carried_by l.settings.codings seg ≡ carried_by l.settings.codings other
  pub coding : coding_of (options_of l.settings.codings seg).fast ≡ coding_of (options_of l.settings.codings other).fast

module _ (l : Listener) (t : ℕ) (src : List ℕ) (iss out_len : ℕ) where
  abbrev pub taking : List ℕ → Call
  taking seg = segment t src seg iss out_len

  pub record Same (seg other : List ℕ) : Type 0 where
    pub listener : (step l (taking seg)).listener ≡ (step l (taking other)).listener
    pub event : (step l (taking seg)).event ≡ (step l (taking other)).event
    pub written : (step l (taking seg)).written ≡ (step l (taking other)).written
    pub output : output_of l (taking seg) ≡ output_of l (taking other)
    pub part : accepted_part seg (step l (taking seg)).event ≡ accepted_part other (step l (taking other)).event
