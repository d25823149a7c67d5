-- Document 02, Item 7: the memory next and the event do not depend on what is remarked. Two answers that are alike in all else that the rules read of an answer come to the same but for the remarks.
-- Assumes nothing.
use Rattle.std.specs.Prelude.{ℕ, ◌≡◌, List}
use Rattle.segment.specs.Header.{malformed, fields_of}
use Rattle.segment.specs.Checksum.{checksum_right}
use Rattle.segment.specs.declared.options.Codings.{Codings}
use Rattle.client.specs.Call.{Call, answer}
use Rattle.client.specs.Step.{cookie_in, mss_in, step, output_of}
use Rattle.client.specs.declared.outcome.Attempt.{Attempt}
use Rattle.client.specs.declared.state.Memory.{Memory}

-- The header, the cookie and the MSS. Skipped options, the option's place, a break and how long the option area is may differ.
pub record Alike (g : Codings) (own server seg other : List ℕ) : Type 0 where
  pub shape : malformed seg ≡ malformed other
  pub sum : checksum_right server own seg ≡ checksum_right server own other
  pub source : (fields_of seg).source ≡ (fields_of other).source
  pub dest : (fields_of seg).dest ≡ (fields_of other).dest
  pub ack : (fields_of seg).ack ≡ (fields_of other).ack
  pub flags : (fields_of seg).flags ≡ (fields_of other).flags
  pub cookie : cookie_in g seg ≡ cookie_in g other
  pub mss : mss_in g seg ≡ mss_in g other

module _ (m : Memory) (t : ℕ) (own server : List ℕ) (a : Attempt) (g : Codings) where
  abbrev pub taking : List ℕ → Call
  taking seg = answer t own server a seg g

  pub record Same (seg other : List ℕ) : Type 0 where
    pub memory : (step m (taking seg)).memory ≡ (step m (taking other)).memory
    pub event : (step m (taking seg)).event ≡ (step m (taking other)).event
    pub written : (step m (taking seg)).written ≡ (step m (taking other)).written
    pub output : output_of m (taking seg) ≡ output_of m (taking other)
