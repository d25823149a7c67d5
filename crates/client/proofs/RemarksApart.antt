-- What an answer comes to does not depend on what is remarked on its options. Assumes nothing.
use Rattle.std.specs.Prelude.{Err, Ok}
use Prim.Native.Nat.{ℕ}
use mathlib.Core.Path.{◌≡◌, refl, ap, ap₂, ◌∙◌}
use mathlib.Core.Bool.{Bool, not}
use mathlib.Core.List.{List, [], ◌∷◌, ◌++◌}
use Rattle.segment.specs.Refusal.{Checks, refusal}
use Rattle.segment.specs.Header.{malformed, fields_of}
use Rattle.segment.specs.Checksum.{checksum_right}
use Rattle.segment.specs.declared.header.Header.{Header}
use Rattle.segment.specs.declared.refusal.Refusal.TheVariants.{Format, Checksum, Port}
use Rattle.segment.specs.Refusal.{Check}
use Rattle.segment.specs.declared.options.Codings.{Codings}
use Rattle.client.specs.Call.{Call}
use Rattle.endpoint.specs.Checks.{is_untimely}
use Rattle.client.specs.Refusals.{is_between, pair_checks, reply_checks, call_check}
use Rattle.client.specs.Step.{after, done_event, outcome_of, step, output_if, output_of}
use Rattle.client.specs.RemarksApart.{Alike, taking, Same}
use Rattle.client.specs.declared.outcome.Attempt.{Attempt}
use Rattle.client.specs.declared.state.Memory.{Memory}

-- what the rules read of a header: all but the sequence number and the data offset
abbrev bare : Header → Header
bare h = record { source = h.source; dest = h.dest; seq = 0; ack = h.ack; offset = 0; flags = h.flags }

module _ (m : Memory) (t : ℕ) (own server : List ℕ) (a : Attempt) (g : Codings) (seg other : List ℕ) (e : Alike g own server seg other) where
  abbrev this : Call
  this = taking m t own server a g seg

  abbrev that : Call
  that = taking m t own server a g other

  same-header : bare (fields_of seg) ≡ bare (fields_of other)
  same-header = rw (e.source, e.dest, e.ack, e.flags)

  abbrev checks_with : Bool → Bool → Header → Checks
  checks_with bad right h =
      pair_checks m.started m.family (is_untimely m.clock t) own server
      ++ ((Format, bad) ∷ (Checksum, not right) ∷ (Port, not (is_between a h)) ∷ []) ++ reply_checks a h

  check-alike : call_check m this ≡ call_check m that
  unfolding call_check is_between
  check-alike =
      ap₂ (λ (bad right : Bool). refusal (checks_with bad right (bare (fields_of seg)))) e.shape e.sum
      ∙ ap (λ (h : Header). refusal (checks_with (malformed other) (checksum_right server own other) h)) same-header

  after-alike : after m this ≡ after m that
  unfolding after
  after-alike = rw (e.ack, e.cookie, e.mss)

  event-alike : done_event m this ≡ done_event m that
  event-alike = rw e.ack

  -- so a call with either comes to the same, refused or done
  outcome-alike : (k : Check) → ((outcome_of m this k).memory ≡ (outcome_of m that k).memory) × ((outcome_of m this k).event ≡ (outcome_of m that k).event)
      × ((outcome_of m this k).written ≡ (outcome_of m that k).written) × (output_if m this k ≡ output_if m that k)
  outcome-alike (Ok _) = (after-alike, event-alike, refl, refl)
  outcome-alike (Err r) = (refl, refl, refl, refl)

  pub remarks_apart : Same m t own server a g seg other
  unfolding step output_of
  remarks_apart =
      let o = outcome-alike (call_check m this) in
      record {
        memory = o.0 ∙ ap (λ (k : Check). (outcome_of m that k).memory) check-alike;
        event = o.1 ∙ ap (λ (k : Check). (outcome_of m that k).event) check-alike;
        written = o.2 ∙ ap (λ (k : Check). (outcome_of m that k).written) check-alike;
        output = o.3 ∙ ap (output_if m that) check-alike;
      }
