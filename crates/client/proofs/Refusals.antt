-- The checks of a call one after the other. Assumes nothing.
use Rattle.std.specs.Prelude.{Result, Some}
use Prim.Native.Nat.{ℕ}
use mathlib.Core.Path.{◌≡◌, refl, sym, ap, ◌∙◌}
use mathlib.Core.Bool.{Bool, true}
use mathlib.Core.List.{List, ◌++◌}
use Rattle.segment.specs.Refusal.{refusal}
use Rattle.segment.specs.Header.{shape_of, fields_of}
use Rattle.segment.specs.Checksum.{checksum_right}
use Rattle.segment.specs.declared.refusal.Refusal.{Refusal}
use Rattle.segment.specs.declared.header.Header.{Header}
use Rattle.segment.proofs.Malformed.{well_shaped}
use Rattle.client.specs.Refusals.{is_between, wire_checks, reply_checks, reply_from}
use Rattle.client.specs.declared.outcome.Attempt.{Attempt}

-- The segment of an answer

module _ (own server : List ℕ) (a : Attempt) (seg : List ℕ) where
  abbrev All : Result ℕ Refusal
  All = reply_from (refusal (wire_checks own server a seg ++ reply_checks a (fields_of seg))) a (fields_of seg)

  -- of the right shape, with its checksum and between the two ports
  module _ {x : Header} (shape : shape_of seg ≡ Some x) {right : Bool} (sum : right ≡ checksum_right server own seg) (k : right ≡ true) where
    module _ {between : Bool} (ports : between ≡ is_between a x) where
      ported : is_between a (fields_of seg) ≡ between
      ported = sym (ports ∙ ap (λ (h : Header). is_between a h) (well_shaped seg x shape).1)

      pub replied : between ≡ true → {r : Result ℕ Refusal} → r ≡ reply_from (refusal (reply_checks a x)) a x → r ≡ All
      replied e {r} q =
          let same : reply_from (refusal (reply_checks a x)) a x ≡ reply_from (refusal (reply_checks a (fields_of seg))) a (fields_of seg) =
          ap (λ (h : Header). reply_from (refusal (reply_checks a h)) a h) (well_shaped seg x shape).1 in
          q ∙ same ∙ rw ((well_shaped seg x shape).0, sym sum ∙ k, ported ∙ e) refl
