-- A segment's checks before its kind, from what the functions on the way ensure. Assumes nothing.
use Rattle.std.specs.Prelude.{Err, Ok, None, Some}
use Prim.Native.Nat.{ℕ}
use mathlib.Core.Path.{◌≡◌, sym, ap, ◌∙◌}
use mathlib.Core.Bool.{Bool, true, false}
use mathlib.Core.List.{List, ◌++◌}
use lib.ListN.{take}
use borrow.Author.Tests.{eq-eqb, ne_eqb}
use Rattle.segment.specs.Refusal.{refusal, Check, all_clear}
use Rattle.segment.specs.Header.{fields_of, shape_of}
use Rattle.segment.specs.Checksum.{checksum_right}
use Rattle.segment.specs.declared.refusal.Refusal.TheVariants.{Format, Checksum, Port}
use Rattle.segment.specs.declared.header.Header.{Header}
use Rattle.segment.proofs.Malformed.{ill_shaped, well_shaped}
use Rattle.endpoint.specs.Address.{size}
use Rattle.endpoint.specs.Checks.{timely, addressed}
use Rattle.endpoint.proofs.Chain.{passed}
use Rattle.protocol.specs.View.{own_address}
use Rattle.protocol.specs.Refusals.{output_checks, wire_checks}
use Rattle.decisions.specs.Received.{received}
use Rattle.protocol.specs.declared.state.LocalEndpoint.{LocalEndpoint}
use Rattle.protocol.proofs.Refusals.{wire, wire-check}

module _ (h : LocalEndpoint) (untimely : Bool) (src seg : List ℕ) (out_len : ℕ) where
  abbrev First : Check
  First = refusal (timely h.started untimely ++ addressed h.family src ++ output_checks out_len)

  abbrev All : Check
  All = refusal (wire_checks h untimely src seg out_len)

  carried_on : {c : Check} → All ≡ c → received c (fields_of seg) ≡ received All (fields_of seg)
  carried_on e = ap (λ (c : Check). received c (fields_of seg)) (sym e)

  module _ (first : First ≡ all_clear) where
    next : All ≡ wire h untimely src out_len seg
    next = passed _ _ _ (wire-check h untimely src out_len seg) first

    pub dropped_shape : shape_of seg ≡ None → Err Format ≡ received All (fields_of seg)
    dropped_shape e =
        let at : wire h untimely src out_len seg ≡ Err Format = rw (ill_shaped seg e) in
        carried_on (next ∙ at)

    module _ {x : Header} (shape : shape_of seg ≡ Some x) {n : ℕ} (size_is : n ≡ size h.family) {right : Bool}
        (sum : right ≡ checksum_right src (take n h.own) seg) where
      summed : checksum_right src (own_address h) seg ≡ right
      summed = rw size_is at (sym sum)

      pub dropped_sum : right ≡ false → Err Checksum ≡ received All (fields_of seg)
      dropped_sum k =
          let at : wire h untimely src out_len seg ≡ Err Checksum = rw ((well_shaped seg x shape).0, summed ∙ k) in
          carried_on (next ∙ at)

      module _ (k : right ≡ true) where
        pub dropped_port : (x.dest ≡ h.port → ⊥) → Err Port ≡ received All (fields_of seg)
        dropped_port d =
            let w = well_shaped seg x shape in
            let no = ne_eqb (fields_of seg).dest h.port (λ e. d (ap (λ (y : Header). y.dest) w.1 ∙ e)) in
            let at : wire h untimely src out_len seg ≡ Err Port = rw (w.0, summed ∙ k, no) in
            carried_on (next ∙ at)

        pub read : x.dest ≡ h.port → Ok x ≡ received All (fields_of seg)
        read d =
            let w = well_shaped seg x shape in
            let yes = eq-eqb (fields_of seg).dest h.port (sym (ap (λ (y : Header). y.dest) w.1) ∙ d) in
            let at : wire h untimely src out_len seg ≡ all_clear = rw (w.0, summed ∙ k, yes) in
            ap (λ (y : Header). Ok y) w.1 ∙ carried_on (next ∙ at)
