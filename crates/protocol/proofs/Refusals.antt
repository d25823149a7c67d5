-- The checks of a call one after the other, and what `step` makes of them. Assumes nothing.
use Rattle.std.specs.Prelude.{Err}
use Prim.Native.Nat.{ℕ}
use mathlib.Core.Path.{◌≡◌, ap}
use mathlib.Core.Bool.{Bool, true, false, cond, not}
use mathlib.Core.List.{List, [], ◌∷◌, ◌++◌}
use lib.Dec.{ltb, eqb}
use lib.ListN.{length}
use Rattle.segment.specs.Refusal.{refusal, Check, all_clear}
use Rattle.segment.specs.Header.{malformed, fields_of, kind_of}
use Rattle.segment.specs.Remarks.{no_remarks}
use Rattle.segment.specs.Checksum.{checksum_right}
use Rattle.segment.specs.declared.refusal.Refusal.{Refusal}
use Rattle.segment.specs.declared.refusal.Refusal.TheVariants.{Format, Checksum, Port, NoConnection, Output, Range}
use Rattle.segment.specs.declared.header.Header.{Header}
use Rattle.segment.specs.declared.header.Kind.{Kind}
use Rattle.segment.specs.declared.header.Kind.TheVariants.{Syn, Rst, Ack, Other}
use Rattle.endpoint.specs.Checks.{is_untimely, timely, addressed}
use Rattle.endpoint.proofs.Chain.{and_then, chain-then, only, timed, named}
use Rattle.protocol.specs.Call.{Call, segment, settings, key, resend, sender}
use Rattle.protocol.specs.View.{own_address, view, view_of}
use Rattle.protocol.specs.Refusals.{in_range, is_key, is_releasable, release_of, output_checks, kind_checks, wire_checks, call_check}
use Rattle.protocol.specs.Table.{is_waiting}
use Rattle.protocol.specs.Step.{done_event, done_output, done_remarks, after, outcome, outcome_of, step, output_if, output_of}
use Rattle.protocol.specs.declared.state.Settings.{Settings}
use Rattle.protocol.specs.declared.state.LocalEndpoint.{LocalEndpoint}
use Rattle.protocol.specs.declared.state.View.{View}
use Rattle.protocol.specs.declared.state.Listener.{Listener}
use Rattle.protocol.specs.declared.outcome.Event.TheVariants as events

-- The checks after those of a name: the output, a segment's shape, checksum and port, and its kind

module _ (h : LocalEndpoint) (untimely : Bool) (a : List ℕ) (out_len : ℕ) where
  abbrev OutputCheck : Check
  OutputCheck = refusal (timely h.started untimely ++ addressed h.family a ++ output_checks out_len)

  abbrev outed : List (Bool × Refusal)
  outed = named h.started untimely h.family a ++ ((ltb out_len 36, Output) ∷ [])

  module _ (seg : List ℕ) where
    abbrev pub wire : Check
    wire = cond (malformed seg) (Err Format) (cond (not (checksum_right a (own_address h) seg)) (Err Checksum) (only (not (eqb (fields_of seg).dest h.port)) Port))

    pub wire-check : refusal (wire_checks h untimely a seg out_len) ≡ and_then OutputCheck wire
    wire-check = chain-then outed _

    abbrev wired : List (Bool × Refusal)
    wired = outed ++ ((malformed seg, Format) ∷ (not (checksum_right a (own_address h) seg), Checksum) ∷ (not (eqb (fields_of seg).dest h.port), Port) ∷ [])

    kind-check : (v : View) (x : Header) (k : Kind)
        → refusal (wire_checks h untimely a seg out_len ++ kind_checks v x k) ≡ and_then (refusal (wire_checks h untimely a seg out_len)) (refusal (kind_checks v x k))
    kind-check v x Syn = chain-then wired _
    kind-check v x Ack = chain-then wired _
    kind-check v x Rst = chain-then wired _
    kind-check v x Other = chain-then wired _

-- What the checks of each call come to

module _ (l : Listener) (t : ℕ) where
  pub checked_settings : (g : Settings) → call_check l (settings t g) ≡ and_then (refusal (timely l.local.started (is_untimely l.clock t))) (only (not (in_range g)) Range)
  unfolding call_check
  checked_settings g = chain-then (timed l.local.started (is_untimely l.clock t)) _

  pub checked_key : (k : List ℕ) → call_check l (key t k) ≡ and_then (refusal (timely l.local.started (is_untimely l.clock t))) (only (not (is_key k)) Range)
  unfolding call_check
  checked_key k = chain-then (timed l.local.started (is_untimely l.clock t)) _

  pub checked_release : (e : Bool) (a : List ℕ) (p : ℕ) → call_check l (release_of e t a p)
      ≡ and_then (refusal (timely l.local.started (is_untimely l.clock t) ++ addressed l.local.family a))
      (only (not (is_releasable e (view l t (record { address = a; port = p })).slot.status)) NoConnection)
  unfolding call_check
  checked_release true a p = chain-then (named l.local.started (is_untimely l.clock t) l.local.family a) _
  checked_release false a p = chain-then (named l.local.started (is_untimely l.clock t) l.local.family a) _

  pub checked_resend : (a : List ℕ) (p out_len : ℕ) → call_check l (resend t a p out_len)
      ≡ and_then (refusal (timely l.local.started (is_untimely l.clock t) ++ addressed l.local.family a ++ output_checks out_len))
      (only (not (is_waiting (view l t (record { address = a; port = p })).slot.status)) NoConnection)
  unfolding call_check
  checked_resend a p out_len = chain-then (outed l.local (is_untimely l.clock t) a out_len) _

  pub checked_segment : (src seg : List ℕ) (iss out_len : ℕ) → call_check l (segment t src seg iss out_len)
      ≡ and_then (refusal (wire_checks l.local (is_untimely l.clock t) src seg out_len))
      (refusal (kind_checks (view l t (sender src seg)) (fields_of seg) (kind_of (fields_of seg).flags)))
  unfolding call_check
  checked_segment src seg iss out_len =
      kind-check l.local (is_untimely l.clock t) src out_len seg (view l t (sender src seg)) (fields_of seg) (kind_of (fields_of seg).flags)

-- A call is refused or done

module _ (l : Listener) (c : Call) where
  pub step_refused : {r : Refusal} → call_check l c ≡ Err r → step l c ≡ outcome l (events.Refused r) 0 no_remarks
  unfolding step
  step_refused e = ap (outcome_of l c) e

  pub step-done : call_check l c ≡ all_clear
      → step l c ≡ outcome (after l c) (done_event (view_of l c) c) (length (done_output (view_of l c) c)) (done_remarks (view_of l c) c)
  unfolding step
  step-done e = ap (outcome_of l c) e

  pub output_refused : {r : Refusal} → call_check l c ≡ Err r → output_of l c ≡ []
  unfolding output_of
  output_refused e = ap (output_if (view_of l c) c) e

  pub output-done : call_check l c ≡ all_clear → output_of l c ≡ done_output (view_of l c) c
  unfolding output_of
  output-done e = ap (output_if (view_of l c) c) e
