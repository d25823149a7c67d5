-- A listener that was never started, a start that is refused, and calls that are refused. Assumes nothing.
use Rattle.std.specs.Prelude.{Err, Ok}
use Prim.Native.Nat.{ℕ}
use mathlib.Core.Path.{◌≡◌, refl, sym, ap, ◌∙◌}
use mathlib.Core.Bool.{Bool, true, false, not, ◌||◌, or-true}
use mathlib.Core.List.{List, []}
use native.Mathlib.Omega.{arith}
use Rattle.segment.specs.Header.{fields_of, kind_of}
use Rattle.segment.specs.Remarks.{no_remarks}
use Rattle.segment.specs.Refusal.{applies, refusal}
use Rattle.segment.specs.declared.refusal.Refusal.{Refusal}
use Rattle.segment.specs.declared.refusal.Refusal.TheVariants.{NotStarted, CutRecord, BadCapture}
use Rattle.segment.specs.Refusal.{Check}
use Rattle.segment.specs.declared.header.Header.{Header}
use Rattle.segment.specs.declared.header.Kind.{Kind}
use Rattle.segment.specs.declared.header.Kind.TheVariants.{Syn, Rst, Ack, Other}
use Rattle.segment.proofs.NumberOf.{done_is_0}
use Rattle.protocol.specs.Call.{Call, segment, settings, key, abandon, resend, close, number_of_event}
use Rattle.protocol.specs.View.{view_of}
use Rattle.protocol.specs.Refusals.{kind_checks, checks, call_check}
use Rattle.protocol.specs.Step.{started_by, start_checks, start_of, outcome_of, step, output_if, output_of}
use Rattle.protocol.specs.declared.state.View.{View}
use Rattle.protocol.specs.declared.state.Listener.{Listener}
use Rattle.protocol.specs.declared.outcome.Event.TheVariants as events
use Rattle.protocol.proofs.DoneEvent.{done-number}

-- 13 goes before whatever else applies
never_applies : (v : View) (c : Call) → v.local.started ≡ false → applies (checks v c) NotStarted ≡ true
never_applies v (segment t src seg iss out_len) e =
    let kind = applies (kind_checks v (fields_of seg) (kind_of (fields_of seg).flags)) NotStarted in
    ap (λ (started : Bool). kind || not started) e ∙ or-true kind
never_applies v (settings t g) e = rw e
never_applies v (key t k) e = rw e
never_applies v (abandon t a p) e = rw e
never_applies v (resend t a p out_len) e = rw e
never_applies v (close t a p) e = rw e

-- 14 and 15 are of captures: no call of the listener has them
of_captures : (v : View) (c : Call) → (applies (checks v c) BadCapture ≡ false) × (applies (checks v c) CutRecord ≡ false)
of_captures v (segment t src seg iss out_len) = go (fields_of seg) (kind_of (fields_of seg).flags)
  where
    go : (h : Header) (k : Kind) → (applies (kind_checks v h k) BadCapture ≡ false) × (applies (kind_checks v h k) CutRecord ≡ false)
    go h Syn = (refl, refl)
    go h Ack = (refl, refl)
    go h Rst = (refl, refl)
    go h Other = (refl, refl)
of_captures v (settings t g) = (refl, refl)
of_captures v (key t k) = (refl, refl)
of_captures v (abandon t a p) = (refl, refl)
of_captures v (resend t a p out_len) = (refl, refl)
of_captures v (close t a p) = (refl, refl)

-- every call on a listener that was never started is refused 13
pub never_started_lem : (l : Listener) (c : Call) → l.local.started ≡ false → ((step l c).event ≡ events.Refused NotStarted) × ((step l c).listener ≡ l)
unfolding step call_check
never_started_lem l c e =
    let none = of_captures (view_of l c) c in
    let first = never_applies (view_of l c) c e in
    (rw (none.0, none.1, first), rw (none.0, none.1, first))

-- and such is the listener of a start that is refused
pub refused_start : (own : List ℕ) (port : ℕ) (k : List ℕ) (r : Refusal) → (start_of own port k).check ≡ Err r
    → (start_of own port k).listener.local.started ≡ false
unfolding start_of
refused_start own port k r e = go (refusal (start_checks own k)) e
  where
    go : (c : Check) → (started_by own port k c).check ≡ Err r → (started_by own port k c).listener.local.started ≡ false
    go (Ok _) q = absurd (let z : ◌≡◌ {A = ℕ} 0 1 = cc in omega arith)
    go (Err s) q = refl

-- a call that is refused changes nothing, writes nothing and remarks nothing
pub refused_same : (l : Listener) (c : Call) (r : Refusal) → (step l c).event ≡ events.Refused r
    → ((step l c).listener ≡ l) × ((step l c).written ≡ 0) × ((step l c).remarks ≡ no_remarks) × (output_of l c ≡ [])
unfolding step output_of
refused_same l c r e = go (call_check l c) e
  where
    go : (k : Check) → (outcome_of l c k).event ≡ events.Refused r
        → ((outcome_of l c k).listener ≡ l) × ((outcome_of l c k).written ≡ 0) × ((outcome_of l c k).remarks ≡ no_remarks) × (output_if (view_of l c) c k ≡ [])
    go (Ok _) q =
        let done = done_is_0 (Err r) (ap number_of_event (sym q) ∙ done-number (view_of l c) c) in
        absurd (let z : ◌≡◌ {A = ℕ} 0 1 = cc in omega arith)
    go (Err s) q = (refl, refl, refl, refl)
