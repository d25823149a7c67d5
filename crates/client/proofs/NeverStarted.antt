-- A memory that was never started, a start that is refused, and calls that are refused. Assumes nothing.
use Rattle.std.specs.Prelude.{Err, Ok}
use Prim.Native.Nat.{ℕ}
use mathlib.Core.Path.{◌≡◌, refl, sym, ap, ◌∙◌}
use mathlib.Core.Bool.{true, false}
use mathlib.Core.List.{[]}
use native.Mathlib.Omega.{arith}
use Rattle.segment.specs.Remarks.{no_remarks}
use Rattle.segment.specs.Refusal.{applies, refusal}
use Rattle.segment.specs.declared.refusal.Refusal.{Refusal}
use Rattle.segment.specs.declared.refusal.Refusal.TheVariants.{NotStarted, CutRecord, BadCapture}
use Rattle.segment.specs.Refusal.{Check}
use Rattle.segment.proofs.NumberOf.{positive}
use Rattle.client.specs.Call.{Call, connect, answer, failed, number_of_event}
use Rattle.client.specs.Refusals.{checks, call_check}
use Rattle.client.specs.Step.{started_by, start_checks, start_of, done_event, outcome_of, step, output_if, output_of}
use Rattle.client.specs.declared.state.Memory.{Memory}
use Rattle.client.specs.declared.outcome.Event.TheVariants as events

-- 13 goes before whatever else applies
never_applies : (m : Memory) (c : Call) → m.started ≡ false → applies (checks m c) NotStarted ≡ true
never_applies m (connect t own server o offered out_len) e = rw e
never_applies m (answer t own server a seg g) e = rw e
never_applies m (failed t server port) e = rw e

-- 14 and 15 are of captures: no call of the client has them
of_captures : (m : Memory) (c : Call) → (applies (checks m c) BadCapture ≡ false) × (applies (checks m c) CutRecord ≡ false)
of_captures m (connect t own server o offered out_len) = (refl, refl)
of_captures m (answer t own server a seg g) = (refl, refl)
of_captures m (failed t server port) = (refl, refl)

-- every call on a memory that was never started is refused 13
pub never_started_lem : (m : Memory) (c : Call) → m.started ≡ false → ((step m c).event ≡ events.Refused NotStarted) × ((step m c).memory ≡ m)
unfolding step call_check
never_started_lem m c e =
    let none = of_captures m c in
    let first = never_applies m c e in
    (rw (none.0, none.1, first), rw (none.0, none.1, first))

-- and such is the memory of a start that is refused
pub refused_start : (n : ℕ) (r : Refusal) → (start_of n).check ≡ Err r → (start_of n).memory.started ≡ false
unfolding start_of
refused_start n r e = go (refusal (start_checks n)) e
  where
    go : (c : Check) → (started_by n c).check ≡ Err r → (started_by n c).memory.started ≡ false
    go (Ok _) q = absurd (let z : ◌≡◌ {A = ℕ} 0 1 = cc in omega arith)
    go (Err s) q = refl

-- a call that is done returns 0
done-number : (m : Memory) (c : Call) → number_of_event (done_event m c) ≡ 0
done-number m (connect t own server o offered out_len) = refl
done-number m (answer t own server a seg g) = refl
done-number m (failed t server port) = refl

-- a call that is refused changes nothing, writes nothing and remarks nothing
pub refused_same : (m : Memory) (c : Call) (r : Refusal) → (step m c).event ≡ events.Refused r
    → ((step m c).memory ≡ m) × ((step m c).written ≡ 0) × ((step m c).remarks ≡ no_remarks) × (output_of m c ≡ [])
unfolding step output_of
refused_same m c r e = go (call_check m c) e
  where
    go : (k : Check) → (outcome_of m c k).event ≡ events.Refused r → ((outcome_of m c k).memory ≡ m) × ((outcome_of m c k).written ≡ 0) × ((outcome_of m c k).remarks ≡ no_remarks) × (output_if m c k ≡ [])
    go (Ok _) q = absurd (positive r (ap number_of_event (sym q) ∙ done-number m c))
    go (Err s) q = (refl, refl, refl, refl)
