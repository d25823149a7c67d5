-- No call changes a listener's own address, port and family. Assumes nothing.
use Rattle.std.specs.Prelude.{Err, Ok}
use Prim.Native.Nat.{ℕ}
use mathlib.Core.Path.{◌≡◌, refl}
use Rattle.segment.specs.Header.{fields_of}
use Rattle.segment.specs.Refusal.{Check}
use Rattle.endpoint.specs.Address.{block}
use Rattle.protocol.specs.Call.{Call, segment, settings, key, abandon, resend, close, sender}
use Rattle.protocol.specs.View.{scan_for, view}
use Rattle.protocol.specs.Refusals.{call_check}
use Rattle.protocol.specs.Step.{done_event, held_until, slot_after, segment_after, after, outcome_of, step}
use Rattle.protocol.specs.declared.slots.Slot.{Slot}
use Rattle.protocol.specs.Table.{Scan}
use Rattle.protocol.specs.declared.state.Listener.{Listener}
use Rattle.protocol.specs.declared.outcome.Event.{Event}
use Rattle.protocol.specs.declared.outcome.Event.TheVariants as events

segment_local : (l : Listener) (t : ℕ) (found : Scan) (e : Event) (s : Slot) → (segment_after l t found e s).local ≡ l.local
segment_local l t found (events.FastOpened n) s = refl
segment_local l t found events.Regular s = refl
segment_local l t found events.Retransmission s = refl
segment_local l t found events.Completed s = refl
segment_local l t found events.WasReset s = refl
segment_local l t found events.Done s = refl
segment_local l t found (events.Refused r) s = refl

after_local : (l : Listener) (c : Call) → (after l c).local ≡ l.local
unfolding after
after_local l (segment t src seg iss out_len) =
    let p = sender src seg in
    let v = view l t p in
    let e = done_event v (segment t src seg iss out_len) in
    segment_local l t (scan_for l t p) e (slot_after v (held_until v t) (block src) (fields_of seg) iss e)
after_local l (settings t g) = refl
after_local l (key t k) = refl
after_local l (abandon t a p) = refl
after_local l (resend t a p out_len) = refl
after_local l (close t a p) = refl

pub step_local : (l : Listener) (c : Call) → (step l c).listener.local ≡ l.local
unfolding step
step_local l c = go (call_check l c)
  where
    go : (k : Check) → (outcome_of l c k).listener.local ≡ l.local
    go (Ok _) = after_local l c
    go (Err r) = refl
