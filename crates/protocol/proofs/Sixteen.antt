-- Document 01, "The table of sixteen", proved: rows 1 to 12 and 16 from the segment crate's, and the three that speak of a call. Assumes nothing.
use Rattle.std.specs.Prelude.{Err}
use Prim.Native.Nat.{ℕ, ◌+◌, ◌≤◌}
use mathlib.Core.Path.{◌≡◌, refl, ap, ◌∙◌}
use mathlib.Core.Bool.{Bool, true, false, cond, not, ◌&&◌, and-false}
use mathlib.Core.List.{List}
use native.Mathlib.Omega.{arith}
use borrow.Author.Tests.{le-ltb, eq-eqb}
use Rattle.segment.specs.Refusal.{refusal, all_clear}
use Rattle.segment.specs.Sequence.{in_window}
use Rattle.segment.specs.declared.refusal.Refusal.TheVariants.{Sequence}
use Rattle.segment.specs.declared.header.Header.{Header}
use Rattle.segment.specs.declared.header.Kind.TheVariants.{Ack}
use Rattle.segment.proofs.Sixteen.{row1, row2, row3, row4, row5, row6, row7, row8, row9, row10, row11, row12, row16}
use Rattle.endpoint.specs.Address.{Peer, block}
use Rattle.protocol.specs.Table.{pending_at}
use Rattle.protocol.specs.Call.{segment, sender}
use Rattle.protocol.specs.View.{view}
use Rattle.protocol.specs.Step.{cookies_enabled, accepts, step, pending_number}
use Rattle.protocol.specs.Refusals.{completes, kind_checks}
use Rattle.protocol.specs.Sixteen.{NewOpening, HasRight, CompletesFive, Sixteen}
use Rattle.protocol.specs.declared.state.View.{View}
use Rattle.protocol.specs.declared.state.Listener.{Listener}
use Rattle.protocol.specs.declared.outcome.Event.TheVariants as events
use Rattle.protocol.proofs.DoneOutput.{opening-written}
use Rattle.protocol.proofs.Openings.{slot_for, pending-put, enabled, is_early_lem, not_early, not_fresh, clear-new, step-new}

-- where pending is at the limit no cookie is taken or given
at_limit : (l : Listener) (t : ℕ) (p : Peer) → l.settings.limit ≤ pending_at t l.slots → cookies_enabled (view l t p) ≡ false
at_limit l t p h = rw (le-ltb (pending_at t l.slots) l.settings.limit h) (and-false l.settings.on)

module _ (l : Listener) (t : ℕ) (src seg : List ℕ) (iss out_len : ℕ) (o : NewOpening l t src seg iss out_len) where
  -- where cookies are not enabled an opening is plain, and its SYN-ACK has no cookie
  pub disabled_plain : cookies_enabled (view l t (sender src seg)) ≡ false
      → ((step l (segment t src seg iss out_len)).event ≡ events.Regular) × ((step l (segment t src seg iss out_len)).written ≡ 24)
  disabled_plain still =
      let v : View = view l t (sender src seg) in
      let e = step-new l t src seg iss out_len o.syn o.new false (not_early v (block src) seg still) o.clear in
      (rw e, opening-written l t src seg iss out_len o.clear o.syn ∙ rw (e, not_fresh v (block src) seg still))

  -- where they are, with a right cookie, it is early, and pending is one more
  enabled_early : cookies_enabled (view l t (sender src seg)) ≡ true → HasRight l src seg
      → ((step l (segment t src seg iss out_len)).event ≡ events.FastOpened (accepts l.settings seg))
      × (pending_number (step l (segment t src seg iss out_len)).listener ≡ pending_at t l.slots + 1)
  unfolding pending_number
  enabled_early on r =
      let k = clear-new l t src seg iss out_len o.syn o.new o.clear in
      let e = step-new l t src seg iss out_len o.syn o.new true (is_early_lem (view l t (sender src seg)) (block src) seg on r) o.clear in
      let s = slot_for true src seg iss (accepts l.settings seg) in
      (rw e, rw (e, k.started) (pending-put t l.slots s (rw o.slots k.place)))

-- a completion where 5 is expected is admitted by its sequence number alone
five : (v : View) (h : Header) (n : ℕ) (inside : Bool) → CompletesFive v h → h.seq ≡ n → in_window 5 n ≡ inside
    → refusal (kind_checks v h Ack) ≡ cond inside all_clear (Err Sequence)
unfolding completes
five v h n inside c s w = rw (c.waits, c.five, s, w, eq-eqb _ _ c.acknowledges) (go inside)
  where
    go : (b : Bool) → cond (not (b && true)) (Err Sequence) all_clear ≡ cond b all_clear (Err Sequence)
    go true = refl
    go false = refl

pub sixteen : Sixteen
sixteen =
    record {
      row1 = λ a i n. rw (i, n) row1;
      row2 = λ a i n. rw (i, n) row2;
      row3 = λ v h c s. five v h 65539 true c s row3;
      row4 = λ v h c s. five v h 65540 false c s row4;
      row5 = λ v h c s. five v h 4 false c s row5;
      row6 = row6;
      row7 = row7;
      row8 = row8;
      row9 = row9;
      row10 = row10;
      row11 = row11;
      row12 = row12;
      row13 = λ l t src seg iss out_len o e. (disabled_plain l t src seg iss out_len o (at_limit l t (sender src seg) (omega (arith, e)))).0;
      row14 = λ l t src seg iss out_len o on e p w r.
          let k = enabled_early l t src seg iss out_len o (enabled l t (sender src seg) on (omega (arith, e, p)) w) r in
          (k.0, k.1 ∙ ap (λ n. n + 1) p);
      row15 = λ l t src seg iss out_len o on e p r. disabled_plain l t src seg iss out_len o (at_limit l t (sender src seg) (omega (arith, e, p)));
      row16 = row16;
    }
