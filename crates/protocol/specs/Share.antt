-- Document 02, Item 8, "One hospital, one share": what the share holds each source address to.
-- Assumes nothing.
use Rattle.std.specs.Prelude.{ℕ, ◌≤◌, ◌<◌, max, ◌≡◌, List, [], ◌∷◌, false, length}
use Rattle.segment.specs.Refusal.{all_clear}
use Rattle.endpoint.specs.Address.{block}
use Rattle.protocol.specs.Table.{slot_count, free_place, pending_from}
use Rattle.protocol.specs.Call.{Call, time_of, sender}
use Rattle.protocol.specs.View.{known, settings_at, view}
use Rattle.protocol.specs.Refusals.{call_check}
use Rattle.protocol.specs.Step.{start_of, step}
use Rattle.protocol.specs.Demand3.{listener_after, address_pending}
use Rattle.protocol.specs.TwoOpenings.{Arrival, call_of, Opens}
use Rattle.protocol.specs.declared.state.Listener.{Listener}
use Rattle.protocol.specs.declared.outcome.Event.TheVariants as events

-- The bound, over lists of calls

-- this share is in force at each of the calls, made one after the other, that is not refused
abbrev pub Under : ℕ → Listener → List Call → Type 0
Under share l [] = Unit {0}
Under share l (c ∷ cs) = (call_check l c ≡ all_clear → (settings_at l (time_of c)).share ≡ share) × Under share (step l c).listener cs

-- after each of the calls the address has at most so many pending
abbrev pub AtMost : ℕ → List ℕ → Listener → List Call → Type 0
AtMost most a l [] = Unit {0}
AtMost most a l (c ∷ cs) = (address_pending (step l c).listener a ≤ most) × AtMost most a (step l c).listener cs

-- For a done start with these arguments, any calls, and any calls after them under one share: no address passes the larger of that share and its number before
-- them, which may be the larger after a lowered share. (That a settings call changes nothing that is pending is in demand 3's `addresses`.)
abbrev pub ShareBound : List ℕ → ℕ → List ℕ → List Call → ℕ → List Call → Type 0
ShareBound own port k before share calls =
    let l = listener_after (start_of own port k).listener before in
    Under share l calls → (a : List ℕ) → AtMost (max share (address_pending l a)) a l calls

-- One opening

-- From the share up a new opening is not refused on that account: where the checks before its kind are clear and a slot is free, it is plain, and its SYN-ACK has no
-- cookie (24 bytes), whatever its option and the keys are.
abbrev pub AtShare : Listener → List ℕ → Arrival → Type 0
AtShare l src a =
    Opens l src a → known (view l a.time (sender src a.seg)) ≡ false → length l.slots ≡ slot_count → free_place a.time l.slots < slot_count
    → (settings_at l a.time).share ≤ pending_from a.time (block src) l.slots
    → ((step l (call_of src a)).event ≡ events.Regular) × ((step l (call_of src a)).written ≡ 24)
