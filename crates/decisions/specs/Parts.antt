-- The rules, on the parts of a view that each of them reads. No document has it: it carries `kind_checks`, `cookies_enabled`, `is_early`, `is_fresh`, `segment_event` and `slot_after` to the code,
-- which makes no view.
-- Assumes nothing.
use Rattle.std.specs.Prelude.{ℕ, List, [], ◌∷◌, Bool, true, false, cond, not, ◌&&◌, ◌||◌, ltb, Result, Err, Ok}
use Rattle.segment.specs.Refusal.{Checks}
use Rattle.segment.specs.declared.refusal.Refusal.{Refusal}
use Rattle.segment.specs.Options.{is_counted}
use Rattle.segment.specs.declared.refusal.Refusal.TheVariants.{Flags, NameInUse, TableFull}
use Rattle.segment.specs.Refusal.{Check}
use Rattle.segment.specs.declared.options.FastOpenOption.{FastOpenOption}
use Rattle.segment.specs.declared.options.FastOpenOption.TheVariants.{Absent}
use Rattle.segment.specs.declared.header.Header.{Header}
use Rattle.segment.specs.declared.header.Kind.{Kind}
use Rattle.segment.specs.declared.header.Kind.TheVariants.{Syn, Rst, Ack, Other}
use Rattle.protocol.specs.Cookie.{Carried, counts, right_under, right}
use Rattle.protocol.specs.Table.{slot_count, is_free, after_reset, new_slot, with_status}
use Rattle.protocol.specs.Step.{new_event, new_status}
use Rattle.protocol.specs.Refusals.{repeats, completes, resets, sequence_checks}
use Rattle.protocol.specs.declared.state.Keys.{Keys}
use Rattle.protocol.specs.declared.state.StoredSettings.{StoredSettings}
use Rattle.protocol.specs.declared.slots.Status.TheVariants.{Established}
use Rattle.protocol.specs.declared.slots.Slot.{Slot}
use Rattle.protocol.specs.declared.outcome.Event.{Event}
use Rattle.protocol.specs.declared.outcome.Event.TheVariants as events
use Rattle.cookie.specs.Check.{fresh_for}
use Rattle.decisions.specs.declared.action.Opened.{Opened}
use Rattle.decisions.specs.declared.checks.OpeningKind.{OpeningKind}
use Rattle.decisions.specs.declared.checks.OpeningKind.TheVariants.{Repeat, New}

-- not 6
abbrev pub has_kind : Kind → Bool
has_kind Syn = true
has_kind Rst = true
has_kind Ack = true
has_kind Other = false

abbrev pub is_opening : Kind → Bool
is_opening Syn = true
is_opening Rst = false
is_opening Ack = false
is_opening Other = false

-- Openings

-- 7 and 8, from the peer's slot and whether any slot is free
abbrev pub opening_checks : Slot → Bool → Header → Checks
opening_checks s vacant h =
    (NameInUse, not (is_free s.status) && not (repeats s h))
    ∷ (TableFull, not (not (is_free s.status) || vacant)) ∷ []

-- what they come to, where the slot is free or not: refused, new, or a repeat
abbrev pub opening_check : Check → Bool → Result OpeningKind Refusal
opening_check (Err r) free = Err r
opening_check (Ok _) true = Ok New
opening_check (Ok _) false = Ok Repeat

-- Fast Open is on, and with so many pending it is below the limit; the share is asked for apart
abbrev pub limit_allows : StoredSettings → ℕ → Bool
limit_allows g pending = g.on && ltb pending g.limit

-- how many slots are looked at to count the pending of an opening's source address: none where pending, and so that number, is below the share, or where no
-- option counts; else all
abbrev pub slots_to_count : ℕ → ℕ → FastOpenOption → ℕ
slots_to_count share pending fast = cond (ltb pending share) 0 (cond (is_counted fast) slot_count 0)

-- an option as it was read, or none where it is not allowed
abbrev pub option_if : Bool → FastOpenOption → FastOpenOption
option_if allowed fast = cond allowed fast Absent

-- a fresh cookie goes with the SYN-ACK to an option
abbrev pub is_fresh_for : Keys → List ℕ → Carried → Bool
is_fresh_for keys b o = counts o && not (right_under keys.present b o)

-- a new connection by its option, where so many bytes would be accepted
abbrev pub opened : Keys → List ℕ → Header → ℕ → Carried → ℕ → Opened
opened keys b h iss o n =
    record {
      event = new_event (right keys b o) n;
      slot = new_slot b h.source h.seq iss (new_status (right keys b o) n);
      fresh = fresh_for keys b o;
    }

-- Later segments: a completion or a reset. What stands at the other two kinds is never used.

-- 9 and 10, from the peer's slot
abbrev pub later_checks : Slot → Header → Kind → Checks
later_checks s h Ack = sequence_checks s (completes s h)
later_checks s h Rst = sequence_checks s (resets s h)
later_checks s h Syn = (Flags, true) ∷ []
later_checks s h Other = (Flags, true) ∷ []

abbrev pub later_event : Kind → Event
later_event Ack = events.Completed
later_event Rst = events.WasReset
later_event Syn = events.Done
later_event Other = events.Done

-- the slot after it, where a hold would last until an end
abbrev pub later_slot : Slot → ℕ → Kind → Slot
later_slot s end Ack = with_status s Established
later_slot s end Rst = with_status s (after_reset end s.status)
later_slot s end Syn = s
later_slot s end Other = s
