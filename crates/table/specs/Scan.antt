-- The scan of the table, slot by slot, and the slot at a place that was found. No document has it: it carries `scan_of` and `slot_at` to the code.
-- Assumes nothing.
use Rattle.std.specs.Prelude.{ℕ, ◌+◌, ◌%◌, ◌^◌, Option, None, Some, Bool, cond, not, List, get_or, set, nat_lt}
use Rattle.std.specs.Option.{option_or}
use Rattle.protocol.specs.Table.{slot_count, is_live, is_pending, free_slot, holds_peer}
use Rattle.protocol.specs.Table as rules
use Rattle.protocol.specs.declared.slots.Slot.{Slot}
use Rattle.table.specs.declared.scan.Scan.{Scan}

-- a place, where the rules say the number of slots for none
abbrev pub place_of : ℕ → Option ℕ
place_of i = cond (nat_lt i slot_count) (Some i) None

-- what a scan finds, as the code says it
abbrev pub found : rules.Scan → Scan
found s = record { place = place_of s.place; free = place_of s.free; pending = s.pending }

-- the place found so far or, if the test passes here, this one
abbrev pub first_place : Option ℕ → ℕ → Bool → Option ℕ
first_place found i here = option_or found (cond here (Some i) None)

-- one more if the test passes here; of a table of 64 slots the count never wraps
abbrev pub count_if : ℕ → Bool → ℕ
count_if n here = cond here ((n + 1) % 2 ^ 32) n

unfoldable pub scan_with : Scan → ℕ → ℕ → List ℕ → ℕ → Slot → Scan
scan_with scan i t b port s =
    record {
      place = first_place scan.place i (holds_peer t b port s);
      free = first_place scan.free i (not (is_live t s.status));
      pending = count_if scan.pending (is_pending t s.status);
    }

abbrev pub empty_scan : Scan
empty_scan = record { place = None; free = None; pending = 0 }

-- the peer's slot, read at the place that was found; the free one where there is none
abbrev pub slot_found : List Slot → Option ℕ → Slot
slot_found slots None = free_slot
slot_found slots (Some i) = get_or slots i free_slot

-- the table with a slot stored there; the same where there is none
abbrev pub stored : List Slot → Option ℕ → Slot → List Slot
stored slots None s = slots
stored slots (Some i) s = set slots i s
