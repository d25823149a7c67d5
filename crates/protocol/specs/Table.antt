-- Document 01, "Listener", and document 02, Item 8: the slots, which of them are free, and pending, of all addresses and of one.
-- Assumes nothing.
use Rattle.std.specs.Prelude.{ℕ, List, Bool, true, false, not, ◌&&◌, ltb, replicate}
use Rattle.lists.specs.Bytes.{same_bytes}
use Rattle.lists.specs.Lists.{tally, first_index}
use Rattle.endpoint.specs.Address.{same_name}
use Rattle.protocol.specs.declared.slots.Status.{Status}
use Rattle.protocol.specs.declared.slots.Status.TheVariants.{Free, SynReceived, SynReceivedEarly, ResetHeld, Established}
use Rattle.protocol.specs.declared.slots.Slot.{Slot}

-- how many slots the table has
abbrev pub slot_count : ℕ
slot_count = 64

-- The statuses are, in 01's words: free, plain, early, held, open. A slot is live unless it is free or its hold has run out by the time.
abbrev pub is_live : ℕ → Status → Bool
is_live t Free = false
is_live t SynReceived = true
is_live t (SynReceivedEarly n) = true
is_live t (ResetHeld end) = ltb t end
is_live t Established = true

-- early, or held with its end after the time
abbrev pub is_pending : ℕ → Status → Bool
is_pending t Free = false
is_pending t SynReceived = false
is_pending t (SynReceivedEarly n) = true
is_pending t (ResetHeld end) = ltb t end
is_pending t Established = false

-- plain or early: the handshake is not complete
abbrev pub is_waiting : Status → Bool
is_waiting Free = false
is_waiting SynReceived = true
is_waiting (SynReceivedEarly n) = true
is_waiting (ResetHeld end) = false
is_waiting Established = false

abbrev pub is_established : Status → Bool
is_established Free = false
is_established SynReceived = false
is_established (SynReceivedEarly n) = false
is_established (ResetHeld end) = false
is_established Established = true

abbrev pub is_free : Status → Bool
is_free Free = true
is_free SynReceived = false
is_free (SynReceivedEarly n) = false
is_free (ResetHeld end) = false
is_free Established = false

-- how many bytes of early data were accepted
abbrev pub accepted_with : Status → ℕ
accepted_with Free = 0
accepted_with SynReceived = 0
accepted_with (SynReceivedEarly n) = n
accepted_with (ResetHeld end) = 0
accepted_with Established = 0

-- "Reset": plain becomes free, early is held until an end
abbrev pub after_reset : ℕ → Status → Status
after_reset end Free = Free
after_reset end SynReceived = Free
after_reset end (SynReceivedEarly n) = ResetHeld end
after_reset end (ResetHeld e) = ResetHeld e
after_reset end Established = Established

-- Slots are made in three ways: free at the start, new for an opening, and with another status.
abbrev pub free_slot : Slot
free_slot = record { addr = replicate 16 0; port = 0; irs = 0; iss = 0; status = Free }

abbrev pub new_slot : List ℕ → ℕ → ℕ → ℕ → Status → Slot
new_slot b port irs iss status = record { addr = b; port = port; irs = irs; iss = iss; status = status }

abbrev pub with_status : Slot → Status → Slot
with_status s status = record { addr = s.addr; port = s.port; irs = s.irs; iss = s.iss; status = status }

-- a connection of the peer with this block and port stands in the slot at the time
unfoldable pub holds_peer : ℕ → List ℕ → ℕ → Slot → Bool
holds_peer t b port s = is_live t s.status && same_name s.port port s.addr b

-- the lowest free place; the number of slots where there is none
abbrev pub free_place : ℕ → List Slot → ℕ
free_place t slots = first_index (λ s. not (is_live t s.status)) slots

abbrev pub pending_at : ℕ → List Slot → ℕ
pending_at t slots = tally (λ s. is_pending t s.status) slots

-- "from its own source address": the address with this block, whatever the port
unfoldable pub pends_from : ℕ → List ℕ → Slot → Bool
pends_from t b s = is_pending t s.status && same_bytes s.addr b

abbrev pub pending_from : ℕ → List ℕ → List Slot → ℕ
pending_from t b slots = tally (pends_from t b) slots

-- What one scan of the table finds: two places, each the number of slots where there is none, and pending.
pub record Scan : Type 0 where
  pub place : ℕ
  pub free : ℕ
  pub pending : ℕ

-- The place of the peer with this block and port among the slots that are live at the time, the lowest free place, and pending.
abbrev pub scan_of : ℕ → List ℕ → ℕ → List Slot → Scan
scan_of t b port slots = record { place = first_index (holds_peer t b port) slots; free = free_place t slots; pending = pending_at t slots }
