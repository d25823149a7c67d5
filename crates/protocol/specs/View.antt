-- Document 01, "Listener", and document 02, Item 8: what a call's checks, event and output depend on: the listener at the call's time and for its peer. They do
-- not depend on the place where a slot stands.
-- Assumes nothing.
use Rattle.std.specs.Prelude.{ℕ, List, Bool, not, ltb, get_or, take}
use Rattle.endpoint.specs.Address.{Peer, size, block}
use Rattle.endpoint.specs.Checks.{is_untimely}
use Rattle.protocol.specs.Table.{slot_count, is_free, free_slot, pending_from, Scan, scan_of}
use Rattle.protocol.specs.Call.{Call, time_of, peer_of}
use Rattle.protocol.specs.declared.state.LocalEndpoint.{LocalEndpoint}
use Rattle.protocol.specs.declared.state.StoredSettings.{StoredSettings}
use Rattle.protocol.specs.declared.state.Listener.{Listener}
use Rattle.protocol.specs.declared.state.View.{View}
use Rattle.protocol.specs.declared.slots.Slot.{Slot}

-- the settings in force at a time
abbrev pub settings_at : Listener → ℕ → StoredSettings
settings_at l t = l.settings

-- the slot at a place; past the table, the free slot
abbrev pub slot_at : Listener → ℕ → Slot
slot_at l i = get_or l.slots i free_slot

-- the scan for a peer
abbrev pub scan_for : Listener → ℕ → Peer → Scan
scan_for l t p = scan_of t (block p.address) p.port l.slots

abbrev pub view : Listener → ℕ → Peer → View
view l t p =
    record {
      local = l.local;
      untimely = is_untimely l.clock t;
      settings = settings_at l t;
      keys = l.keys;
      slot = slot_at l (scan_for l t p).place;
      vacant = ltb (scan_for l t p).free slot_count;
      below = ltb (scan_for l t p).pending (settings_at l t).limit;
      spare = ltb (pending_from t (block p.address) l.slots) (settings_at l t).share;
    }

abbrev pub view_of : Listener → Call → View
view_of l c = view l (time_of c) (peer_of c)

-- the peer's connection is in the table
abbrev pub known : View → Bool
known v = not (is_free v.slot.status)

-- own address, out of its block
abbrev pub own_address : LocalEndpoint → List ℕ
own_address local = take (size local.family) local.own
