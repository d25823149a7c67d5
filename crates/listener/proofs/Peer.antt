-- The slot of a call's peer, by the place that a search found. Assumes nothing.
use Rattle.std.specs.Prelude.{Option}
use Rattle.std.specs.List.{position}
use Prim.Native.Nat.{ℕ, ◌<◌}
use mathlib.Core.Path.{◌≡◌, refl, ◌∙◌}
use mathlib.Core.Bool.{Bool, true, false}
use mathlib.Core.List.{List}
use lib.ListN.{length, get_or}
use Rattle.endpoint.specs.Address.{block}
use Rattle.protocol.specs.Table.{with_status, holds_peer, free_slot}
use Rattle.table.specs.Scan.{slot_found, stored}
use Rattle.protocol.specs.View.{scan_for, view}
use Rattle.protocol.specs.Step.{moved, freed}
use Rattle.protocol.specs.declared.state.Listener.{Listener}
use Rattle.protocol.specs.declared.slots.Status.TheVariants.{Free}
use Rattle.protocol.specs.declared.slots.Slot.{Slot}
use Rattle.protocol.proofs.Table.{not_free}
use Rattle.table.proofs.Places.{search_is, slot_read, slot_stored, in_table}
use Rattle.protocol.specs.Refusals.{is_releasable}

-- What the code finds by a name's block and port is what the definitions find.
module _ (l : Listener) (full : length l.slots ≡ 64) (t : ℕ) (a : List ℕ) (p : ℕ) {b : List ℕ} (eb : b ≡ block a) {place : Option ℕ}
    (ep : place ≡ position (holds_peer t b p) l.slots) {s : Slot} (es : s ≡ slot_found l.slots place) where
  pub peer_slot : s ≡ (view l t (record { address = a; port = p })).slot
  peer_slot = es ∙ rw (ep, search_is l.slots full t b p, eb) (slot_read l.slots full (scan_for l t (record { address = a; port = p })).place)

  pub freed_is : moved l t (stored l.slots place (with_status s Free)) ≡ freed l t (record { address = a; port = p })
  freed_is =
      let i = (scan_for l t (record { address = a; port = p })).place in
      rw (peer_slot, ep, search_is l.slots full t b p, eb, slot_stored l.slots full i (with_status (view l t (record { address = a; port = p })).slot Free))

-- a connection that a call by name changes stands in the table
module _ (l : Listener) (full : length l.slots ≡ 64) (i : ℕ) {s : Slot} (es : s ≡ get_or l.slots i free_slot) where
  pub released_in_table : (e : Bool) → is_releasable e s.status ≡ true → i < 64
  released_in_table e q = in_table l.slots full i (rw es at (not_free (is_releasable e) (none e) s.status q))
    where
      none : (e : Bool) → is_releasable e Free ≡ false
      none true = refl
      none false = refl
