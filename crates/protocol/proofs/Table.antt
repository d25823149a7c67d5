-- Statuses, from one time to a later one, and the slots of a name and of an address. Assumes nothing.
use Prim.Native.Nat.{ℕ, ◌≤◌}
use mathlib.Core.Path.{◌≡◌, refl, sym, ap, ◌∙◌}
use mathlib.Core.Bool.{Bool, true, false, ◌&&◌, false≢true, and-true, and-false}
use mathlib.Core.List.{List}
use native.Mathlib.Omega.{arith}
use borrow.Author.Tests.{ltb-true, lt-ltb}
use lib.Dec.{ltb}
use Rattle.lists.specs.Bytes.{same_bytes}
use Rattle.lists.specs.Lists.{bit}
use Rattle.lists.proofs.Sums.{bit-most, sum_le}
use Rattle.endpoint.specs.Address.{same_name}
use Rattle.protocol.specs.Table.{is_live, is_pending, is_free, holds_peer, pending_at, pends_from, pending_from}
use Rattle.protocol.specs.declared.slots.Slot.{Slot}
use Rattle.protocol.specs.declared.slots.Status.{Status}
use Rattle.protocol.specs.declared.slots.Status.TheVariants.{Free, SynReceived, SynReceivedEarly, ResetHeld, Established}

-- a status that passes a test which the free one fails is not the free one
pub not_free : (q : Status → Bool) → q Free ≡ false → (x : Status) → q x ≡ true → is_free x ≡ false
not_free q e Free h = absurd (false≢true (sym e ∙ h))
not_free q e SynReceived h = refl
not_free q e (SynReceivedEarly n) h = refl
not_free q e (ResetHeld end) h = refl
not_free q e Established h = refl

-- a slot that is not live is not pending
pub idle : (t : ℕ) (s : Status) → is_live t s ≡ false → is_pending t s ≡ false
idle t Free e = refl
idle t SynReceived e = refl
idle t (SynReceivedEarly n) e = e
idle t (ResetHeld end) e = e
idle t Established e = refl

-- A slot holds a connection of a name, by which of the two tests is made first: the name, or whether it is live
module _ (t : ℕ) (b : List ℕ) (port : ℕ) (s : Slot) where
  pub other_name : same_name s.port port s.addr b ≡ false → holds_peer t b port s ≡ false
  unfolding holds_peer
  other_name e = rw e (and-false (is_live t s.status))

  pub same_name_lem : same_name s.port port s.addr b ≡ true → holds_peer t b port s ≡ is_live t s.status
  unfolding holds_peer
  same_name_lem e = rw e (and-true (is_live t s.status))

  pub not_live : is_live t s.status ≡ false → holds_peer t b port s ≡ false
  unfolding holds_peer
  not_live e = rw e

  pub live : is_live t s.status ≡ true → holds_peer t b port s ≡ same_name s.port port s.addr b
  unfolding holds_peer
  live e = rw e

-- Tests, as numbers
pub and_most : (a b c : Bool) → bit a ≤ bit b → bit (a && c) ≤ bit (b && c)
and_most true true c h = omega arith
and_most true false c h = absurd (omega (arith, h))
and_most false true c h = omega arith
and_most false false c h = omega arith

-- From one time to a later one
module _ (t u : ℕ) (later : t ≤ u) where
  end_earlier : (end : ℕ) → bit (ltb u end) ≤ bit (ltb t end)
  end_earlier end = go (ltb u end) refl
    where
      go : (b : Bool) → ltb u end ≡ b → bit b ≤ bit (ltb t end)
      go true e = omega (arith, ap bit (lt-ltb t end (omega (arith, later, ltb-true u end e))))
      go false e = omega arith

  -- what is live or pending later is so earlier
  pub live_earlier : (s : Status) → bit (is_live u s) ≤ bit (is_live t s)
  live_earlier Free = omega arith
  live_earlier SynReceived = omega arith
  live_earlier (SynReceivedEarly n) = omega arith
  live_earlier (ResetHeld end) = end_earlier end
  live_earlier Established = omega arith

  pub pending_earlier : (s : Status) → bit (is_pending u s) ≤ bit (is_pending t s)
  pending_earlier Free = omega arith
  pending_earlier SynReceived = omega arith
  pending_earlier (SynReceivedEarly n) = omega arith
  pending_earlier (ResetHeld end) = end_earlier end
  pending_earlier Established = omega arith

  pub from_earlier : (b : List ℕ) (s : Slot) → bit (pends_from u b s) ≤ bit (pends_from t b s)
  unfolding pends_from
  from_earlier b s = and_most (is_pending u s.status) (is_pending t s.status) (same_bytes s.addr b) (pending_earlier s.status)

-- the pending slots of one address are some of all
pub from_some : (t : ℕ) (b : List ℕ) (slots : List Slot) → pending_from t b slots ≤ pending_at t slots
unfolding pends_from
from_some t b slots = sum_le _ _ (λ s. go (is_pending t s.status) (same_bytes s.addr b)) slots
  where
    go : (x y : Bool) → bit (x && y) ≤ bit x
    go true y = bit-most y
    go false y = omega arith
