-- Whether a walker's counts have room for so many bytes more, and a record more. Assumes nothing.
use Prim.Native.Nat.{ℕ, ◌+◌, ◌<◌, ◌^◌}
use mathlib.Core.Path.{◌≡◌}
use mathlib.Core.Bool.{true}
use borrow.Author.Tests.{lt-ltb, ltb-true}
use Rattle.lists.proofs.Bools.{and_true}
use Rattle.pcap.specs.Walker.{has_room}
use Rattle.pcap.specs.declared.walker.Walker.{Walker}

pub record Room (w : Walker) (n : ℕ) : Type 0 where
  pub records : w.records + 1 < 2 ^ 64
  pub bytes : w.bytes + n < 2 ^ 64

pub room : (w : Walker) (n : ℕ) → has_room w n ≡ true → Room w n
unfolding has_room
room w n e =
    let t = and_true _ _ e in
    record { records = ltb-true (w.records + 1) (2 ^ 64) t.0; bytes = ltb-true (w.bytes + n) (2 ^ 64) t.1 }

pub has_room_lem : (w : Walker) (n : ℕ) → Room w n → has_room w n ≡ true
unfolding has_room
has_room_lem w n r = rw (lt-ltb (w.records + 1) (2 ^ 64) r.records, lt-ltb (w.bytes + n) (2 ^ 64) r.bytes)
