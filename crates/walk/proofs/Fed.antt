-- A record is fed exactly where it is a call. Assumes nothing.
use Rattle.std.specs.Prelude.{Option, None, Some, is_some}
use Prim.Native.Nat.{ℕ}
use mathlib.Core.Path.{◌≡◌, refl}
use mathlib.Core.Bool.{Bool, true, false, ◌&&◌}
use mathlib.Core.List.{List}
use Rattle.protocol.specs.declared.state.LocalEndpoint.{LocalEndpoint}
use Rattle.packet.specs.Ip.{carried_to}
use Rattle.walk.specs.Feed.{is_fed_to, call_if, call_of}

pub fed-call : (local : LocalEndpoint) (place seconds micros : ℕ) (packet : List ℕ) (out_len : ℕ)
    → is_fed_to local packet ≡ is_some (call_of local place seconds micros packet out_len)
unfolding is_fed_to call_of
fed-call local place seconds micros packet out_len = go local.started (carried_to local.family local.own packet) refl
  where
    go : (b : Bool) (c : Option ℕ) → carried_to local.family local.own packet ≡ c
        → b && is_some c ≡ is_some (call_if b local place seconds micros packet out_len)
    go false c e = refl
    go true (Some start) e = rw e
    go true None e = rw e
