-- A start, refused or done, and the accepted part of a segment. Assumes nothing.
use Rattle.std.specs.Prelude.{Err}
use Rattle.segment.specs.Refusal.{all_clear}
use Prim.Native.Nat.{ℕ, ◌≤◌, ◌<◌}
use mathlib.Core.Path.{◌≡◌, sym}
use mathlib.Core.Bool.{true, false}
use mathlib.Core.List.{List, []}
use lib.ListN.{length, take}
use borrow.Author.Tests.{lt-ltb, le-ltb, eq-eqb, ne_eqb}
use Rattle.segment.specs.Header.{payload_of}
use Rattle.segment.specs.declared.refusal.Refusal.TheVariants.{Address, Range}
use Rattle.endpoint.specs.Address.{is_size}
use Rattle.protocol.specs.Call.{accepted_of, accepted_part}
use Rattle.protocol.specs.Step.{fresh_listener, never_started, start_of}
use Rattle.protocol.specs.declared.outcome.Event.{Event}
use Rattle.protocol.specs.declared.outcome.Started.{Started}

-- a start
module _ (own : List ℕ) (port : ℕ) (k : List ℕ) where
  pub start-address : is_size (length own) ≡ false → ◌≡◌ {A = Started} (record { listener = never_started; check = Err Address }) (start_of own port k)
  unfolding start_of
  start-address a = rw a

  pub start-key : is_size (length own) ≡ true → (length k ≡ 16 → ⊥) → ◌≡◌ {A = Started} (record { listener = never_started; check = Err Range }) (start_of own port k)
  unfolding start_of
  start-key a b = rw (a, ne_eqb _ _ b)

  pub start-done : is_size (length own) ≡ true → length k ≡ 16 → ◌≡◌ {A = Started} (record { listener = fresh_listener own port k; check = all_clear }) (start_of own port k)
  unfolding start_of
  start-done a b = rw (a, eq-eqb _ _ b)

-- the accepted part, where the payload has fewer bytes and where it has as many
module _ (seg : List ℕ) (e : Event) {data' : List ℕ} {n : ℕ} (d : data' ≡ payload_of seg) (k : n ≡ accepted_of e) where
  pub none_taken : length data' < n → [] ≡ accepted_part seg e
  unfolding accepted_part
  none_taken h = rw (sym d, sym k, lt-ltb _ _ h)

  pub taken : n ≤ length data' → take n data' ≡ accepted_part seg e
  unfolding accepted_part
  taken h = rw (sym d, sym k, le-ltb _ _ h)
