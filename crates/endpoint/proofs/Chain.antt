-- Checks one after the other, the first checks of a call, and what follows for its address and time where it is clear. Assumes nothing.
use Rattle.std.specs.Prelude.{Err, Ok}
use Prim.Native.Nat.{ℕ, ◌^◌, ◌≤◌}
use mathlib.Core.Path.{◌≡◌, refl, ap, ◌∙◌}
use mathlib.Core.Bool.{Bool, true, false, cond, not}
use mathlib.Core.List.{List, [], ◌∷◌, ◌++◌}
use lib.Dec.{ltb}
use lib.ListN.{length}
use borrow.Author.Tests.{ltb-false, not-false}
use Rattle.segment.specs.Refusal.{refusal, Check, all_clear}
use Rattle.segment.specs.declared.refusal.Refusal.{Refusal}
use Rattle.segment.specs.declared.refusal.Refusal.TheVariants.{Address, Time, NotStarted}
use Rattle.lists.proofs.Bools.{or_false}
use Rattle.endpoint.specs.Address.{is_address}
use Rattle.endpoint.specs.Checks.{is_untimely, timely, addressed}
use Rattle.endpoint.specs.declared.address.Family.{Family}
use Rattle.endpoint.proofs.Blocks.{family-short}
use Rattle.endpoint.proofs.Clear.{every-check}

-- a check, and another where it is clear
abbrev pub and_then : Check → Check → Check
and_then (Ok _) x = x
and_then (Err r) x = Err r

-- tests with their refusals, one after the other, and what follows them
abbrev pub chain : List (Bool × Refusal) → Check → Check
chain [] x = x
chain (c ∷ cs) x = cond c.0 (Err c.1) (chain cs x)

pub chain_into : (cs : List (Bool × Refusal)) (x y : Check) → chain cs (and_then x y) ≡ and_then (chain cs x) y
chain_into [] x y = refl
chain_into (c ∷ cs) x y = go c.0 (chain_into cs x y)
  where
    go : (b : Bool) → chain cs (and_then x y) ≡ and_then (chain cs x) y → cond b (Err c.1) (chain cs (and_then x y)) ≡ and_then (cond b (Err c.1) (chain cs x)) y
    go true e = refl
    go false e = e

pub chain-then : (cs : List (Bool × Refusal)) (x : Check) → chain cs x ≡ and_then (chain cs all_clear) x
chain-then cs x = chain_into cs all_clear x

-- the first of two checks decides, or is passed
pub stopped : (x y z : Check) {r : Refusal} → x ≡ and_then y z → y ≡ Err r → x ≡ Err r
stopped x y z e k = e ∙ ap (λ (u : Check). and_then u z) k

pub passed : (x y z : Check) → x ≡ and_then y z → y ≡ all_clear → x ≡ z
passed x y z e k = e ∙ ap (λ (u : Check). and_then u z) k

abbrev pub only : Bool → Refusal → Check
only b r = cond b (Err r) all_clear

-- The first checks of a call

module _ (started : Bool) (untimely : Bool) where
  abbrev pub timed : List (Bool × Refusal)
  timed = (not started, NotStarted) ∷ (untimely, Time) ∷ []

  module _ (family : Family) (a : List ℕ) where
    abbrev pub named : List (Bool × Refusal)
    named = timed ++ ((not (is_address family a), Address) ∷ [])

    -- the address of a clear call has at most 16 bytes
    pub named-short : refusal (timely started untimely ++ addressed family a) ≡ all_clear → length a ≤ 16
    named-short e = family-short family a (not-false _ (every-check (timely started untimely ++ addressed family a) e).1.1.0)

-- a time that is accepted is at most 2^48
pub time-most : (clock t : ℕ) → is_untimely clock t ≡ false → t ≤ 2 ^ 48
time-most clock t e = ltb-false (2 ^ 48) t (or_false (ltb t clock) (ltb (2 ^ 48) t) e).1
