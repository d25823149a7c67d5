-- Document 01, "Numbers returned": the checks that every call begins with, 13, 5 and 2.
-- Assumes nothing.
use Rattle.std.specs.Prelude.{ℕ, ◌^◌, List, [], ◌∷◌, Bool, not, ◌||◌, ltb}
use Rattle.segment.specs.Refusal.{Checks}
use Rattle.segment.specs.declared.refusal.Refusal.TheVariants.{Address, Time, NotStarted}
use Rattle.endpoint.specs.Address.{is_address}
use Rattle.endpoint.specs.declared.address.Family.{Family}

-- the last time that a call may carry
abbrev pub last_time : ℕ
last_time = 2 ^ 48

-- refusal 5: before the last accepted time, or above 2^48
abbrev pub is_untimely : ℕ → ℕ → Bool
is_untimely clock t = ltb t clock || ltb last_time t

-- 13, then 5
abbrev pub timely : Bool → Bool → Checks
timely started untimely = (NotStarted, not started) ∷ (Time, untimely) ∷ []

-- 2
abbrev pub addressed : Family → List ℕ → Checks
addressed f a = (Address, not (is_address f a)) ∷ []
