-- The refusals' numbers and their order. Assumes nothing.
use Rattle.std.specs.Prelude.{Err, Ok}
use Rattle.std.proofs.Common.{◌≡◌, ℕ, ◌-◌, Bool, true, false, cond, List, [], ◌∷◌, ◌++◌, map, get_or, sym, refl, ap, ◌∙◌, subst, arith}
use Rattle.segment.specs.Refusal.{number_of, order, Checks, applies, first_of, check_number, Check, all_clear}
use Rattle.segment.specs.declared.refusal.Refusal.{Refusal}
use Rattle.segment.specs.declared.refusal.Refusal.TheVariants.{Format, Address, Checksum, Port, Time, Flags, NameInUse, TableFull, NoConnection, Sequence, Output, Range, NotStarted, CutRecord, BadCapture}

-- the order as documents 01 and 02 write it
pub in_order : map number_of order ≡ 15 ∷ 14 ∷ 13 ∷ 5 ∷ 2 ∷ 11 ∷ 1 ∷ 3 ∷ 4 ∷ 6 ∷ 12 ∷ 7 ∷ 9 ∷ 8 ∷ 10 ∷ []
in_order = refl

-- A number stands for one refusal: this list has them by their numbers.
by_number : List Refusal
by_number = Format ∷ Address ∷ Checksum ∷ Port ∷ Time ∷ Flags ∷ NameInUse ∷ TableFull ∷ NoConnection ∷ Sequence ∷ Output ∷ Range ∷ NotStarted ∷ CutRecord ∷ BadCapture ∷ []

found : (r : Refusal) → get_or by_number (number_of r - 1) Format ≡ r
unfolding by_number
found Format = refl
found Address = refl
found Checksum = refl
found Port = refl
found Time = refl
found Flags = refl
found NameInUse = refl
found TableFull = refl
found NoConnection = refl
found Sequence = refl
found Output = refl
found Range = refl
found NotStarted = refl
found CutRecord = refl
found BadCapture = refl

pub one_number : (a b : Refusal) → number_of a ≡ number_of b → a ≡ b
one_number a b e = sym (found a) ∙ ap (λ (n : ℕ). get_or by_number (n - 1) Format) e ∙ found b

-- The first that applies

-- none of these applies
abbrev pub None : List Refusal → Checks → Type 0
None [] cs = Unit {0}
None (r ∷ rs) cs = (applies cs r ≡ false) × None rs cs

-- a call is clear where none applies, and refused for the first that does
pub clear : (rs : List Refusal) (cs : Checks) → None rs cs → first_of rs cs ≡ all_clear
clear [] cs n = refl
clear (r ∷ rs) cs n = rw n.0 (clear rs cs n.1)

pub first-applies : (before : List Refusal) (r : Refusal) (after : List Refusal) (cs : Checks) → None before cs → applies cs r ≡ true
    → first_of (before ++ (r ∷ after)) cs ≡ Err r
first-applies [] r after cs n e = rw e
first-applies (b ∷ before) r after cs n e = rw n.0 (first-applies before r after cs n.1 e)

-- and so the other way round: of a call that is clear none applies, and the one that it is refused for does
pub none-applies : (rs : List Refusal) (cs : Checks) → first_of rs cs ≡ all_clear → None rs cs
none-applies [] cs e = tt
none-applies (r ∷ rs) cs e = go (none-applies rs cs) (applies cs r) refl e
  where
    go : (first_of rs cs ≡ all_clear → None rs cs) → (b : Bool) → applies cs r ≡ b → cond b (Err r) (first_of rs cs) ≡ all_clear → None (r ∷ rs) cs
    go more true q k = absurd (let z : ◌≡◌ {A = ℕ} 0 1 = cc in omega arith)
    go more false q k = (q, more k)

pub refused_applies : (rs : List Refusal) (r : Refusal) (cs : Checks) → first_of rs cs ≡ Err r → applies cs r ≡ true
refused_applies [] r cs e = absurd (let z : ◌≡◌ {A = ℕ} 0 1 = cc in omega arith)
refused_applies (x ∷ rs) r cs e = go (refused_applies rs r cs) (applies cs x) refl e
  where
    go : (first_of rs cs ≡ Err r → applies cs r ≡ true) → (b : Bool) → applies cs x ≡ b → cond b (Err x) (first_of rs cs) ≡ Err r → applies cs r ≡ true
    go more true q k =
        let same : x ≡ r = cc in
        subst (λ (y : Refusal). applies cs y ≡ true) same q
    go more false q k = more k

-- a refusal's number is not 0, so only a call that is done returns 0
pub positive : (r : Refusal) → number_of r ≡ 0 → ⊥
positive Format q = omega arith
positive Address q = omega arith
positive Checksum q = omega arith
positive Port q = omega arith
positive Time q = omega arith
positive Flags q = omega arith
positive NameInUse q = omega arith
positive TableFull q = omega arith
positive NoConnection q = omega arith
positive Sequence q = omega arith
positive Output q = omega arith
positive Range q = omega arith
positive NotStarted q = omega arith
positive CutRecord q = omega arith
positive BadCapture q = omega arith

pub done_is_0 : (c : Check) → check_number c ≡ 0 → c ≡ all_clear
done_is_0 (Ok _) e = refl
done_is_0 (Err r) e = absurd (positive r e)
