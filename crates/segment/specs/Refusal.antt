-- Document 01, "Numbers returned", and document 02, Item 3 (14 and 15): why a call is refused, the number of each reason, and their order.
-- Assumes nothing.
use Rattle.std.specs.Prelude.{ℕ, Bool, false, cond, ◌||◌, List, [], ◌∷◌, ◌==◌, Result, Ok, Err}
use Rattle.segment.specs.declared.refusal.Refusal.{Refusal}
use Rattle.segment.specs.declared.refusal.Refusal.TheVariants.{Format, Address, Checksum, Port, Time, Flags, NameInUse, TableFull, NoConnection, Sequence, Output, Range, NotStarted, CutRecord, BadCapture}

-- the table's first column; its second says when each is given
abbrev pub number_of : Refusal → ℕ
number_of Format = 1
number_of Address = 2
number_of Checksum = 3
number_of Port = 4
number_of Time = 5
number_of Flags = 6
number_of NameInUse = 7
number_of TableFull = 8
number_of NoConnection = 9
number_of Sequence = 10
number_of Output = 11
number_of Range = 12
number_of NotStarted = 13
number_of CutRecord = 14
number_of BadCapture = 15

-- the order in which they are tested
abbrev pub order : List Refusal
order =
    BadCapture ∷ CutRecord ∷ NotStarted ∷ Time ∷ Address ∷ Output ∷ Format ∷ Checksum ∷ Port ∷ Flags
    ∷ Range ∷ NameInUse ∷ NoConnection ∷ TableFull ∷ Sequence ∷ []

-- The checks of a call: the refusals that it has, each with whether it applies, in any order and as often as there are reasons for it.
abbrev pub Checks : Type 0
Checks = List (Refusal × Bool)

abbrev pub same : Refusal → Refusal → Bool
same a b = number_of a == number_of b

-- a refusal applies if any check that the call has for it does
abbrev pub applies : Checks → Refusal → Bool
applies [] r = false
applies (c ∷ cs) r = cond (same c.0 r) (applies cs r || c.1) (applies cs r)

-- what they come to: clear, or the refusal
abbrev pub Check : Type 0
Check = Result Unit Refusal

abbrev pub all_clear : Check
all_clear = Ok tt

-- the first of some refusals that applies
abbrev pub first_of : List Refusal → Checks → Check
first_of [] cs = all_clear
first_of (r ∷ rs) cs = cond (applies cs r) (Err r) (first_of rs cs)

-- what the checks of a call come to
abbrev pub refusal : Checks → Check
refusal cs = first_of order cs

-- the number returned; 0 is done
abbrev pub check_number : Check → ℕ
check_number (Ok _) = 0
check_number (Err r) = number_of r
