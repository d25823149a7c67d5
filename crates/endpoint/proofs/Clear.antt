-- Of a call that is clear no check applies. Assumes nothing.
use mathlib.Core.Path.{◌≡◌, refl}
use mathlib.Core.Bool.{Bool, true, false, cond, ◌||◌}
use mathlib.Core.List.{[], ◌∷◌}
use borrow.Author.Tests.{eq-eqb}
use Rattle.segment.specs.Refusal.{number_of, order, Checks, same, applies, refusal, all_clear}
use Rattle.segment.specs.declared.refusal.Refusal.{Refusal}
use Rattle.segment.specs.declared.refusal.Refusal.TheVariants.{Format, Address, Checksum, Port, Time, Flags, NameInUse, TableFull, NoConnection, Sequence, Output, Range, NotStarted, CutRecord, BadCapture}
use Rattle.lists.proofs.Bools.{or_false}
use Rattle.segment.proofs.NumberOf.{None, none-applies}
use Rattle.lists.proofs.Sums.{All}

-- every refusal has a place in the order
ordered : (cs : Checks) → None order cs → (r : Refusal) → applies cs r ≡ false
ordered cs n BadCapture = n.0
ordered cs n CutRecord = n.1.0
ordered cs n NotStarted = n.1.1.0
ordered cs n Time = n.1.1.1.0
ordered cs n Address = n.1.1.1.1.0
ordered cs n Output = n.1.1.1.1.1.0
ordered cs n Format = n.1.1.1.1.1.1.0
ordered cs n Checksum = n.1.1.1.1.1.1.1.0
ordered cs n Port = n.1.1.1.1.1.1.1.1.0
ordered cs n Flags = n.1.1.1.1.1.1.1.1.1.0
ordered cs n Range = n.1.1.1.1.1.1.1.1.1.1.0
ordered cs n NameInUse = n.1.1.1.1.1.1.1.1.1.1.1.0
ordered cs n NoConnection = n.1.1.1.1.1.1.1.1.1.1.1.1.0
ordered cs n TableFull = n.1.1.1.1.1.1.1.1.1.1.1.1.1.0
ordered cs n Sequence = n.1.1.1.1.1.1.1.1.1.1.1.1.1.1.0

abbrev pub Passed : Checks → Type 0
Passed cs = All (λ c. c.1 ≡ false) cs

pub every-check : (cs : Checks) → refusal cs ≡ all_clear → Passed cs
every-check cs e = go cs (ordered cs (none-applies order cs e))
  where
    rest : (s a b : Bool) → cond s (a || b) a ≡ false → a ≡ false
    rest true a b q = (or_false a b q).0
    rest false a b q = q

    go : (cs : Checks) → ((r : Refusal) → applies cs r ≡ false) → Passed cs
    go [] h = tt
    go (c ∷ cs) h =
        let own : (applies cs c.0 || c.1) ≡ false = rw (eq-eqb (number_of c.0) (number_of c.0) refl) at (h c.0) in
        ((or_false (applies cs c.0) c.1 own).1, go cs (λ r. rest (same c.0 r) (applies cs r) c.1 (h r)))
