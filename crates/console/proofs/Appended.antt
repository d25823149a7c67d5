-- Bytes written one after the other. Assumes nothing.
use Rattle.std.proofs.Common.{◌≡◌, ℕ, List, ◌++◌, append_assoc, sym, ◌∙◌, ap}
use Rattle.std.specs.Prelude.{Option, Some, None}
use Rattle.std.specs.Io.KnownBytes.{Appends}

pub appends_appends : (a b c : Option (List ℕ)) (x y : List ℕ) → Appends a b x → Appends b c y → Appends a c (x ++ y)
appends_appends None b c x y p q = tt
appends_appends (Some s) None c x y p q = absurd p
appends_appends (Some s) (Some t) None x y p q = absurd q
appends_appends (Some s) (Some t) (Some u) x y p q = q ∙ ap (λ (r : List ℕ). r ++ y) p ∙ append_assoc s x y
