-- One line more. Assumes nothing.
use Rattle.std.proofs.Common.{◌≡◌, ℕ, List}
use Rattle.text.specs.Play.{Playing, Reaches, by_more, line_playing, played_in}
use Rattle.text.specs.declared.play.Played.{Played}

pub line_more : {S : Type 0} (asked : S → List ℕ → Playing S) (s t : S) (line : List ℕ) (n m : ℕ) (p : Played S)
    → p ≡ played_in m (line_playing asked t line n) → Reaches asked s t → Reaches asked s p.state
line_more asked s t line n m p e h = rw e (by_more s t line n h)
