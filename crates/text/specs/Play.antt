-- The replay format (docs/REPLAY.md): what playing a line comes to, whatever it is played on.
-- Assumes nothing.
use Rattle.std.specs.Prelude.{ℕ, cond, List, [], ltb, length}
use Rattle.text.specs.Line.{longest, is_silent}
use Rattle.text.specs.Put.{place_after, bad_line}
use Rattle.text.specs.declared.line.Reply.{Reply}
use Rattle.text.specs.declared.line.Reply.TheVariants.{Silent, Bad}
use Rattle.text.specs.declared.play.Played.{Played}

-- What a line comes to: what is played on next, the reply, and the text that is printed.
pub record Playing (S : Type 0) : Type 0 where
  pub state : S
  pub reply : Reply
  pub text : List ℕ

-- a bad line changes nothing
abbrev pub bad_playing : {S : Type 0} → S → Playing S
bad_playing s = record { state = s; reply = Bad; text = bad_line }

-- A line of n bytes; of one longer than is read, `line` is the start. What one comes to that is neither silent nor too long is said by `asked`.
unfoldable pub line_playing : {S : Type 0} → (S → List ℕ → Playing S) → S → List ℕ → ℕ → Playing S
line_playing asked s line n =
    cond (is_silent line) (record { state = s; reply = Silent; text = [] })
    (cond (ltb longest n) (bad_playing s) (asked s line))

-- what is played where the text goes to a buffer of so many bytes, which takes as much as fits
abbrev pub played_in : {S : Type 0} → ℕ → Playing S → Played S
played_in n p = record { state = p.state; reply = p.reply; len = place_after 0 (length p.text) n }

-- t is what s comes to by some lines, one after the other
pub data Reaches {S : Type 0} (asked : S → List ℕ → Playing S) : S → S → Type 0 where
  by_none : (s : S) → Reaches asked s s
  by_more : (s t : S) (line : List ℕ) (n : ℕ) → Reaches asked s t → Reaches asked s (line_playing asked t line n).state
