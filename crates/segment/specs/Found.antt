-- Document 01, "The table of sixteen", rows 6 to 12: what is found in an option area, in short.
-- Assumes nothing.
use Rattle.std.specs.Prelude.{◌≡◌, ℕ, List, ◌∷◌, length, None, Some}
use Rattle.segment.specs.Bytes.{word}
use Rattle.segment.specs.Options.{read_options, cookie_bytes}
use Rattle.segment.specs.declared.options.Coding.TheVariants.{New}
use Rattle.segment.specs.declared.options.Codings.{Codings}
use Rattle.segment.specs.declared.options.FastOpenOption.{FastOpenOption}
use Rattle.segment.specs.declared.options.FastOpenOption.TheVariants.{Absent, Cookie}
use Rattle.segment.specs.declared.options.Options.{Options}

-- nothing but a Fast Open option
abbrev pub only_fast_open : FastOpenOption → Options
only_fast_open f = record { mss = None; fast = f }

-- nothing but an MSS
abbrev pub only_mss : ℕ → Options
only_mss mss = record { mss = Some mss; fast = Absent }

-- an area in which just a cookie of these bytes is found, at byte 2
abbrev pub FoundCookie : Codings → List ℕ → List ℕ → Type 0
FoundCookie g cookie area = (read_options g area ≡ only_fast_open (Cookie New 2 (length cookie))) × (cookie_bytes (read_options g area).fast area ≡ cookie)

-- an MSS option before these bytes, and nothing of them found
abbrev pub EarlierStands : Codings → List ℕ → Type 0
EarlierStands g bytes = (a b : ℕ) → read_options g (2 ∷ 4 ∷ a ∷ b ∷ bytes) ≡ only_mss (word a b)
