-- The options that are used, by the places where they begin, counted from 1; 0 is none: one pass finds the places, and what stands there is what the reader finds.
-- Assumes nothing.
use Rattle.std.specs.Prelude.{◌≡◌, ℕ, ◌+◌, ◌-◌, ◌<◌, ◌≤◌, true, cond, List, length, ◌==◌, None, Option, Some}
use Rattle.segment.specs.Bytes.{byte_at, word_at}
use Rattle.segment.specs.Options.{is_mss_option, fast_open_option, is_counted, read_from}
use Rattle.segment.specs.Remarks.{no_remarks, first_at, with_remark, broken_at}
use Rattle.segment.specs.declared.options.Codings.{Codings}
use Rattle.segment.specs.declared.options.FastOpenOption.{FastOpenOption}
use Rattle.segment.specs.declared.options.FastOpenOption.TheVariants.{Absent}
use Rattle.segment.specs.declared.options.Options.{Options}
use Rattle.segment.specs.declared.options.Remarks.{Remarks}

-- what one pass over an area finds: the place of the MSS that is used, and the remarks, which have that of the Fast Open option
pub record Places : Type 0 where
  pub mss_at : ℕ
  pub remarks : Remarks

-- one pass, which has the place of the Fast Open option among the remarks
abbrev pub no_places : Places
no_places = record { mss_at = 0; remarks = no_remarks }

abbrev pub with_places : Codings → List ℕ → Places → ℕ → ℕ → Places
with_places g area p i len = record { mss_at = first_at p.mss_at (is_mss_option area i len) i; remarks = with_remark g area p.remarks i len }

abbrev pub places_broken : Places → ℕ → Places
places_broken p i = record { mss_at = p.mss_at; remarks = broken_at p.remarks i }

unfoldable pub places_in : Codings → List ℕ → Places
places_in g area = read_from (with_places g area) places_broken 0 0 area no_places

-- what begins at a place
unfoldable pub mss_value_at : List ℕ → ℕ → Option ℕ
mss_value_at area at = cond (at == 0) None (Some (word_at area (at + 1)))

unfoldable pub fast_at : Codings → List ℕ → ℕ → FastOpenOption
fast_at g area at = cond (at == 0) Absent (fast_open_option g area (at - 1) (byte_at area at))

abbrev pub found_at : Codings → List ℕ → Places → Options
found_at g area p = record { mss = mss_value_at area p.mss_at; fast = fast_at g area p.remarks.used }

-- if there is a place, four bytes lie in the area from there, or all of an option that counts
abbrev pub MssFits : List ℕ → ℕ → Type 0
MssFits area at = 0 < at → at + 3 ≤ length area

pub record FastFits (g : Codings) (area : List ℕ) (at : ℕ) : Type 0 where
  pub long : 0 < at → 2 ≤ byte_at area at
  pub fits : 0 < at → at + byte_at area at ≤ length area + 1
  pub counts : 0 < at → is_counted (fast_at g area at) ≡ true
