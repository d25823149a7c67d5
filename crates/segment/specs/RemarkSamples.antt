-- Document 02, Item 7: the place of the used option agrees with what was found, and samples of the remarks.
-- Assumes nothing.
use Rattle.std.specs.Prelude.{◌≡◌, ℕ, ◌+◌, ◌<◌, List, [], ◌∷◌}
use Rattle.segment.specs.Options.{prefix_length, read_options, options_of}
use Rattle.segment.specs.Remarks.{no_remarks, remarks_in, remarks_of}
use Rattle.segment.specs.Places.{fast_at}
use Rattle.segment.specs.Older.{older_request, other_experiments}
use Rattle.segment.specs.declared.options.Codings.{Codings}
use Rattle.segment.specs.declared.options.Codings.TheVariants.{NewOnly, Both}
use Rattle.segment.specs.declared.options.FastOpenOption.{FastOpenOption}
use Rattle.segment.specs.declared.options.FastOpenOption.TheVariants.{Absent, Request, Cookie}
use Rattle.segment.specs.declared.options.Remarks.{Remarks}

-- none for none; a cookie stands behind its coding's prefix, and its own place counts from 0
abbrev pub Agrees : FastOpenOption → ℕ → Type 0
Agrees Absent used = used ≡ 0
Agrees (Request c) used = 0 < used
Agrees (Cookie c at len) used = (0 < used) × (used + prefix_length c ≡ at + 1)

abbrev pub says : ℕ → ℕ → ℕ → Remarks
says skipped used broken = record { skipped = skipped; used = used; broken = broken }

pub record RemarkSamples : Type 0 where
  -- the option that is found begins at the used place, in an area and in a segment
  pub begins : (g : Codings) (area : List ℕ) → fast_at g area (remarks_in g area).used ≡ (read_options g area).fast
  pub agrees_in : (g : Codings) (area : List ℕ) → Agrees (read_options g area).fast (remarks_in g area).used
  pub agrees_of : (g : Codings) (seg : List ℕ) → Agrees (options_of g seg).fast (remarks_of g seg).used
  -- An option of three bytes is skipped, before the request that is used or behind it. A second one that counts is neither used nor skipped.
  pub skipped : (g : Codings) → (remarks_in g (34 ∷ 3 ∷ 0 ∷ 34 ∷ 2 ∷ []) ≡ says 1 4 0)
      × ((remarks_in g (34 ∷ 2 ∷ 34 ∷ 3 ∷ 0 ∷ 34 ∷ 3 ∷ 0 ∷ []) ≡ says 2 1 0)
      × (remarks_in g (34 ∷ 2 ∷ 34 ∷ 2 ∷ []) ≡ says 0 1 0))
  -- in the older coding only where that counts; options of other experiments are not Fast Open's
  pub older : (remarks_in Both (254 ∷ 6 ∷ 0xF9 ∷ 0x89 ∷ 1 ∷ 2 ∷ older_request) ≡ says 1 7 0)
      × ((remarks_in NewOnly (254 ∷ 6 ∷ 0xF9 ∷ 0x89 ∷ 1 ∷ 2 ∷ older_request) ≡ no_remarks)
      × ((remarks_in Both (34 ∷ 4 ∷ 1 ∷ 2 ∷ 254 ∷ 5 ∷ 0xF9 ∷ 0x89 ∷ 1 ∷ []) ≡ says 2 0 0)
      × ((remarks_in Both (34 ∷ 2 ∷ older_request) ≡ says 0 1 0)
      × (remarks_in Both other_experiments ≡ no_remarks))))
  -- The reading breaks off at a length of 0 or of 1, without a length byte, and at a length past the area, whatever the kind. What was said before stands, and nothing behind counts.
  pub broken : (g : Codings) → (remarks_in g (2 ∷ 4 ∷ 5 ∷ 180 ∷ 34 ∷ 0 ∷ []) ≡ says 0 0 5)
      × ((remarks_in g (34 ∷ 1 ∷ []) ≡ says 0 0 1)
      × ((remarks_in g (34 ∷ []) ≡ says 0 0 1)
      × ((remarks_in g (34 ∷ 3 ∷ []) ≡ says 0 0 1)
      × ((remarks_in g (8 ∷ 3 ∷ []) ≡ says 0 0 1)
      × (remarks_in g (1 ∷ 34 ∷ 2 ∷ 34 ∷ 3 ∷ 0 ∷ 8 ∷ 0 ∷ 34 ∷ 2 ∷ []) ≡ says 1 2 7)))))
  -- kind 0 ends the list: what stands behind it is not looked at, and it is no break
  pub ended : (g : Codings) (rest : List ℕ) → (remarks_in g (0 ∷ rest) ≡ no_remarks) × (remarks_in g (34 ∷ 3 ∷ 0 ∷ 0 ∷ rest) ≡ says 1 0 0)
  -- an unknown option is passed over by its length and says nothing
  pub unknown : (g : Codings) → remarks_in g (8 ∷ 3 ∷ 0 ∷ 33 ∷ 3 ∷ 0 ∷ 35 ∷ 3 ∷ 0 ∷ 3 ∷ 3 ∷ 7 ∷ []) ≡ no_remarks
  -- two areas in which the same is found, and of which all three numbers differ
  pub apart : (g : Codings) → (read_options g (34 ∷ 2 ∷ 34 ∷ 3 ∷ 0 ∷ 8 ∷ 0 ∷ 0 ∷ []) ≡ read_options g (1 ∷ 1 ∷ 34 ∷ 2 ∷ []))
      × ((remarks_in g (34 ∷ 2 ∷ 34 ∷ 3 ∷ 0 ∷ 8 ∷ 0 ∷ 0 ∷ []) ≡ says 1 1 6)
      × (remarks_in g (1 ∷ 1 ∷ 34 ∷ 2 ∷ []) ≡ says 0 3 0))
