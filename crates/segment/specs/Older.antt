-- Document 02, Item 4: samples of the older coding, and that with new only an option is document 01's.
-- Assumes nothing.
use Rattle.std.specs.Prelude.{◌≡◌, ℕ, ◌+◌, ◌-◌, true, false, cond, List, [], ◌∷◌, ◌++◌, ◌==◌}
use Rattle.segment.specs.Bytes.{byte_at}
use Rattle.segment.specs.Options.{nothing, cookie_at, is_in, fast_open_option, read_options, cookie_bytes}
use Rattle.segment.specs.Write.{mss_bytes, option_bytes}
use Rattle.segment.specs.Found.{only_fast_open}
use Rattle.segment.specs.declared.options.Coding.TheVariants.{New, Older}
use Rattle.segment.specs.declared.options.Codings.TheVariants.{NewOnly, Both}
use Rattle.segment.specs.declared.options.FastOpenOption.TheVariants.{Absent, Request, Cookie}

-- 254, 4, F9, 89
abbrev pub older_request : List ℕ
older_request = 254 ∷ 4 ∷ 0xF9 ∷ 0x89 ∷ []

-- two options of other experiments, and one too short to name any
abbrev pub other_experiments : List ℕ
other_experiments = 254 ∷ 6 ∷ 0 ∷ 0 ∷ 1 ∷ 2 ∷ 254 ∷ 4 ∷ 0 ∷ 0 ∷ 254 ∷ 3 ∷ 0xF9 ∷ []

pub record OlderCoding : Type 0 where
  pub request : read_options Both older_request ≡ only_fast_open (Request Older)
  pub cookie : (a b c d e f g h : ℕ)
      → (read_options Both (254 ∷ 12 ∷ 0xF9 ∷ 0x89 ∷ a ∷ b ∷ c ∷ d ∷ e ∷ f ∷ g ∷ h ∷ []) ≡ only_fast_open (Cookie Older 4 8))
      × (cookie_bytes (Cookie Older 4 8) (254 ∷ 12 ∷ 0xF9 ∷ 0x89 ∷ a ∷ b ∷ c ∷ d ∷ e ∷ f ∷ g ∷ h ∷ []) ≡ a ∷ b ∷ c ∷ d ∷ e ∷ f ∷ g ∷ h ∷ [])
  -- a Fast Open option, but with two bytes of cookie: skipped, so that one behind is found
  pub skipped : (is_in Older (254 ∷ 6 ∷ 0xF9 ∷ 0x89 ∷ 1 ∷ 2 ∷ []) 0 6 ≡ true)
      × ((read_options Both (254 ∷ 6 ∷ 0xF9 ∷ 0x89 ∷ 1 ∷ 2 ∷ []) ≡ nothing)
      × (read_options Both (254 ∷ 6 ∷ 0xF9 ∷ 0x89 ∷ 1 ∷ 2 ∷ older_request) ≡ only_fast_open (Request Older)))
  -- no Fast Open options: passed over by their lengths
  pub unknown : (is_in Older other_experiments 0 6 ≡ false)
      × ((is_in Older other_experiments 6 4 ≡ false)
      × ((is_in Older other_experiments 10 3 ≡ false)
      × ((read_options Both other_experiments ≡ nothing)
      × (read_options Both (other_experiments ++ older_request) ≡ only_fast_open (Request Older)))))
  -- nor where one of the two bytes is another, or they stand behind the option
  pub misnamed : (read_options Both (254 ∷ 4 ∷ 0xF9 ∷ 0 ∷ []) ≡ nothing)
      × ((read_options Both (254 ∷ 4 ∷ 0 ∷ 0x89 ∷ []) ≡ nothing)
      × ((read_options Both (254 ∷ 3 ∷ 0xF9 ∷ 0x89 ∷ 2 ∷ []) ≡ nothing)
      × (read_options Both (254 ∷ 2 ∷ 0xF9 ∷ 0x89 ∷ []) ≡ nothing)))
  -- of two that count the first, in either order; with new only the one of kind 34
  pub first : (a b c d e f g h : ℕ)
      → (read_options Both (older_request ++ (34 ∷ 10 ∷ a ∷ b ∷ c ∷ d ∷ e ∷ f ∷ g ∷ h ∷ [])) ≡ only_fast_open (Request Older))
      × ((read_options Both (34 ∷ 10 ∷ a ∷ b ∷ c ∷ d ∷ e ∷ f ∷ g ∷ h ∷ older_request) ≡ only_fast_open (Cookie New 2 8))
      × (read_options NewOnly (older_request ++ (34 ∷ 10 ∷ a ∷ b ∷ c ∷ d ∷ e ∷ f ∷ g ∷ h ∷ [])) ≡ only_fast_open (Cookie New 6 8)))
  -- 01's definition of an option: kind 34, with its cookie after two bytes
  pub new-only : (area : List ℕ) (i len : ℕ) → fast_open_option NewOnly area i len ≡ cond (byte_at area i == 34) (cookie_at New (i + 2) (len - 2)) Absent
  -- the option area of an answer with a fresh cookie in the older coding has 16 bytes and no filler
  pub area : (mss a b c d e f g h : ℕ)
      → option_bytes mss true Older (a ∷ b ∷ c ∷ d ∷ e ∷ f ∷ g ∷ h ∷ []) ≡ mss_bytes mss ++ (254 ∷ 12 ∷ 0xF9 ∷ 0x89 ∷ a ∷ b ∷ c ∷ d ∷ e ∷ f ∷ g ∷ h ∷ [])
