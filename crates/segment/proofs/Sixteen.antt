-- Document 01, "The table of sixteen": the rows that speak of this crate's definitions, computed. Assumes nothing.
use Rattle.std.proofs.Common.{◌≡◌, ℕ, suc, ◌+◌, ◌≤◌, Bool, true, false, cond, List, [], ◌∷◌, length, refl, ap, arith, le-leb}
use Rattle.segment.specs.Bytes.{word}
use Rattle.segment.specs.Sequence.{next_after, difference, in_window}
use Rattle.segment.specs.Options.{nothing, is_mss_option, mss_option, is_cookie_length, cookie_at, is_in, option_in, fast_open_option, with_option, read_from, read_options}
use Rattle.segment.specs.Found.{only_fast_open, only_mss, FoundCookie, EarlierStands}
use Rattle.segment.specs.Checksum.{ones_add, ones_sum, pseudo_header, segment_sum}
use Rattle.segment.specs.Write.{option_bytes, header_bytes, segment_with, segment_bytes, option_allowed, can_write, written, syn_ack_bytes}
use Rattle.segment.specs.declared.options.Coding.{Coding}
use Rattle.segment.specs.declared.options.Coding.TheVariants.{New}
use Rattle.segment.specs.declared.options.Codings.{Codings}
use Rattle.segment.specs.declared.options.FastOpenOption.TheVariants.{Request}

-- 1, 2: acknowledgements
pub row1 : next_after 4294967295 0 ≡ 0
unfolding next_after
row1 = refl

pub row2 : next_after 4294967290 10 ≡ 5
unfolding next_after
row2 = refl

-- 3 to 5: the window of a completion
pub row3 : in_window 5 65539 ≡ true
unfolding in_window difference
row3 = refl

pub row4 : in_window 5 65540 ≡ false
unfolding in_window difference
row4 = refl

pub row5 : in_window 5 4 ≡ false
unfolding in_window difference
row5 = refl

-- 6: a request
pub row6 : (g : Codings) → read_options g (34 ∷ 2 ∷ []) ≡ only_fast_open (Request New)
unfolding read_options read_from with_option is_mss_option mss_option fast_open_option is_in option_in cookie_at is_cookie_length
row6 g = refl

-- 7, 8: skipped. Nothing is found, and a request that follows is.
pub row7 : (g : Codings) → (read_options g (34 ∷ 3 ∷ 0 ∷ []) ≡ nothing) × (read_options g (34 ∷ 3 ∷ 0 ∷ 34 ∷ 2 ∷ []) ≡ only_fast_open (Request New))
unfolding read_options read_from with_option is_mss_option mss_option fast_open_option is_in option_in cookie_at is_cookie_length
row7 g = (refl, refl)

pub row8 : (g : Codings) → (read_options g (34 ∷ 4 ∷ 1 ∷ 2 ∷ []) ≡ nothing) × (read_options g (34 ∷ 4 ∷ 1 ∷ 2 ∷ 34 ∷ 2 ∷ []) ≡ only_fast_open (Request New))
unfolding read_options read_from with_option is_mss_option mss_option fast_open_option is_in option_in cookie_at is_cookie_length
row8 g = (refl, refl)

-- 9, 10: the shortest cookie and the longest, whatever their bytes
pub row9 : (g : Codings) (a b c d : ℕ) → FoundCookie g (a ∷ b ∷ c ∷ d ∷ []) (34 ∷ 6 ∷ a ∷ b ∷ c ∷ d ∷ [])
unfolding read_options read_from with_option is_mss_option mss_option fast_open_option is_in option_in cookie_at is_cookie_length
row9 g a b c d = (refl, refl)

pub row10 : (u : Codings) (a b c d e f g h i j k l m n o p : ℕ)
    → FoundCookie u (a ∷ b ∷ c ∷ d ∷ e ∷ f ∷ g ∷ h ∷ i ∷ j ∷ k ∷ l ∷ m ∷ n ∷ o ∷ p ∷ [])
    (34 ∷ 18 ∷ a ∷ b ∷ c ∷ d ∷ e ∷ f ∷ g ∷ h ∷ i ∷ j ∷ k ∷ l ∷ m ∷ n ∷ o ∷ p ∷ [])
unfolding read_options read_from with_option is_mss_option mss_option fast_open_option is_in option_in cookie_at is_cookie_length
row10 u a b c d e f g h i j k l m n o p = (refl, refl)

-- 11: reading ends, whatever follows, and what was found before stands
pub row11 : (g : Codings) (rest : List ℕ) → (read_options g (34 ∷ 0 ∷ rest) ≡ nothing) × EarlierStands g (34 ∷ 0 ∷ rest)
unfolding read_options read_from with_option is_mss_option mss_option fast_open_option is_in option_in cookie_at is_cookie_length
row11 g rest = (refl, earlier)
  where
    earlier : EarlierStands g (34 ∷ 0 ∷ rest)
    earlier a b = ap (λ (fits : Bool). cond fits (only_mss (word a b)) nothing) (le-leb 4 (suc (suc (suc (suc (suc (length rest))))) + 1) (omega arith))

-- 12: reading ends at the last byte, and what was found before stands
pub row12 : (g : Codings) → (read_options g (34 ∷ []) ≡ nothing) × EarlierStands g (34 ∷ [])
unfolding read_options read_from with_option is_mss_option mss_option fast_open_option is_in option_in cookie_at is_cookie_length
row12 g = (refl, λ a b. refl)

-- 16: the SYN-ACK's bytes, in any output that is long enough
pub row16 : (c : Coding) (cookie : List ℕ) (out_len : ℕ) → 24 ≤ out_len
    → syn_ack_bytes (192 ∷ 0 ∷ 2 ∷ 2 ∷ []) (192 ∷ 0 ∷ 2 ∷ 1 ∷ [])
    (record { source = 443; dest = 40000; iss = 1000; irs = 4294967295; accepted = 0; mss = 1460; fresh = false; coding = c }) cookie out_len
    ≡ 0x01 ∷ 0xBB ∷ 0x9C ∷ 0x40 ∷ 0x00 ∷ 0x00 ∷ 0x03 ∷ 0xE8 ∷ 0x00 ∷ 0x00 ∷ 0x00 ∷ 0x00 ∷ 0x60 ∷ 0x12 ∷ 0xFF ∷ 0xFF
    ∷ 0x72 ∷ 0x2F ∷ 0x00 ∷ 0x00 ∷ 0x02 ∷ 0x04 ∷ 0x05 ∷ 0xB4 ∷ []
unfolding syn_ack_bytes written can_write option_allowed next_after segment_bytes segment_with segment_sum header_bytes pseudo_header option_bytes ones_sum ones_add
row16 c cookie out_len h = rw (le-leb 24 out_len h)
