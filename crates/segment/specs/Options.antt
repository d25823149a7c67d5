-- RFC 9293, 3.1 and 3.2, RFC 7413, 4.1.1 and 9, document 01, "Options", and document 02, Item 4: what reading an option area finds.
-- Assumes nothing.
use Rattle.std.specs.Prelude.{ℕ, zero, suc, ◌+◌, ◌-◌, ◌%◌, Bool, true, false, cond, ◌&&◌, List, [], ◌∷◌, length, take, drop, ◌==◌, nat_le, None, Option, Some}
use Rattle.segment.specs.Bytes.{byte_at, word_at}
use Rattle.segment.specs.Header.{option_area, has, SYN}
use Rattle.segment.specs.declared.options.Coding.{Coding}
use Rattle.segment.specs.declared.options.Coding.TheVariants.{New, Older}
use Rattle.segment.specs.declared.options.Codings.{Codings}
use Rattle.segment.specs.declared.options.Codings.TheVariants.{NewOnly, Both}
use Rattle.segment.specs.declared.options.FastOpenOption.{FastOpenOption}
use Rattle.segment.specs.declared.options.FastOpenOption.TheVariants.{Absent, Request, Cookie}
use Rattle.segment.specs.declared.options.Options.{Options}

-- the own MSS that an end may be set to lies between these
abbrev pub least_mss : ℕ
least_mss = 536

abbrev pub most_mss : ℕ
most_mss = 1460

-- kind 2 counts with length 4
unfoldable pub is_mss_option : List ℕ → ℕ → ℕ → Bool
is_mss_option area i len = byte_at area i == 2 && len == 4

unfoldable pub mss_option : List ℕ → ℕ → ℕ → Option ℕ
mss_option area i len = cond (is_mss_option area i len) (Some (word_at area (i + 2))) None

-- RFC 7413, 4.1.1: a cookie has 4 to 16 bytes, an even number
unfoldable pub is_cookie_length : ℕ → Bool
is_cookie_length n = nat_le 4 n && (nat_le n 16 && n % 2 == 0)

-- an option with n bytes of cookie at a place: an empty cookie asks for one, and with any other length the option is skipped
unfoldable pub cookie_at : Coding → ℕ → ℕ → FastOpenOption
cookie_at c at n = cond (n == 0) (Request c) (cond (is_cookie_length n) (Cookie c at n) Absent)

-- Two codings: kind 34, and the older one, kind 254 with F9 89 behind its length (RFC 7413, 9). Other options of kind 254 are other experiments'.
unfoldable pub is_in : Coding → List ℕ → ℕ → ℕ → Bool
is_in New area i len = byte_at area i == 34
is_in Older area i len = byte_at area i == 254 && (nat_le 4 len && (byte_at area (i + 2) == 0xF9 && byte_at area (i + 3) == 0x89))

-- how many bytes stand before the cookie
abbrev pub prefix_length : Coding → ℕ
prefix_length New = 2
prefix_length Older = 4

-- So an option of len bytes counts with the prefix alone, which is length 2 or 4, and with an even 6 to 18, or 8 to 20.
unfoldable pub option_in : Coding → ℕ → ℕ → FastOpenOption
option_in c i len = cookie_at c (i + prefix_length c) (len - prefix_length c)

-- the codings that a setting counts: the new one always
abbrev pub counts_coding : Codings → Coding → Bool
counts_coding g New = true
counts_coding NewOnly Older = false
counts_coding Both Older = true

-- the setting, from whether the older one counts too
abbrev pub codings_of : Bool → Codings
codings_of false = NewOnly
codings_of true = Both

-- a Fast Open option in a coding that counts, whatever its length
abbrev pub is_fast_open_in : Codings → Coding → List ℕ → ℕ → ℕ → Bool
is_fast_open_in g c area i len = is_in c area i len && counts_coding g c

-- the option of len bytes, at least 2, at i
unfoldable pub fast_open_option : Codings → List ℕ → ℕ → ℕ → FastOpenOption
fast_open_option g area i len =
    cond (is_fast_open_in g New area i len) (option_in New i len)
    (cond (is_fast_open_in g Older area i len) (option_in Older i len) Absent)

-- a Fast Open option counts
abbrev pub is_counted : FastOpenOption → Bool
is_counted Absent = false
is_counted (Request c) = true
is_counted (Cookie c at len) = true

-- of several that count the first is used
abbrev pub first_mss : Option ℕ → Option ℕ → Option ℕ
first_mss None next = next
first_mss (Some v) next = Some v

abbrev pub first_fast_open : FastOpenOption → FastOpenOption → FastOpenOption
first_fast_open Absent next = next
first_fast_open (Request c) next = Request c
first_fast_open (Cookie c at len) next = Cookie c at len

abbrev pub nothing : Options
nothing = record { mss = None; fast = Absent }

-- what is found so far, and the option of len bytes at i
unfoldable pub with_option : Codings → List ℕ → Options → ℕ → ℕ → Options
with_option g area found i len =
    record {
      mss = first_mss found.mss (mss_option area i len);
      fast = first_fast_open found.fast (fast_open_option g area i len);
    }

-- One step, at a kind byte: kind 0 ends the list, kind 1 is one byte, and any other kind has a length of at least 2 that fits the bytes left, or the reading breaks off.
abbrev pub by_kind : {A : Type 0} → ℕ → ℕ → ℕ → A → A → A → A → A
by_kind kind len left end one whole broken =
    cond (kind == 0) end (cond (kind == 1) one (cond (nat_le 2 len && nat_le len left) whole broken))

-- Reading from place i on, where `rest` stands; `skip` bytes of it belong to the option before. To what is found so far `each` adds an option, at its place and with its length, and `broken` the
-- place where the reading breaks off.
unfoldable pub read_from : {A : Type 0} → (A → ℕ → ℕ → A) → (A → ℕ → A) → ℕ → ℕ → List ℕ → A → A
read_from each broken i skip [] found = found
read_from each broken i (suc skip) (b ∷ rest) found = read_from each broken (i + 1) skip rest found
read_from each broken i zero (kind ∷ rest) found =
    by_kind kind (byte_at rest 0) (length rest + 1) found
    (read_from each broken (i + 1) 0 rest found)
    (read_from each broken (i + 1) (byte_at rest 0 - 1) rest (each found i (byte_at rest 0)))
    (broken found i)

-- where it breaks off, what was found before stands
abbrev pub stands : Options → ℕ → Options
stands found i = found

unfoldable pub read_options : Codings → List ℕ → Options
read_options g area = read_from (with_option g area) stands 0 0 area nothing

-- Fast Open without the SYN flag is ignored
abbrev pub if_syn : Bool → Options → Options
if_syn true o = o
if_syn false o = record { mss = o.mss; fast = Absent }

-- the options of a segment that count, under a setting
unfoldable pub options_of : Codings → List ℕ → Options
options_of g seg = if_syn (has (byte_at seg 13) SYN) (read_options g (option_area seg))

-- the bytes of a cookie that was found in an area; none of a request
abbrev pub cookie_bytes : FastOpenOption → List ℕ → List ℕ
cookie_bytes Absent area = []
cookie_bytes (Request c) area = []
cookie_bytes (Cookie c at len) area = take len (drop at area)

-- the coding of an option; where there is none, the new one
abbrev pub coding_of : FastOpenOption → Coding
coding_of Absent = New
coding_of (Request c) = c
coding_of (Cookie c at len) = c
