-- Document 01, "Cookie", and document 02, Item 4: the cookie of an address under a key, and when a cookie is right. Whether a cookie is right, and whether a fresh one is due, does not depend on its coding.
-- Assumes nothing.
use Rattle.std.specs.Prelude.{ℕ, List, Option, None, Some, Bool, true, false, ◌||◌, take, drop}
use Rattle.cipher.specs.Cipher.{cipher}
use Rattle.segment.specs.Header.{option_area}
use Rattle.segment.specs.Options.{options_of}
use Rattle.segment.specs.declared.options.Codings.{Codings}
use Rattle.segment.specs.declared.options.FastOpenOption.{FastOpenOption}
use Rattle.segment.specs.declared.options.FastOpenOption.TheVariants.{Absent, Request, Cookie}
use Rattle.lists.specs.Bytes.{same_bytes}
use Rattle.protocol.specs.declared.state.Keys.{Keys}

-- the first 8 bytes of the encryption of an address's block, under a key's round keys
unfoldable pub cookie_under : List ℕ → List ℕ → List ℕ
cookie_under round_keys b = take 8 (cipher round_keys b)

-- what a segment has as its counted Fast Open option: none, a request for a cookie, or a cookie
pub data Carried : Type 0 where
  nothing request : Carried
  cookie : List ℕ → Carried

-- the option that was found in an option area
abbrev pub found : FastOpenOption → List ℕ → Carried
found Absent area = nothing
found (Request coding) area = request
found (Cookie coding at len) area = cookie (take len (drop at area))

-- the Fast Open option of a segment that counts, in whichever coding of those that a setting counts
unfoldable pub carried_by : Codings → List ℕ → Carried
carried_by g seg = found (options_of g seg).fast (option_area seg)

abbrev pub counts : Carried → Bool
counts nothing = false
counts request = true
counts (cookie c) = true

-- an option has a cookie, and it is the one under these round keys
unfoldable pub right_under : List ℕ → List ℕ → Carried → Bool
right_under round_keys b nothing = false
right_under round_keys b request = false
right_under round_keys b (cookie c) = same_bytes c (cookie_under round_keys b)

-- under the previous key, if there is one
abbrev pub right_before : Option (List ℕ) → List ℕ → Carried → Bool
right_before None b o = false
right_before (Some round_keys) b o = right_under round_keys b o

-- under the present key or the previous one
unfoldable pub right : Keys → List ℕ → Carried → Bool
right k b o = right_under k.present b o || right_before k.previous b o
