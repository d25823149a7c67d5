-- Document 01, "Client", and document 02, Item 2: what is stored for a server address, how much data goes with its cookie, and the order of the stored addresses.
-- Assumes nothing.
use Rattle.std.specs.Prelude.{ℕ, ◌-◌, min, List, ◌∷◌, Bool, true, false, cond, eqb, length, take, get_or, replicate, None, Option, Some, unwrap_or, position}
use Rattle.std.specs.Option.{option_or}
use Rattle.segment.specs.Options.{is_cookie_length}
use Rattle.segment.specs.Write.{option_length}
use Rattle.segment.specs.declared.options.Coding.TheVariants.{New}
use Rattle.lists.specs.Bytes.{same_bytes}
use Rattle.lists.specs.Lists.{first_index, drop_first}
use Rattle.endpoint.specs.Address.{block}
use Rattle.endpoint.specs.declared.address.Family.{Family}
use Rattle.endpoint.specs.declared.address.Family.TheVariants.{V4, V6}
use Rattle.client.specs.declared.cache.Cookie.{Cookie}
use Rattle.client.specs.declared.cache.Entry.{Entry}

-- how many server addresses are stored, and how many bans there may be
abbrev pub place_count : ℕ
place_count = 32

-- A place of the cache has an entry, or none: nothing is stored there.

-- what is stored for the server address with this block
unfoldable pub is_for : List ℕ → Option Entry → Bool
is_for b None = false
is_for b (Some e) = same_bytes e.addr b

-- where, if anything is, and what
abbrev pub place_of : List ℕ → List (Option Entry) → Option ℕ
place_of b es = position (is_for b) es

abbrev pub entry_for : List ℕ → List (Option Entry) → Option Entry
entry_for b es = get_or es (first_index (is_for b) es) None

-- the cookie and the MSS of what is stored
abbrev pub no_cookie : Cookie
no_cookie = record { bytes = replicate 16 0; len = 0 }

abbrev pub stored_cookie : Option Entry → Cookie
stored_cookie None = no_cookie
stored_cookie (Some e) = e.cookie

abbrev pub stored_mss : Option Entry → Option ℕ
stored_mss None = None
stored_mss (Some e) = e.mss

-- The bytes of a cookie; none where the length is no cookie's. (The calls store no such length, but a memory's fields are public.)
abbrev pub size_of : Cookie → ℕ
size_of c = cond (is_cookie_length c.len) c.len 0

abbrev pub bytes_of : Cookie → List ℕ
bytes_of c = take (size_of c) c.bytes

abbrev pub cookie_length : Option Entry → ℕ
cookie_length e = size_of (stored_cookie e)

abbrev pub cookie_of : Option Entry → List ℕ
cookie_of e = bytes_of (stored_cookie e)

-- How much data goes with a cookie

-- where no MSS is stored
abbrev pub default_mss : Family → ℕ
default_mss V4 = 536
default_mss V6 = 1220

-- the cap, whatever MSS is stored
abbrev pub mss_cap : Family → ℕ
mss_cap V4 = 1460
mss_cap V6 = 1440

-- the MSS, stored or by default, up to the cap: what options and data may have together
abbrev pub mss_for : Family → Option Entry → ℕ
mss_for f e = min (unwrap_or (stored_mss e) (default_mss f)) (mss_cap f)

-- what the options leave of it; none where they are longer
unfoldable pub data_room : Family → Option Entry → ℕ
data_room f e = mss_for f e - option_length true New (cookie_length e)

-- What is stored next

-- a cookie that is not empty and an MSS that is given replace what was stored for the address (the first of the two that is given, the new one before the old)
abbrev pub new_cookie : Option Entry → List ℕ → Cookie
new_cookie old cookie = cond (eqb (length cookie) 0) (stored_cookie old) (record { bytes = block cookie; len = length cookie })

abbrev pub learned_from : Option Entry → List ℕ → List ℕ → Option ℕ → Entry
learned_from old b cookie mss = record { addr = b; cookie = new_cookie old cookie; mss = option_or mss (stored_mss old) }

-- The most recent is first. An entry that is stored leaves its address's old place and becomes the most recent; of 33 the least recent is dropped.
abbrev pub remembered : Entry → List (Option Entry) → List (Option Entry)
remembered e es = take place_count (Some e ∷ drop_first (is_for e.addr) es)
