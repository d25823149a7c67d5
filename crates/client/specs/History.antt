-- Document 01, "Client", over every list of a memory's calls: what a record of the calls, fed each call and the number returned, has as stored.
-- Assumes nothing.
use Rattle.std.specs.Prelude.{ℕ, ◌≤◌, ◌≡◌, List, [], ◌∷◌, ◌++◌, map, Bool, true, false, cond, not, ◌&&◌, ◌||◌, eqb, length, take, None, Option, Some, is_some}
use Rattle.lists.specs.Bytes.{same_bytes}
use Rattle.lists.specs.Lists.{tally}
use Rattle.endpoint.specs.Address.{size, is_address}
use Rattle.endpoint.specs.declared.address.Family.{Family}
use Rattle.client.specs.Cache.{place_count, stored_mss, bytes_of, cookie_of}
use Rattle.client.specs.Bans.{is_ban}
use Rattle.client.specs.Call.{Call, connect, answer, failed, number_of_event}
use Rattle.client.specs.Step.{start_of, cookie_in, mss_in, stored_for, step}
use Rattle.client.specs.declared.cache.Entry.{Entry}
use Rattle.client.specs.declared.state.Memory.{Memory}

-- The record of the calls

-- one store: a server address, with the cookie (empty for none) and the MSS that the answer brought
pub record Store : Type 0 where
  pub address : List ℕ
  pub cookie : List ℕ
  pub mss : Option ℕ

-- an answer brings something to store
abbrev pub is_store : List ℕ → Option ℕ → Bool
is_store [] None = false
is_store [] (Some v) = true
is_store (x ∷ c) mss = true

-- The stores, the newest first. An answer that was not refused is one if it brings a cookie or an MSS.
abbrev pub stores_with : List Store → List ℕ → List ℕ → Option ℕ → List Store
stores_with s server cookie mss = cond (is_store cookie mss) (record { address = server; cookie = cookie; mss = mss } ∷ s) s

abbrev pub stores_after : List Store → Call → ℕ → List Store
stores_after s (connect t own server o offered out_len) number = s
stores_after s (answer t own server a seg g) number = cond (eqb number 0) (stores_with s server (cookie_in g seg) (mss_in g seg)) s
stores_after s (failed t server port) number = s

-- What it has as stored

unfoldable pub member : List ℕ → List (List ℕ) → Bool
member a [] = false
member a (x ∷ xs) = same_bytes x a || member a xs

unfoldable pub without : List ℕ → List (List ℕ) → List (List ℕ)
without a [] = []
without a (x ∷ xs) = cond (same_bytes x a) (without a xs) (x ∷ without a xs)

-- each address once, where it stands first
unfoldable pub distinct : List (List ℕ) → List (List ℕ)
distinct [] = []
distinct (a ∷ more) = a ∷ without a (distinct more)

-- the 32 addresses whose last store is most recent, in that order
abbrev pub recent : List Store → List (List ℕ)
recent s = take place_count (distinct (map (λ x. x.address) s))

-- The last cookie, not empty, that was stored for an address since it was last absent, and the last MSS: going back through the stores, for as long as the address is
-- among the recent ones.
unfoldable pub last_cookie : List ℕ → List Store → List ℕ
last_cookie a [] = []
last_cookie a (x ∷ s) =
    cond (member a (recent (x ∷ s)))
    (cond (same_bytes x.address a && not (eqb (length x.cookie) 0)) x.cookie (last_cookie a s))
    []

unfoldable pub last_mss : List ℕ → List Store → Option ℕ
last_mss a [] = None
last_mss a (x ∷ s) =
    cond (member a (recent (x ∷ s)))
    (cond (same_bytes x.address a && is_some x.mss) x.mss (last_mss a s))
    None

abbrev pub recalled : List Store → List Store
recalled s = map (λ a. record { address = a; cookie = last_cookie a s; mss = last_mss a s }) (recent s)

-- What the memory has

-- the entry as a store: its address out of the block, its cookie, its MSS
abbrev pub entry_as : Family → Entry → Store
entry_as f e = record { address = take (size f) e.addr; cookie = bytes_of e.cookie; mss = e.mss }

-- the entries, in their order
unfoldable pub stored_in : Family → List (Option Entry) → List Store
stored_in f [] = []
stored_in f (None ∷ es) = stored_in f es
stored_in f (Some e ∷ es) = entry_as f e ∷ stored_in f es

-- Over a list of calls

-- the memory that the calls leave
unfoldable pub run : Memory → List Call → Memory
run m [] = m
run m (c ∷ cs) = run (step m c).memory cs

-- the calls with the numbers that they returned: all that the record is fed
pub record Fed : Type 0 where
  pub call : Call
  pub number : ℕ

unfoldable pub numbered : Memory → List Call → List Fed
numbered m [] = []
numbered m (c ∷ cs) = record { call = c; number = number_of_event (step m c).event } ∷ numbered (step m c).memory cs

-- the stores among them
unfoldable pub stores_of : List Store → List Fed → List Store
stores_of s [] = s
stores_of s (f ∷ fs) = stores_of (stores_after s f.call f.number) fs

-- every element is unlike those after it
unfoldable pub Once : List (List ℕ) → Type 0
Once [] = Unit {0}
Once (a ∷ more) = (member a more ≡ false) × Once more

module _ (n : ℕ) (calls : List Call) where
  -- after a start for addresses of n bytes
  abbrev pub started : Memory
  started = (start_of n).memory

  abbrev pub memory_after : Memory
  memory_after = run started calls

  abbrev pub stores : List Store
  stores = stores_of [] (numbered started calls)

  pub record Remembers : Type 0 where
    -- the stored addresses are the 32 most recent, in their order, each with its last cookie and its last MSS
    pub stored : stored_in started.family memory_after.cache ≡ recalled stores
    -- so an opening finds the last cookie of its server, and the last MSS
    pub found : (server : List ℕ) → is_address started.family server ≡ true
        → (cookie_of (stored_for memory_after server) ≡ last_cookie server stores) × (stored_mss (stored_for memory_after server) ≡ last_mss server stores)
    -- no address stands twice
    pub once : Once (map (λ x. x.address) (stored_in started.family memory_after.cache))
    -- no two live bans have one name, at the clock or later
    pub alone : (t : ℕ) → memory_after.clock ≤ t → (b : List ℕ) (port : ℕ) → tally (is_ban t b port) memory_after.bans ≤ 1
    -- the clock never falls, whatever calls come after
    pub clock : (more : List Call) → memory_after.clock ≤ (run started (calls ++ more)).clock
