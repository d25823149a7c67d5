-- Document 01, "Client": the bans, which of them are live, and where a new one goes.
-- Assumes nothing.
use Rattle.std.specs.Prelude.{ℕ, ◌+◌, List, Bool, not, ◌&&◌, ltb, leb, replicate, set, Option, is_some, unwrap_or, position}
use Rattle.std.specs.Option.{option_or}
use Rattle.lists.specs.Lists.{first_index, every}
use Rattle.endpoint.specs.Address.{same_name}
use Rattle.client.specs.declared.bans.Ban.{Ban}

-- how long a ban lasts, in ms
abbrev pub ban_time : ℕ
ban_time = 600000

-- a place with no ban: an end at 0 is never after a time
abbrev pub zero_ban : Ban
zero_ban = record { addr = replicate 16 0; port = 0; end = 0 }

-- a ban is live at a time before its end
abbrev pub is_live : ℕ → Ban → Bool
is_live t x = ltb t x.end

-- a live ban of the server with this block and port
unfoldable pub is_ban : ℕ → List ℕ → ℕ → Ban → Bool
is_ban t b port x = is_live t x && same_name x.port port x.addr b

-- its place, if there is one
abbrev pub ban_place : ℕ → List ℕ → ℕ → List Ban → Option ℕ
ban_place t b port bans = position (is_ban t b port) bans

abbrev pub is_banned : ℕ → List ℕ → ℕ → List Ban → Bool
is_banned t b port bans = is_some (ban_place t b port bans)

-- the lowest place that is not live; none where all are
abbrev pub free_place : ℕ → List Ban → Option ℕ
free_place t bans = position (λ x. not (is_live t x)) bans

-- the lowest place of those that end first
unfoldable pub ends_first : List Ban → ℕ
ends_first bans = first_index (λ x. every (λ y. leb x.end y.end) bans) bans

-- A ban of a live name takes that place. Another takes the lowest place that is not live; when all 32 are live, the one that ends first makes way.
abbrev pub place_for : ℕ → List ℕ → ℕ → List Ban → ℕ
place_for t b port bans = unwrap_or (option_or (ban_place t b port bans) (free_place t bans)) (ends_first bans)

-- it ends 600,000 ms after it was set
abbrev pub new_ban : ℕ → List ℕ → ℕ → Ban
new_ban t b port = record { addr = b; port = port; end = t + ban_time }

unfoldable pub add_ban : ℕ → List ℕ → ℕ → List Ban → List Ban
add_ban t b port bans = set bans (place_for t b port bans) (new_ban t b port)
