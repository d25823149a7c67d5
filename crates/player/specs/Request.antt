-- The replay format (docs/REPLAY.md), "Lines in", of `replay`: which request a line is.
-- Assumes nothing.
use Rattle.std.specs.Prelude.{ℕ, Bool, true, false, List, [], ◌∷◌, Option, Some}
use Rattle.segment.specs.Options.{codings_of}
use Rattle.protocol.specs.declared.state.Settings.{Settings}
use Rattle.protocol.specs.Call.{fresh_share, Call, segment, settings, key, resend}
use Rattle.protocol.specs.Refusals.{release_of}
use Rattle.text.specs.Argument.{time_at, port_at, number_at, out_at, on_at, both_at, bytes_at, ◌⊛◌, is_call, first_case}

-- A start with own address, port and key, or a call on the listener.
pub data Request : Type 0 where
  start : List ℕ → ℕ → List ℕ → Request
  call : Call → Request

-- a request of its words, in their order

abbrev pub starting : List ℕ → ℕ → List ℕ → Request
starting own port k = start own port k

abbrev pub settings_of : Bool → ℕ → ℕ → ℕ → ℕ → Bool → ℕ → Settings
settings_of on limit early-room hold mss both share =
    record { on = on; limit = limit; early_room = early-room; hold = hold; mss = mss; codings = codings_of both; share = share }

abbrev pub setting : ℕ → Bool → ℕ → ℕ → ℕ → ℕ → Bool → ℕ → Request
setting t on limit early-room hold mss both share = call (settings t (settings_of on limit early-room hold mss both share))

abbrev pub keying : ℕ → List ℕ → Request
keying t k = call (key t k)

abbrev pub taking : ℕ → List ℕ → ℕ → ℕ → List ℕ → Request
taking t src iss out seg = call (segment t src seg iss out)

abbrev pub releasing : Bool → ℕ → List ℕ → ℕ → Request
releasing established t a p = call (release_of established t a p)

abbrev pub resending : ℕ → List ℕ → ℕ → ℕ → Request
resending t a p out = call (resend t a p out)

-- Each line, if its words are right.

-- start ADDRESS PORT KEY
abbrev pub start_in : List ℕ → Option Request
start_in s = Some starting ⊛ bytes_at 1 s ⊛ port_at 2 s ⊛ bytes_at 3 s

-- settings TIME on|off LIMIT ROOM HOLD MSS, with what new|both and SHARE come to
abbrev pub settings_in : Option Bool → Option ℕ → List ℕ → Option Request
settings_in both share s = Some setting ⊛ time_at 1 s ⊛ on_at 2 s ⊛ number_at 3 s ⊛ number_at 4 s ⊛ number_at 5 s ⊛ number_at 6 s ⊛ both ⊛ share

-- key TIME KEY
abbrev pub key_in : List ℕ → Option Request
key_in s = Some keying ⊛ time_at 1 s ⊛ bytes_at 2 s

-- segment TIME ADDRESS OURS OUT SEGMENT
abbrev pub segment_in : List ℕ → Option Request
segment_in s = Some taking ⊛ time_at 1 s ⊛ bytes_at 2 s ⊛ number_at 3 s ⊛ out_at 4 s ⊛ bytes_at 5 s

-- abandon TIME ADDRESS PORT, and close likewise
abbrev pub release_in : Bool → List ℕ → Option Request
release_in established s = Some (releasing established) ⊛ time_at 1 s ⊛ bytes_at 2 s ⊛ port_at 3 s

-- resend TIME ADDRESS PORT OUT
abbrev pub resend_in : List ℕ → Option Request
resend_in s = Some resending ⊛ time_at 1 s ⊛ bytes_at 2 s ⊛ port_at 3 s ⊛ out_at 4 s

-- A line is one of these by its first word, and by how many spaces it has.

-- `segment`, `start`, `settings` without new|both and SHARE, which are then new and the fresh share, without SHARE, and with both, `key`, `abandon`, `close`, `resend`
abbrev pub cases : List ℕ → List (Bool × Option Request)
cases s =
    (is_call (115 ∷ 101 ∷ 103 ∷ 109 ∷ 101 ∷ 110 ∷ 116 ∷ []) 5 s, segment_in s)
    ∷ (is_call (115 ∷ 116 ∷ 97 ∷ 114 ∷ 116 ∷ []) 3 s, start_in s)
    ∷ (is_call (115 ∷ 101 ∷ 116 ∷ 116 ∷ 105 ∷ 110 ∷ 103 ∷ 115 ∷ []) 6 s, settings_in (Some false) (Some fresh_share) s)
    ∷ (is_call (115 ∷ 101 ∷ 116 ∷ 116 ∷ 105 ∷ 110 ∷ 103 ∷ 115 ∷ []) 7 s, settings_in (both_at 7 s) (Some fresh_share) s)
    ∷ (is_call (115 ∷ 101 ∷ 116 ∷ 116 ∷ 105 ∷ 110 ∷ 103 ∷ 115 ∷ []) 8 s, settings_in (both_at 7 s) (number_at 8 s) s)
    ∷ (is_call (107 ∷ 101 ∷ 121 ∷ []) 2 s, key_in s)
    ∷ (is_call (97 ∷ 98 ∷ 97 ∷ 110 ∷ 100 ∷ 111 ∷ 110 ∷ []) 3 s, release_in false s)
    ∷ (is_call (99 ∷ 108 ∷ 111 ∷ 115 ∷ 101 ∷ []) 3 s, release_in true s)
    ∷ (is_call (114 ∷ 101 ∷ 115 ∷ 101 ∷ 110 ∷ 100 ∷ []) 4 s, resend_in s)
    ∷ []

-- the request of a line that is not silent and not too long; none where it is bad
unfoldable pub request_in : List ℕ → Option Request
request_in s = first_case (cases s)
