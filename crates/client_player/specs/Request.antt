-- The replay format (docs/REPLAY.md), "Lines in", of `client_replay`: which request a line is.
-- Assumes nothing.
use Rattle.std.specs.Prelude.{ℕ, Bool, false, List, [], ◌∷◌, Option, Some}
use Rattle.segment.specs.Options.{codings_of}
use Rattle.client.specs.Call.{Call, connect, answer, failed}
use Rattle.text.specs.Argument.{time_at, port_at, number_at, out_at, both_at, bytes_at, ◌⊛◌, is_call, first_case}

-- A start with a family, or a call on the memory.
pub data Request : Type 0 where
  start : ℕ → Request
  call : Call → Request

-- What an opening and an answer begin with: the time, the two addresses and ports, and our initial number.
pub record BothEnds : Type 0 where
  pub time : ℕ
  pub own : List ℕ
  pub source : ℕ
  pub server : List ℕ
  pub dest : ℕ
  pub iss : ℕ

abbrev pub ends_with : ℕ → List ℕ → ℕ → List ℕ → ℕ → ℕ → BothEnds
ends_with t own source server dest iss = record { time = t; own = own; source = source; server = server; dest = dest; iss = iss }

-- a request of its words, in their order

abbrev pub starting : ℕ → Request
starting n = start n

abbrev pub opening : BothEnds → ℕ → ℕ → List ℕ → Request
opening e mss out offered = call (connect e.time e.own e.server (record { source = e.source; dest = e.dest; iss = e.iss; mss = mss }) offered out)

abbrev pub answering : BothEnds → ℕ → List ℕ → Bool → Request
answering e sent seg both = call (answer e.time e.own e.server (record { source = e.source; dest = e.dest; iss = e.iss; sent = sent }) seg (codings_of both))

abbrev pub failing : ℕ → List ℕ → ℕ → Request
failing t server port = call (failed t server port)

-- Each line, if its words are right.

-- start FAMILY
abbrev pub start_in : List ℕ → Option Request
start_in s = Some starting ⊛ time_at 1 s

-- TIME OWN-ADDRESS OWN-PORT SERVER-ADDRESS SERVER-PORT OURS
abbrev pub ends_in : List ℕ → Option BothEnds
ends_in s = Some ends_with ⊛ time_at 1 s ⊛ bytes_at 2 s ⊛ port_at 3 s ⊛ bytes_at 4 s ⊛ port_at 5 s ⊛ number_at 6 s

-- open TIME OWN-ADDRESS OWN-PORT SERVER-ADDRESS SERVER-PORT OURS MSS OUT DATA
abbrev pub open_in : List ℕ → Option Request
open_in s = Some opening ⊛ ends_in s ⊛ number_at 7 s ⊛ out_at 8 s ⊛ bytes_at 9 s

-- answer TIME OWN-ADDRESS OWN-PORT SERVER-ADDRESS SERVER-PORT OURS SENT SEGMENT, with what new|both comes to
abbrev pub answer_in : Option Bool → List ℕ → Option Request
answer_in both s = Some answering ⊛ ends_in s ⊛ number_at 7 s ⊛ bytes_at 8 s ⊛ both

-- failed TIME SERVER-ADDRESS SERVER-PORT
abbrev pub failed_in : List ℕ → Option Request
failed_in s = Some failing ⊛ time_at 1 s ⊛ bytes_at 2 s ⊛ port_at 3 s

-- A line is one of these by its first word, and by how many spaces it has.

-- `open`, `answer` without new|both, which is then new, and with it, `failed`, `start`
abbrev pub cases : List ℕ → List (Bool × Option Request)
cases s =
    (is_call (111 ∷ 112 ∷ 101 ∷ 110 ∷ []) 9 s, open_in s)
    ∷ (is_call (97 ∷ 110 ∷ 115 ∷ 119 ∷ 101 ∷ 114 ∷ []) 8 s, answer_in (Some false) s)
    ∷ (is_call (97 ∷ 110 ∷ 115 ∷ 119 ∷ 101 ∷ 114 ∷ []) 9 s, answer_in (both_at 9 s) s)
    ∷ (is_call (102 ∷ 97 ∷ 105 ∷ 108 ∷ 101 ∷ 100 ∷ []) 3 s, failed_in s)
    ∷ (is_call (115 ∷ 116 ∷ 97 ∷ 114 ∷ 116 ∷ []) 1 s, start_in s)
    ∷ []

-- the request of a line that is not silent and not too long; none where it is bad
unfoldable pub request_in : List ℕ → Option Request
request_in s = first_case (cases s)
