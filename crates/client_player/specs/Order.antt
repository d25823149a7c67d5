-- For the code alone: a request as it is read, with the lengths of its byte strings, whose bytes are at the start of three buffers.
-- Assumes nothing.
use Rattle.std.specs.Prelude.{ℕ, min, List, Option, Some, None, take}
use Rattle.client_player.specs.Request.{Request, BothEnds, ends_with, starting, opening, answering, failing}
use Rattle.client_player.specs.declared.read.Ends.{Ends}
use Rattle.client_player.specs.declared.read.Order.{Order}
use Rattle.client_player.specs.declared.read.Order.TheVariants.{Start, Open, Answer, Failed}

-- both ends, with the bytes in the buffers
abbrev pub ends_of : Ends → List ℕ → List ℕ → BothEnds
ends_of e a b = ends_with e.time (take e.own a) e.source (take e.server b) e.dest e.iss

abbrev pub ends_read : Option Ends → List ℕ → List ℕ → Option BothEnds
ends_read None a b = None
ends_read (Some e) a b = Some (ends_of e a b)

-- OUT
abbrev pub out_length : Order → ℕ
out_length (Start n) = 0
out_length (Open e mss out k) = out
out_length (Answer e sent k both) = 0
out_length (Failed t n p) = 0

-- the request, with the bytes in the buffers and an output of so many bytes
abbrev pub request_with : Order → List ℕ → List ℕ → List ℕ → ℕ → Request
request_with (Start n) a b d out = starting n
request_with (Open e mss o k) a b d out = opening (ends_of e a b) mss out (take k d)
request_with (Answer e sent k both) a b d out = answering (ends_of e a b) sent (take k d) both
request_with (Failed t n p) a b d out = failing t (take n a) p

abbrev pub request_read : Option Order → List ℕ → List ℕ → List ℕ → Option Request
request_read None a b d = None
request_read (Some o) a b d = Some (request_with o a b d (min (out_length o) 2048))
