-- A request as it is read, with the lengths of its byte strings, whose bytes are at the start of two buffers.
-- Assumes nothing.
use Rattle.std.specs.Prelude.{ℕ, min, List, Option, Some, None, take}
use Rattle.protocol.specs.Call.{settings}
use Rattle.player.specs.Request.{Request, call, starting, keying, taking, releasing, resending}
use Rattle.player.specs.declared.read.Order.{Order}
use Rattle.player.specs.declared.read.Order.TheVariants.{Start, Settings, Key, Segment, Release, Resend}

-- OUT
abbrev pub out_length : Order → ℕ
out_length (Start own port k) = 0
out_length (Settings t g) = 0
out_length (Key t k) = 0
out_length (Segment t src iss out seg) = out
out_length (Release established t a p) = 0
out_length (Resend t a p out) = out

-- the length of SEGMENT
abbrev pub seg_length : Order → ℕ
seg_length (Start own port k) = 0
seg_length (Settings t g) = 0
seg_length (Key t k) = 0
seg_length (Segment t src iss out seg) = seg
seg_length (Release established t a p) = 0
seg_length (Resend t a p out) = 0

-- the request, with the bytes in the buffers and an output of so many bytes
abbrev pub request_with : Order → List ℕ → List ℕ → ℕ → Request
request_with (Start own port k) a b out = starting (take own a) port (take k b)
request_with (Settings t g) a b out = call (settings t g)
request_with (Key t k) a b out = keying t (take k a)
request_with (Segment t src iss o seg) a b out = taking t (take src a) iss out (take seg b)
request_with (Release established t n p) a b out = releasing established t (take n a) p
request_with (Resend t n p o) a b out = resending t (take n a) p out

abbrev pub request_read : Option Order → List ℕ → List ℕ → Option Request
request_read None a b = None
request_read (Some o) a b = Some (request_with o a b (min (out_length o) 2048))
