-- The digits of the bytes before the place are put.
use Rattle.std.proofs.Common.{◌≡◌, take}
use Rattle.text.specs.ByteString.{hex_of}
use Rattle.text.specs.Put.{put_after}
use Rattle.text.proofs.put.Text.put_bytes.Given as goal

abbrev pub invariant-loop-b : goal.invariant-loop-b
invariant-loop-b l = l.self ≡ put_after (hex_of (take l.b-index l.src)) l.initial.self
