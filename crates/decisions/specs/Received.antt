-- What the code makes of a segment's first checks. No document has it: it carries the checks before a segment's kind to the code.
-- Assumes nothing.
use Rattle.std.specs.Prelude.{Result, Err, Ok}
use Rattle.segment.specs.Refusal.{Check}
use Rattle.segment.specs.declared.header.Header.{Header}
use Rattle.segment.specs.declared.refusal.Refusal.{Refusal}

-- a segment that passes the first checks is read
abbrev pub received : Check → Header → Result Header Refusal
received (Ok _) h = Ok h
received (Err r) h = Err r
