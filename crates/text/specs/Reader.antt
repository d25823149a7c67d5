-- The replay format (docs/REPLAY.md), "Lines in": the input is read part by part, and a line is complete as soon as its line feed was read.
-- Assumes nothing.
use Rattle.std.specs.Prelude.{◌≡◌, ℕ, ◌-◌, ◌≤◌, List, Bool, true, false, cond, length, take, drop, eqb, leb}
use Rattle.text.specs.declared.line.Gathered.{Gathered}
use Rattle.text.specs.declared.reader.Reader.{Reader}
use Rattle.text.specs.Line.{gathered}

-- before the first read
abbrev pub fresh : Reader
fresh = record { next = 0; end = 0; len = 0; complete = false; left = 18446744073709551615 }

-- the length of the line that goes on: after a complete one a new one begins
unfoldable pub length_before : Reader → ℕ
length_before r = cond r.complete 0 r.len

abbrev pub with_part : Reader → ℕ → Gathered → Reader
with_part r end g = record { next = g.next; end = end; len = g.len; complete = g.complete; left = r.left - 1 }

-- the line goes on in what was read, from a place on
abbrev pub part_taken : Reader → ℕ → List ℕ → Reader
part_taken r from read = with_part r (length read) (gathered (length_before r) from read)

-- the end of the input also ends the line
abbrev pub ended : Reader → Reader
ended r = record { next = 0; end = 0; len = length_before r; complete = true; left = 0 }

-- whether nothing is left of what was read
abbrev pub is_used_up : Reader → Bool
is_used_up r = leb r.end r.next

-- n bytes of the input can be taken from its start
abbrev pub IsPrefixLen : ℕ → List ℕ → Type 0
IsPrefixLen n input = (n ≤ length input) × (n ≡ length (take n input))

-- The bytes in which the line goes on: what is left of those that were read; or else the n bytes that one more read brought to the input's start.
unfoldable pub offered : Reader → ℕ → List ℕ → List ℕ
offered r n input = cond (is_used_up r) (take n input) (drop r.next (take r.end input))

-- The reader after that; where the read brought nothing, after the input's end.
unfoldable pub next_taken : Reader → ℕ → List ℕ → Reader
next_taken r n input = cond (is_used_up r) (cond (eqb n 0) (ended r) (part_taken r 0 (take n input))) (part_taken r r.next (take r.end input))
