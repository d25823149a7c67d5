-- RFC 9293, 3.4, and document 01, "Answer", "Completion", "Client": sequence numbers, modulo 2^32.
-- Assumes nothing.
use Rattle.std.specs.Prelude.{ℕ, ◌+◌, ◌-◌, ◌%◌, ◌^◌, Bool, nat_lt}

-- The number after an initial number and so many bytes: what a SYN-ACK acknowledges, and what the next segment is expected to begin with (RCV.NXT).
unfoldable pub next_after : ℕ → ℕ → ℕ
next_after initial bytes = (initial + 1 + bytes) % 2 ^ 32

-- a − b modulo 2^32, for a and b below it
unfoldable pub difference : ℕ → ℕ → ℕ
difference a b = (a + 2 ^ 32 - b) % 2 ^ 32

-- the window, which is that of every segment that is written
abbrev pub window : ℕ
window = 65535

-- a completion's sequence number is admitted: it lies less than 65,535 past the expected one
unfoldable pub in_window : ℕ → ℕ → Bool
in_window expected seq = nat_lt (difference seq expected) window

-- how many of the bytes sent with an opening its SYN-ACK acknowledges: acknowledgement − our number − 1
unfoldable pub acknowledged : ℕ → ℕ → ℕ
acknowledged iss ack = difference (difference ack iss) 1
