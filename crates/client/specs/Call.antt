-- Document 01, "Client", and document 02, Item 4: the calls that carry a time, and what an event is in 01's words.
-- Assumes nothing.
use Rattle.std.specs.Prelude.{ℕ, List}
use Rattle.segment.specs.Refusal.{number_of}
use Rattle.segment.specs.declared.options.Codings.{Codings}
use Rattle.client.specs.declared.outcome.ActiveOpen.{ActiveOpen}
use Rattle.client.specs.declared.outcome.Attempt.{Attempt}
use Rattle.client.specs.declared.outcome.Event.{Event}
use Rattle.client.specs.declared.outcome.Event.TheVariants.{Refused, Opened, Answered, Reported}

-- A call with its arguments, the time first. 01's open has own address, the server's address, ports and numbers, the data offered and the output's length; an answer has
-- both addresses, the attempt, the segment and the codings of the Fast Open option that count in it; a failure has the server's address and port.
pub data Call : Type 0 where
  connect : ℕ → List ℕ → List ℕ → ActiveOpen → List ℕ → ℕ → Call
  answer : ℕ → List ℕ → List ℕ → Attempt → List ℕ → Codings → Call
  failed : ℕ → List ℕ → ℕ → Call

-- the number; 0 is done
abbrev pub number_of_event : Event → ℕ
number_of_event (Refused r) = number_of r
number_of_event (Opened n) = 0
number_of_event (Answered n) = 0
number_of_event Reported = 0

-- the bytes of data sent, or acknowledged
abbrev pub count_of : Event → ℕ
count_of (Refused r) = 0
count_of (Opened n) = n
count_of (Answered n) = n
count_of Reported = 0
