-- The letter's demand 3, document 01, "Demand 3's book", and document 02, Item 8: over every list of calls after a done start, refused ones included, the
-- pending number, that of each address and every verdict, accepted count and accepted part are those of the journal.
-- Assumes nothing.
use Rattle.std.specs.Prelude.{ℕ, ◌≡◌, List, [], ◌∷◌, length}
use Rattle.endpoint.specs.Address.{size, block}
use Rattle.protocol.specs.Table.{pending_from}
use Rattle.protocol.specs.Call.{Call, segment, settings, key, abandon, resend, close, number_of_event, verdict_of, accepted_of, accepted_part}
use Rattle.protocol.specs.Step.{start_of, step, pending_number}
use Rattle.protocol.specs.Journal.{Journal, fresh_journal, feed, journal_decision, Decision, pending_of, pending_of_address}
use Rattle.protocol.specs.declared.state.Listener.{Listener}
use Rattle.protocol.specs.declared.outcome.Event.{Event}

-- the bytes of a call that is a segment
abbrev pub segment_of : Call → List ℕ
segment_of (segment t src seg iss out_len) = seg
segment_of (settings t g) = []
segment_of (key t k) = []
segment_of (abandon t a p) = []
segment_of (resend t a p out_len) = []
segment_of (close t a p) = []

-- what the listener decides of a call, by its event
abbrev pub listener_decision : Call → Event → Decision
listener_decision c e = record { verdict = verdict_of e; accepted = accepted_of e; part = accepted_part (segment_of c) e }

-- The listener after a list of calls, each on the listener that the last one left, and its decisions.
unfoldable pub listener_after : Listener → List Call → Listener
listener_after l [] = l
listener_after l (c ∷ cs) = listener_after (step l c).listener cs

unfoldable pub listener_decisions : Listener → List Call → List Decision
listener_decisions l [] = []
listener_decisions l (c ∷ cs) = listener_decision c (step l c).event ∷ listener_decisions (step l c).listener cs

-- the calls with the numbers that they returned: all that the journal is fed
pub record Fed : Type 0 where
  pub call : Call
  pub number : ℕ

unfoldable pub numbered : Listener → List Call → List Fed
numbered l [] = []
numbered l (c ∷ cs) = record { call = c; number = number_of_event (step l c).event } ∷ numbered (step l c).listener cs

-- The journal after them, and its decision of each.
unfoldable pub journal_after : Journal → List Fed → Journal
journal_after j [] = j
journal_after j (f ∷ fs) = journal_after (feed j f.call f.number) fs

unfoldable pub journal_decisions : Journal → List Fed → List Decision
journal_decisions j [] = []
journal_decisions j (f ∷ fs) = journal_decision j f.call f.number ∷ journal_decisions (feed j f.call f.number) fs

-- how many of an address are pending, at the listener's clock
abbrev pub address_pending : Listener → List ℕ → ℕ
address_pending l a = pending_from l.clock (block a) l.slots

-- For a start with these arguments and a list of calls
pub record Demand3 (own : List ℕ) (port : ℕ) (k : List ℕ) (calls : List Call) : Type 0 where
  pub pending : pending_number (listener_after (start_of own port k).listener calls)
      ≡ pending_of (journal_after (fresh_journal own port k) (numbered (start_of own port k).listener calls))
  -- the pending number of each address of the listener's family
  pub addresses : (a : List ℕ) → length a ≡ size (listener_after (start_of own port k).listener calls).local.family
      → address_pending (listener_after (start_of own port k).listener calls) a
      ≡ pending_of_address (journal_after (fresh_journal own port k) (numbered (start_of own port k).listener calls)) a
  pub verdicts : listener_decisions (start_of own port k).listener calls
      ≡ journal_decisions (fresh_journal own port k) (numbered (start_of own port k).listener calls)
