-- Document 02, Item 12: two captures compared.
-- Assumes nothing.
use Rattle.std.specs.Prelude.{ℕ, List, length, take, drop, Err, Ok, Result}
use Rattle.lists.specs.Bytes.{overwrite}
use Rattle.segment.specs.Refusal.{Check, all_clear}
use Rattle.protocol.specs.Call.{settings}
use Rattle.protocol.specs.Step.{never_started, start_of, step}
use Rattle.protocol.specs.declared.state.Settings.{Settings}
use Rattle.protocol.specs.declared.state.Listener.{Listener}
use Rattle.protocol.specs.declared.outcome.Event.{Event}
use Rattle.protocol.specs.declared.outcome.Event.TheVariants as events
use Rattle.protocol.specs.declared.outcome.Started.{Started}
use Rattle.comparison.specs.Account.{Account, account_of}
use Rattle.comparison.specs.Listing.{Entry, entries, numbers_of, fitting}
use Rattle.comparison.specs.declared.compare.Summary.{Summary}
use Rattle.comparison.specs.declared.compare.Finding.{Finding}
use Rattle.segment.specs.declared.refusal.Refusal.{Refusal}

-- all differences of two sites
unfoldable pub differences : Account → Account → List Entry
differences a b = entries 0 a.answers b.answers

-- how many records were fed, and how the capture ended
abbrev pub summary_of : Account → Summary
summary_of a = record { fed = length a.answers; end = a.end }

-- what two accounts come to, with room for so many numbers: how many of the differences are listed, and how many are not
unfoldable pub finding_of : Account → Account → ℕ → Finding
finding_of a b n =
    record {
      listed = length (take (fitting n) (differences a b));
      remaining = length (drop (fitting n) (differences a b));
      first = summary_of a;
      second = summary_of b;
    }

-- the room then: the first differences, in order
unfoldable pub listed_in : Account → Account → List ℕ → List ℕ
listed_in a b list = overwrite (numbers_of (take (fitting (length list)) (differences a b))) list

-- One start and one settings call at time 0, for both sites: the first refusal is the answer

abbrev pub event_check : Event → Check
event_check (events.Refused r) = Err r
event_check (events.FastOpened n) = all_clear
event_check events.Regular = all_clear
event_check events.Retransmission = all_clear
event_check events.Completed = all_clear
event_check events.WasReset = all_clear
event_check events.Done = all_clear

-- where either is refused, every call on the listener is
abbrev pub ready_by : Listener → Check → Started
ready_by l (Err r) = record { listener = never_started; check = Err r }
ready_by l (Ok _) = record { listener = l; check = all_clear }

abbrev pub set_up_by : Listener → Settings → Check → Started
set_up_by l g (Err r) = ready_by l (Err r)
set_up_by l g (Ok _) = ready_by (step l (settings 0 g)).listener (event_check (step l (settings 0 g)).event)

unfoldable pub set_up : List ℕ → ℕ → List ℕ → Settings → Started
set_up own port k g = set_up_by (start_of own port k).listener g (start_of own port k).check

-- Both captures, each judged by a fresh listener of its own

abbrev pub compared_by : Listener → List ℕ → List ℕ → ℕ → Check → Result Finding Refusal
compared_by l first second n (Err r) = Err r
compared_by l first second n (Ok _) = Ok (finding_of (account_of l first) (account_of l second) n)

unfoldable pub compared_of : Started → List ℕ → List ℕ → ℕ → Result Finding Refusal
compared_of s first second n = compared_by s.listener first second n s.check

abbrev pub room_by : Listener → List ℕ → List ℕ → List ℕ → Check → List ℕ
room_by l first second list (Err r) = list
room_by l first second list (Ok _) = listed_in (account_of l first) (account_of l second) list

unfoldable pub room_of : Started → List ℕ → List ℕ → List ℕ → List ℕ
room_of s first second list = room_by s.listener first second list s.check
