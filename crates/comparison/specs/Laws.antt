-- Document 02, Item 12: what holds of every comparison.
-- Assumes nothing.
use Rattle.std.specs.Prelude.{◌≡◌, ℕ, ◌+◌, ◌*◌, List, [], ◌∷◌, map, length, take, drop, ◌≢◌, Result, Ok, Err}
use Rattle.segment.specs.Refusal.{all_clear}
use Rattle.segment.specs.declared.refusal.Refusal.{Refusal}
use Rattle.protocol.specs.Call.{Call, settings, number_of_event, SegmentKind, kind_of_event, Verdict, verdict_of, accepted_of}
use Rattle.protocol.specs.Step.{start_of, step}
use Rattle.protocol.specs.Journal.{Decision}
use Rattle.protocol.specs.Demand3.{listener_after, listener_decision, listener_decisions, Demand3}
use Rattle.protocol.specs.declared.state.Settings.{Settings}
use Rattle.protocol.specs.declared.state.Listener.{Listener}
use Rattle.protocol.specs.declared.outcome.Started.{Started}
use Rattle.pcap.specs.Records.{capture}
use Rattle.walk.specs.Walk.{walked, calls_of, Answer, answers_of}
use Rattle.comparison.specs.Account.{Judged, lent, Account, account_of}
use Rattle.comparison.specs.Listing.{numbers_of, fitting}
use Rattle.comparison.specs.Compared.{differences, finding_of, listed_in, set_up, compared_of, room_of}
use Rattle.comparison.specs.declared.compare.Finding.{Finding}

-- what can be seen of an answer; a refused call has neither kind nor verdict
pub record Seen : Type 0 where
  pub number : ℕ
  pub kind : SegmentKind
  pub verdict : Verdict
  pub part : List ℕ
  pub output : List ℕ

abbrev pub seen_of : Judged → Seen
seen_of j = record { number = number_of_event j.event; kind = kind_of_event j.event; verdict = verdict_of j.event; part = j.part; output = j.output }

abbrev pub seen : List Judged → List Seen
seen [] = []
seen (j ∷ js) = seen_of j ∷ seen js

-- The answers of a site are those of the walk over its capture (Item 3), and its decisions those of the listener on the list of its calls.
abbrev pub decision_of : Judged → Decision
decision_of j = record { verdict = verdict_of j.event; accepted = accepted_of j.event; part = j.part }

pub record OfTheWalk (l : Listener) (s : List ℕ) : Type 0 where
  pub events : map (λ (j : Judged). j.event) (account_of l s).answers ≡ map (λ (a : Answer). a.outcome.event) (answers_of (walked l 0 (capture s).records lent))
  pub outputs : map (λ (j : Judged). j.output) (account_of l s).answers ≡ map (λ (a : Answer). a.output) (answers_of (walked l 0 (capture s).records lent))
  pub decisions : map decision_of (account_of l s).answers ≡ listener_decisions l (calls_of l.local 0 (capture s).records lent)

-- Where the set-up is clear, the start was, and the listener is the one that the settings call left.
pub record SetUpIsCalls (own : List ℕ) (port : ℕ) (k : List ℕ) (g : Settings) : Type 0 where
  pub started : (start_of own port k).check ≡ all_clear
  pub listener : (set_up own port k g).listener ≡ listener_after (start_of own port k).listener (settings 0 g ∷ [])

-- the calls of a site: the settings, and its fed records
abbrev pub calls_at : List ℕ → ℕ → List ℕ → Settings → List ℕ → List Call
calls_at own port k g s = settings 0 g ∷ calls_of (start_of own port k).listener.local 0 (capture s).records lent

-- Then demand 3 holds of these calls, and what is compared is what the listener decides on them, behind the settings call.
pub record SiteDemand3 (own : List ℕ) (port : ℕ) (k : List ℕ) (g : Settings) (s : List ℕ) : Type 0 where
  pub demand3 : Demand3 own port k (calls_at own port k g s)
  pub decisions : listener_decisions (start_of own port k).listener (calls_at own port k g s)
      ≡ listener_decision (settings 0 g) (step (start_of own port k).listener (settings 0 g)).event ∷ map decision_of (account_of (set_up own port k g).listener s).answers

-- Complete: nothing is listed and nothing remains exactly when both have as many fed records and give the same throughout.
pub record Complete (a b : Account) (n : ℕ) : Type 0 where
  pub alike : (finding_of a b n).listed ≡ 0 → (finding_of a b n).remaining ≡ 0 → seen a.answers ≡ seen b.answers
  pub nothing : seen a.answers ≡ seen b.answers → ((finding_of a b n).listed ≡ 0) × ((finding_of a b n).remaining ≡ 0)

-- The listed entries are the first of the whole list, in order; with those that remain they are as many as it has, and some remain only where the room is full.
-- Later numbers of the room stay.
pub record FirstOnes (a b : Account) (list : List ℕ) : Type 0 where
  pub listed : take (2 * (finding_of a b (length list)).listed) (listed_in a b list) ≡ numbers_of (take (finding_of a b (length list)).listed (differences a b))
  pub sum : (finding_of a b (length list)).listed + (finding_of a b (length list)).remaining ≡ length (differences a b)
  pub full : ((finding_of a b (length list)).remaining ≢ 0) → (finding_of a b (length list)).listed ≡ fitting (length list)
  pub stays : drop (2 * (finding_of a b (length list)).listed) (listed_in a b list) ≡ drop (2 * (finding_of a b (length list)).listed) list

-- Swapping the captures swaps the fed counts and the ends, and keeps the list.
abbrev pub swapped : Finding → Finding
swapped f = record { listed = f.listed; remaining = f.remaining; first = f.second; second = f.first }

abbrev pub swapped_by : Result Finding Refusal → Result Finding Refusal
swapped_by (Err r) = Err r
swapped_by (Ok f) = Ok (swapped f)

pub record Swaps (s : Started) (first second : List ℕ) (list : List ℕ) : Type 0 where
  pub finding : compared_of s second first (length list) ≡ swapped_by (compared_of s first second (length list))
  pub room : room_of s second first list ≡ room_of s first second list
