-- A site's answers are those of the walk over its capture, on the listener that a start and a settings call leave; demand 3 holds of them; and equal refusals
-- are no difference. Assumes nothing.
use Rattle.std.specs.Prelude.{Err, Ok, None}
use Rattle.std.proofs.Common.{◌≡◌, ℕ, List, [], ◌∷◌, map, length, sym, refl, ap, ◌∙◌, subst, ap₂, arith, le-ltb, eq-eqb}
use Rattle.lists.specs.Bytes.{same_bytes}
use Rattle.segment.specs.declared.refusal.Refusal.{Refusal}
use Rattle.segment.specs.Refusal.{Check, number_of, all_clear}
use Rattle.segment.specs.Header.{payload_of}
use Rattle.protocol.specs.Call.{Call, settings, accepted_part}
use Rattle.protocol.specs.Step.{start_of, step, output_of}
use Rattle.protocol.specs.Journal.{Decision}
use Rattle.protocol.specs.Demand3.{segment_of, listener_after, listener_decision, listener_decisions}
use Rattle.protocol.proofs.Local.{step_local}
use Rattle.protocol.proofs.NeverStarted.{refused_same}
use Rattle.protocol.specs.declared.state.LocalEndpoint.{LocalEndpoint}
use Rattle.protocol.specs.declared.state.Settings.{Settings}
use Rattle.protocol.specs.declared.state.Listener.{Listener}
use Rattle.protocol.specs.declared.outcome.Event.{Event}
use Rattle.protocol.specs.declared.outcome.Event.TheVariants as events
use Rattle.pcap.specs.Records.{capture}
use Rattle.walk.specs.Walk.{calls_of, Answer, answers}
use Rattle.walk.proofs.Walk.{walk_is_calls, walk-demand3}
use Rattle.comparison.specs.Account.{Judged, judged_as, judged_by, judged, lent, account_of}
use Rattle.comparison.specs.Difference.{same_event, same, difference_of}
use Rattle.comparison.specs.Compared.{event_check, ready_by, set_up_by, set_up}
use Rattle.comparison.specs.Laws.{decision_of, OfTheWalk, SetUpIsCalls, SiteDemand3}

events_of : (cs : List Call) (l : Listener) → map (λ (j : Judged). j.event) (judged l cs) ≡ map (λ (a : Answer). a.outcome.event) (answers l cs)
unfolding judged answers
events_of [] l = refl
events_of (c ∷ cs) l = ap (λ (es : List Event). (step l c).event ∷ es) (events_of cs (step l c).listener)

answers_of_lem : (cs : List Call) (l : Listener) → map (λ (j : Judged). j.output) (judged l cs) ≡ map (λ (a : Answer). a.output) (answers l cs)
unfolding judged answers
answers_of_lem [] l = refl
answers_of_lem (c ∷ cs) l = ap (λ (os : List (List ℕ)). output_of l c ∷ os) (answers_of_lem cs (step l c).listener)

decisions_of : (cs : List Call) (l : Listener) → map decision_of (judged l cs) ≡ listener_decisions l cs
unfolding judged listener_decisions
decisions_of [] l = refl
decisions_of (c ∷ cs) l = ap (λ (ds : List Decision). listener_decision c (step l c).event ∷ ds) (decisions_of cs (step l c).listener)

pub of_the_walk : (l : Listener) (s : List ℕ) → OfTheWalk l s
unfolding account_of
of_the_walk l s =
    let rs = (capture s).records in
    let cs = calls_of l.local 0 rs lent in
    let w = (walk_is_calls rs lent l 0).answered in
    record {
      events = events_of cs l ∙ ap (map (λ (a : Answer). a.outcome.event)) (sym w);
      outputs = answers_of_lem cs l ∙ ap (map (λ (a : Answer). a.output)) (sym w);
      decisions = decisions_of cs l;
    }

abbrev IsClear : Check → Type 0
IsClear (Ok _) = Unit {0}
IsClear (Err r) = ⊥

pub set_up_is_calls : (own : List ℕ) (port : ℕ) (k : List ℕ) (g : Settings) → (set_up own port k g).check ≡ all_clear → SetUpIsCalls own port k g
unfolding set_up listener_after
set_up_is_calls own port k g e = go (start_of own port k).check refl e
  where
    settled : (x : Check) → (ready_by (step (start_of own port k).listener (settings 0 g)).listener x).check ≡ all_clear
        → (ready_by (step (start_of own port k).listener (settings 0 g)).listener x).listener ≡ (step (start_of own port k).listener (settings 0 g)).listener
    settled (Ok _) f = refl
    settled (Err r) f = absurd (subst IsClear (sym f) tt)

    go : (x : Check) → (start_of own port k).check ≡ x → (set_up_by (start_of own port k).listener g x).check ≡ all_clear → SetUpIsCalls own port k g
    go (Ok _) q f = record { started = q; listener = rw q (settled (event_check (step (start_of own port k).listener (settings 0 g)).event) f) }
    go (Err r) q f = absurd (subst IsClear (sym f) tt)

-- Demand 3 of a site

pub site_demand3 : (own : List ℕ) (port : ℕ) (k : List ℕ) (g : Settings) (s : List ℕ) → (set_up own port k g).check ≡ all_clear → SiteDemand3 own port k g s
unfolding account_of listener_decisions listener_after
site_demand3 own port k g s e =
    let l = (start_of own port k).listener in
    let u = set_up_is_calls own port k g e in
    let rs = (capture s).records in
    let m = (step l (settings 0 g)).listener in
    let local : m.local ≡ l.local = step_local l (settings 0 g) in
    let ready : (set_up own port k g).listener ≡ m = u.listener in
    record {
      demand3 = (walk-demand3 own port k (settings 0 g ∷ []) 0 rs lent u.started).demand3;
      decisions =
          ap (λ (ds : List Decision). listener_decision (settings 0 g) (step l (settings 0 g)).event ∷ ds)
          (sym (ap (λ (x : Listener). map decision_of (judged x (calls_of x.local 0 rs lent))) ready
          ∙ decisions_of (calls_of m.local 0 rs lent) m
          ∙ ap (λ (x : LocalEndpoint). listener_decisions m (calls_of x 0 rs lent)) local));
    }

-- Two calls that are refused with one number are no difference

refused_part : (seg : List ℕ) (r : Refusal) → accepted_part seg (events.Refused r) ≡ []
unfolding accepted_part
refused_part seg r = rw (le-ltb (length (payload_of seg)) 0 (omega arith))

refused_judged : (l : Listener) (c : Call) (r : Refusal) → (step l c).event ≡ events.Refused r → judged_by l c ≡ judged_as (events.Refused r) [] []
refused_judged l c r e =
    ap (λ (x : Event). judged_as x (accepted_part (segment_of c) x) (output_of l c)) e
    ∙ ap₂ (judged_as (events.Refused r)) (refused_part (segment_of c) r) (refused_same l c r e).3

pub equal_refusals : (l m : Listener) (c d : Call) (r : Refusal) → (step l c).event ≡ events.Refused r → (step m d).event ≡ events.Refused r
    → difference_of (judged_by l c) (judged_by m d) ≡ None
unfolding difference_of same same_event same_bytes
equal_refusals l m c d r e f =
    let x = judged_as (events.Refused r) [] [] in
    let q : difference_of x x ≡ None = rw (eq-eqb (number_of r) (number_of r) refl) in
    ap₂ difference_of (refused_judged l c r e) (refused_judged m d r f) ∙ q
