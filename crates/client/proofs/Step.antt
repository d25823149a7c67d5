-- The outcome of the start and of each call, refused and done, from what the checks come to. Assumes nothing.
use Rattle.std.specs.Prelude.{Result, Err, Ok, Option}
use Prim.Native.Nat.{ℕ, ◌^◌, ◌≤◌}
use mathlib.Core.Path.{◌≡◌, refl, sym, ap, ◌∙◌}
use mathlib.Core.Bool.{Bool, not, ◌&&◌}
use mathlib.Core.List.{List, ◌++◌}
use native.Mathlib.Omega.{arith}
use lib.ListN.{length, take}
use borrow.Author.Tests.{not-false}
use Rattle.segment.specs.Refusal.{Checks, refusal, Check, all_clear}
use Rattle.segment.specs.Header.{fields_of}
use Rattle.segment.specs.Remarks.{report_of, remarks_of}
use Rattle.segment.specs.declared.options.Codings.{Codings}
use Rattle.segment.specs.declared.options.Report.{Report}
use Rattle.segment.specs.declared.refusal.Refusal.{Refusal}
use Rattle.endpoint.specs.Address.{block}
use Rattle.endpoint.specs.Checks.{is_untimely, timely, addressed}
use Rattle.endpoint.proofs.Blocks.{family-short, kept}
use Rattle.endpoint.proofs.Chain.{named-short, time-most}
use Rattle.endpoint.proofs.Clear.{every-check}
use Rattle.client.specs.Call.{Call, answer}
use Rattle.client.specs.Refusals.{count_in, open_checks, answer_checks, call_check, reply_from}
use Rattle.client.specs.Step.{cookie_in, mss_in, cache_after, is_unacknowledged, is_negative, has_cookie, bans_after, moved, after, done_event, done_output, done_remarks, outcome, outcome_of, step, output_if, output_of}
use Rattle.client.specs.declared.outcome.ActiveOpen.{ActiveOpen}
use Rattle.client.specs.declared.outcome.Attempt.{Attempt}
use Rattle.client.specs.declared.outcome.Event.TheVariants as events
use Rattle.client.specs.declared.outcome.Outcome.{Outcome}
use Rattle.client.specs.declared.cache.Entry.{Entry}
use Rattle.client.specs.declared.state.Memory.{Memory}
use Rattle.client.proofs.Answer.{mss-most}
use Rattle.client.proofs.After.{cookie_told}

-- A call that is done

module _ (m : Memory) (c : Call) where
  pub step-done : call_check m c ≡ all_clear → step m c ≡ outcome (after m c) (done_event m c) (length (done_output m c)) (done_remarks c)
  unfolding step
  step-done e = ap (outcome_of m c) e

  pub output-done : call_check m c ≡ all_clear → output_of m c ≡ done_output m c
  unfolding output_of
  output-done e = ap (output_if m c) e

-- Opening

module _ (m : Memory) (t : ℕ) (own server : List ℕ) (o : ActiveOpen) (offered out : List ℕ) where
  abbrev the_open_checks : Checks
  the_open_checks = open_checks m.started m.family (is_untimely m.clock t) own server o.mss (length out)

  module _ (clear : refusal the_open_checks ≡ all_clear) where
    pub open_kept : {b : List ℕ} → b ≡ block (take 16 server) → b ≡ block server
    open_kept e = kept server (family-short m.family server (not-false _ (every-check the_open_checks clear).1.1.1.0)) e

    -- own MSS fits two bytes
    pub open_mss : o.mss ≤ 1460
    open_mss = mss-most o.mss (not-false _ (every-check the_open_checks clear).1.1.1.1.1.0)

-- Answer

module _ (m : Memory) (t : ℕ) (own server : List ℕ) (a : Attempt) (seg : List ℕ) (g : Codings) where
  abbrev the_checks : Checks
  the_checks = answer_checks m.started m.family (is_untimely m.clock t) own server a seg

  abbrev heard : Check → Result ℕ Refusal
  heard k = reply_from k a (fields_of seg)

  pub answer_dropped : {r : Refusal} → Err r ≡ heard (refusal the_checks) → call_check m (answer t own server a seg g) ≡ Err r
  unfolding call_check
  answer_dropped {r} e = go (refusal the_checks) e
    where
      go : (k : Check) → Err r ≡ heard k → k ≡ Err r
      go (Ok _) e = absurd (let z : ◌≡◌ {A = ℕ} 0 1 = cc in omega arith)
      go (Err s) e = cc

  module _ {n : ℕ} (e : Ok n ≡ heard (refusal the_checks)) where
    pub answer_counted : (call_check m (answer t own server a seg g) ≡ all_clear) × (n ≡ count_in a (fields_of seg))
    unfolding call_check
    answer_counted = go (refusal the_checks) e
      where
        go : (k : Check) → Ok n ≡ heard k → (k ≡ all_clear) × (n ≡ count_in a (fields_of seg))
        go (Ok _) e = (refl, cc)
        go (Err s) e = absurd (let z : ◌≡◌ {A = ℕ} 0 1 = cc in omega arith)

    pub answer_kept : {b : List ℕ} → b ≡ block (take 16 server) → b ≡ block server
    unfolding call_check
    answer_kept k = kept server (family-short m.family server (not-false _ (every-check the_checks answer_counted.0).1.1.1.0)) k

    pub answer-time : t ≤ 2 ^ 48
    unfolding call_check
    answer-time = time-most m.clock t (every-check the_checks answer_counted.0).1.0

    -- a negative answer, by the count and the option that counts
    pub answer_negative : {r : Report} {negative : Bool} → r ≡ report_of g seg → negative ≡ is_unacknowledged a.sent n && not (has_cookie r.options.fast)
        → negative ≡ is_negative g a seg
    answer_negative er en = rw (en, er, cookie_told g seg, answer_counted.1)

    module _ {b cookie : List ℕ} {mss : Option ℕ} {r : Report} {negative : Bool} {at next : Memory} {cache : List (Option Entry)} where
      pub answer-done : at ≡ moved m t m.cache m.bans → b ≡ block server → cookie ≡ cookie_in g seg → mss ≡ mss_in g seg → r ≡ report_of g seg
          → cache ≡ cache_after b cookie mss at.cache
          → negative ≡ is_negative g a seg → next ≡ moved at at.clock cache (bans_after t b a.dest negative at.bans)
          → {x : Outcome} → x ≡ outcome next (events.Answered n) 0 r.remarks → x ≡ step m (answer t own server a seg g)
      unfolding after
      answer-done et eb ec es er ek ei en ex =
          let done = step-done m (answer t own server a seg g) answer_counted.0 in
          let named : List ℕ → Outcome = λ k.
          outcome (moved m t (cache_after k (cookie_in g seg) (mss_in g seg) m.cache) (bans_after t k a.dest (is_negative g a seg) m.bans)) (events.Answered n) 0 (remarks_of g seg) in
          ex ∙ rw (en, ek, et, ec, es, er, ei) (ap named eb ∙ rw answer_counted.1 (sym done))

-- Failure

pub failed_kept : (m : Memory) (t : ℕ) (server : List ℕ) → refusal (timely m.started (is_untimely m.clock t) ++ addressed m.family server) ≡ all_clear
    → {b : List ℕ} → b ≡ block (take 16 server) → b ≡ block server
failed_kept m t server clear e = kept server (named-short m.started (is_untimely m.clock t) m.family server clear) e

pub failed-time : (m : Memory) (t : ℕ) (server : List ℕ) → refusal (timely m.started (is_untimely m.clock t) ++ addressed m.family server) ≡ all_clear → t ≤ 2 ^ 48
failed-time m t server clear = time-most m.clock t (every-check (timely m.started (is_untimely m.clock t) ++ addressed m.family server) clear).1.0
