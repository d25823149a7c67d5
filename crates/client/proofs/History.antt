-- After any calls the memory holds what a record of them has, no ban stands twice, and the clock never falls. Assumes nothing.
use Rattle.std.specs.Prelude.{Err, Ok, None, Option, Some}
use Prim.Native.Nat.{ℕ, ◌≤◌}
use mathlib.Core.Path.{◌≡◌, refl, ap, ◌∙◌}
use mathlib.Core.Bool.{Bool, true, false, cond}
use mathlib.Core.List.{List, [], ◌∷◌, ◌++◌}
use native.Mathlib.Omega.{arith}
use lib.Dec.{ltb, eqb}
use lib.ListN.{length}
use borrow.Author.Tests.{eqb-true, ne_eqb, ltb-false, not-false}
use Rattle.segment.specs.Refusal.{number_of, refusal, Check, all_clear}
use Rattle.segment.specs.declared.options.Codings.{Codings}
use Rattle.segment.specs.declared.refusal.Refusal.{Refusal}
use Rattle.segment.proofs.NumberOf.{positive}
use Rattle.lists.proofs.Bools.{or_false, chosen}
use Rattle.endpoint.specs.Address.{size, block}
use Rattle.endpoint.specs.Checks.{is_untimely}
use Rattle.endpoint.specs.declared.address.Family.{Family}
use Rattle.endpoint.proofs.Clear.{Passed, every-check}
use Rattle.lists.proofs.Sums.{All}
use Rattle.client.specs.Cache.{entry_for, learned_from, remembered}
use Rattle.client.specs.Call.{Call, connect, answer, failed, number_of_event}
use Rattle.client.specs.Refusals.{checks, call_check}
use Rattle.client.specs.Step.{started_by, start_checks, start_of, cookie_in, mss_in, brings, cache_after, is_negative, after, done_event, outcome_of, step}
use Rattle.client.specs.History.{Store, is_store, stores_with, stores_after, distinct, recalled, run, numbered, stores_of, started, memory_after, stores, Remembers}
use Rattle.client.specs.declared.cache.Entry.{Entry}
use Rattle.client.specs.declared.state.Memory.{Memory}
use Rattle.client.proofs.Recalled.{found-recalled, recalled-more, recent-once}
use Rattle.client.proofs.Stores.{Kept, cookie-sized, Filled, blank_filled, filled_stored, entry_found, cookie-found, filled_more, kept_more}
use Rattle.client.proofs.AddBan.{Alone, blank-alone, later-alone, banned-alone}

-- The clock

-- a call that is done is not before the clock, and takes it to its own time
not_before : (m : Memory) (t : ℕ) → is_untimely m.clock t ≡ false → m.clock ≤ t
not_before m t e = ltb-false t m.clock (or_false (ltb t m.clock) _ e).0

done-clock : (m : Memory) (c : Call) → Passed (checks m c) → m.clock ≤ (after m c).clock
unfolding after
done-clock m (connect t own server o offered out_len) p = not_before m t p.1.0
done-clock m (answer t own server a seg g) p = not_before m t p.1.0
done-clock m (failed t server port) p = not_before m t p.1.0

step-clock : (m : Memory) (c : Call) → m.clock ≤ (step m c).memory.clock
unfolding step call_check
step-clock m c = go (call_check m c) refl
  where
    go : (k : Check) → refusal (checks m c) ≡ k → m.clock ≤ (outcome_of m c k).memory.clock
    go (Ok _) e = done-clock m c (every-check (checks m c) e)
    go (Err r) e = omega arith

run-clock : (m : Memory) (calls : List Call) → m.clock ≤ (run m calls).clock
unfolding run
run-clock m [] = omega arith
run-clock m (c ∷ cs) = omega (arith, step-clock m c, run-clock (step m c).memory cs)

more-clock : (m : Memory) (calls more : List Call) → (run m calls).clock ≤ (run m (calls ++ more)).clock
unfolding run
more-clock m [] more = run-clock m more
more-clock m (c ∷ cs) more = more-clock (step m c).memory cs more

-- a call that is refused is no store
stores_refused : (s : List Store) (c : Call) (r : Refusal) → stores_after s c (number_of r) ≡ s
stores_refused s (connect t own server o offered out_len) r = refl
stores_refused s (answer t own server a seg g) r = rw (ne_eqb (number_of r) 0 (positive r))
stores_refused s (failed t server port) r = refl

-- the record and the cache agree on what is a store
same_store : (c : List ℕ) (mss : Option ℕ) → is_store c mss ≡ brings c mss
same_store [] None = refl
same_store [] (Some v) = refl
same_store (x ∷ c) mss =
    let some : eqb (length (x ∷ c)) 0 ≡ false = ne_eqb (length (x ∷ c)) 0 (λ e. omega arith) in
    rw some

-- What holds of a memory and the record of its calls

abbrev Stored : Family → List Store → List (Option Entry) → Type 0
Stored f s es = All (Kept f) (recalled s) × Filled (recalled s) es

record Right (f : Family) (m : Memory) (s : List Store) : Type 0 where
  family : m.family ≡ f
  stored : Stored f s m.cache
  alone : Alone m.clock m.bans

module _ (f : Family) where
  store : (g : Codings) (s : List Store) (es : List (Option Entry)) (server seg : List ℕ) → length server ≡ size f → Stored f s es
      → Stored f (stores_with s server (cookie_in g seg) (mss_in g seg)) (cache_after (block server) (cookie_in g seg) (mss_in g seg) es)
  store g s es server seg l h = rw (same_store (cookie_in g seg) (mss_in g seg)) (go (brings (cookie_in g seg) (mss_in g seg)))
    where
      x : Store
      x = record { address = server; cookie = cookie_in g seg; mss = mss_in g seg }

      go : (b : Bool) → Stored f (cond b (x ∷ s) s) (cond b (remembered (learned_from (entry_for (block server) es) (block server) x.cookie x.mss) es) es)
      go true =
          let kept : Kept f x = record { address = l; cookie = cookie-sized g seg } in
          rw (recalled-more x s) (kept_more f x kept (recalled s) es h.0 h.1, filled_more f x kept (recalled s) es h.0 h.1)
      go false = h

  right-done : (m : Memory) (c : Call) (s : List Store) → Passed (checks m c) → Right f m s → Right f (after m c) (stores_after s c (number_of_event (done_event m c)))
  unfolding after
  right-done m (connect t own server o offered out_len) s p r =
      record { family = r.family; stored = r.stored; alone = later-alone m.clock t m.bans (not_before m t p.1.0) r.alone }
  right-done m (answer t own server a seg g) s p r =
      let h = not_before m t p.1.0 in
      let size-right = eqb-true (length server) (size m.family) (not-false _ p.1.1.1.0) ∙ ap size r.family in
      record {
        family = r.family;
        stored = store g s m.cache server seg size-right r.stored;
        alone = chosen (Alone t) (is_negative g a seg) _ _
            (λ _. banned-alone m.clock t m.bans h r.alone (block server) a.dest) (λ _. later-alone m.clock t m.bans h r.alone);
      }
  right-done m (failed t server port) s p r =
      record { family = r.family; stored = r.stored; alone = banned-alone m.clock t m.bans (not_before m t p.1.0) r.alone (block server) port }

  right-step : (m : Memory) (c : Call) (s : List Store) → Right f m s → Right f (step m c).memory (stores_after s c (number_of_event (step m c).event))
  unfolding step call_check
  right-step m c s r = go (call_check m c) refl
    where
      go : (k : Check) → refusal (checks m c) ≡ k → Right f (outcome_of m c k).memory (stores_after s c (number_of_event (outcome_of m c k).event))
      go (Ok _) e = right-done m c s (every-check (checks m c) e) r
      go (Err q) e = rw (stores_refused s c q) r

  right-run : (m : Memory) (s : List Store) (calls : List Call) → Right f m s → Right f (run m calls) (stores_of s (numbered m calls))
  unfolding run numbered stores_of
  right-run m s [] r = r
  right-run m s (c ∷ cs) r = right-run (step m c).memory (stores_after s c (number_of_event (step m c).event)) cs (right-step m c s r)

right-start : (n : ℕ) → Right (start_of n).memory.family (start_of n).memory []
unfolding start_of distinct
right-start n = go (refusal (start_checks n))
  where
    go : (k : Check) → Right (started_by n k).memory.family (started_by n k).memory []
    go (Ok _) = record { family = refl; stored = (tt, blank_filled 32); alone = blank-alone }
    go (Err r) = record { family = refl; stored = (tt, blank_filled 32); alone = blank-alone }

-- The theorem

pub remembers : (n : ℕ) → (start_of n).check ≡ all_clear → (calls : List Call) → Remembers n calls
remembers n done calls =
    let f = (started n calls).family in
    let es = (memory_after n calls).cache in
    let s = stores n calls in
    let r = right-run f (started n calls) [] calls (right-start n) in
    let kept = r.stored.0 in
    let filled = r.stored.1 in
    let same = filled_stored f (recalled s) es kept filled in
    record {
      stored = same;
      found = λ server e.
          let l = eqb-true (length server) (size f) e in
          let last = found-recalled server s in
          let cookie = cookie-found f server l (recalled s) es kept filled in
          let entry = entry_found f server l (recalled s) es kept filled in
          (cookie ∙ ap (λ (x : Store). x.cookie) last, entry.1 ∙ ap (λ (x : Store). x.mss) last);
      once = rw same (recent-once s);
      alone = r.alone.single;
      clock = more-clock (started n calls) calls;
    }
