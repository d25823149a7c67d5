-- A walk is its calls, demand 3 holds of it, and pieces are walked as the whole is. Assumes nothing.
use Rattle.std.specs.Prelude.{Option, None, Some}
use Rattle.segment.specs.Refusal.{all_clear}
use Prim.Native.Nat.{ℕ, ◌+◌, ◌<◌, ◌^◌}
use mathlib.Core.Path.{◌≡◌, refl, sym, ap, subst, ◌∙◌}
use mathlib.Core.List.{List, [], ◌∷◌, ◌++◌, flatten}
use native.Mathlib.Omega.{arith}
use lib.ListN.{length}
use Rattle.protocol.specs.Call.{Call}
use Rattle.protocol.specs.Step.{start_of, step, output_of}
use Rattle.protocol.specs.Demand3.{listener_after}
use Rattle.protocol.proofs.Demand3.{demand3}
use Rattle.protocol.proofs.Local.{step_local}
use Rattle.protocol.specs.declared.state.LocalEndpoint.{LocalEndpoint}
use Rattle.protocol.specs.declared.state.Listener.{Listener}
use Rattle.pcap.specs.Records.{Recorded}
use Rattle.pcap.proofs.Windows.{windows}
use Rattle.walk.specs.Feed.{call_of, feed_of, feed_output}
use Rattle.walk.specs.Walk.{Happening, happening, walked, walked_listener, before, calls_of, Answer, answers, answers_of, WalkIsCalls, WalkDemand3, LaterRecords, SameInPieces}

abbrev Are : List Recorded → ℕ → Type 0
Are rs out_len = (l : Listener) (place : ℕ) → WalkIsCalls l place rs out_len

-- a record before a walk that is its calls
one_more : (r : Recorded) (rs : List Recorded) (out_len : ℕ) → Are rs out_len → (l : Listener) (place : ℕ) → WalkIsCalls l place (r ∷ rs) out_len
unfolding walked walked_listener calls_of answers answers_of feed_of feed_output listener_after
one_more r rs out_len later l place = go (call_of l.local place r.seconds r.micros r.packet out_len) refl
  where
    go : (o : Option Call) → call_of l.local place r.seconds r.micros r.packet out_len ≡ o → WalkIsCalls l place (r ∷ rs) out_len
    go None e = let i = later l (place + 1) in record { listener = rw e i.listener; answered = rw e i.answered }
    go (Some c) e =
        let m = (step l c).listener in
        let i = subst (λ (x : LocalEndpoint). (walked_listener m (place + 1) rs out_len ≡ listener_after m (calls_of x (place + 1) rs out_len))
        × (answers_of (walked m (place + 1) rs out_len) ≡ answers m (calls_of x (place + 1) rs out_len))) (step_local l c)
        ((later m (place + 1)).listener, (later m (place + 1)).answered) in
        record {
          listener = rw e i.0;
          answered = rw e (ap (λ (later : List Answer). record { outcome = step l c; output = output_of l c } ∷ later) i.1);
        }

pub walk_is_calls : (rs : List Recorded) (out_len : ℕ) (l : Listener) (place : ℕ) → WalkIsCalls l place rs out_len
unfolding walked walked_listener calls_of answers answers_of listener_after
walk_is_calls [] out_len l place = record { listener = refl; answered = refl }
walk_is_calls (r ∷ rs) out_len l place = one_more r rs out_len (walk_is_calls rs out_len) l place

-- calls after calls
later-calls : (l : Listener) (first then : List Call) → listener_after l (first ++ then) ≡ listener_after (listener_after l first) then
unfolding listener_after
later-calls l [] then = refl
later-calls l (c ∷ first) then = later-calls (step l c).listener first then

-- none of them changes the own address
calls_local : (l : Listener) (cs : List Call) → (listener_after l cs).local ≡ l.local
unfolding listener_after
calls_local l [] = refl
calls_local l (c ∷ cs) = calls_local (step l c).listener cs ∙ step_local l c

pub walk-demand3 : (own : List ℕ) (port : ℕ) (k : List ℕ) (calls : List Call) (place : ℕ) (rs : List Recorded) (out_len : ℕ)
    → (start_of own port k).check ≡ all_clear → WalkDemand3 own port k calls place rs out_len
walk-demand3 own port k calls place rs out_len e =
    let s = (start_of own port k).listener in
    record {
      listener =
          (walk_is_calls rs out_len (listener_after s calls) place).listener
          ∙ ap (λ (x : LocalEndpoint). listener_after (listener_after s calls) (calls_of x place rs out_len)) (calls_local s calls)
          ∙ sym (later-calls s calls (calls_of s.local place rs out_len));
      answered =
          (walk_is_calls rs out_len (listener_after s calls) place).answered
          ∙ ap (λ (x : LocalEndpoint). answers (listener_after s calls) (calls_of x place rs out_len)) (calls_local s calls);
      demand3 = demand3 own port k (calls ++ calls_of s.local place rs out_len) e;
    }

-- Places run on

before-append : (o : Option Call) (cs ds : List Call) → before o (cs ++ ds) ≡ before o cs ++ ds
before-append None cs ds = refl
before-append (Some c) cs ds = refl

calls-append : (rs later : List Recorded) (out_len : ℕ) (local : LocalEndpoint) (place : ℕ)
    → calls_of local place (rs ++ later) out_len ≡ calls_of local place rs out_len ++ calls_of local (place + length rs) later out_len
unfolding calls_of
calls-append [] later out_len local place = let z : place + 0 ≡ place = omega arith in rw z
calls-append (r ∷ rs) later out_len local place =
    let n : place + 1 + length rs ≡ place + length (r ∷ rs) = omega arith in
    let o = call_of local place r.seconds r.micros r.packet out_len in
    ap (before o) (calls-append rs later out_len local (place + 1)) ∙ before-append o (calls_of local (place + 1) rs out_len) (calls_of local (place + 1 + length rs) later out_len)
    ∙ rw n

pub later-records : (rs later : List Recorded) (out_len : ℕ) (l : Listener) (place : ℕ) → LaterRecords l place rs later out_len
unfolding walked walked_listener calls_of
later-records [] later out_len l place =
    let z : place + 0 ≡ place = omega arith in
    record { happenings = rw z; listener = rw z; calls = calls-append [] later out_len l.local place }
later-records (r ∷ rs) later out_len l place =
    let h = happening l place r out_len in
    let m = h.outcome.listener in
    let n : place + 1 + length rs ≡ place + length (r ∷ rs) = omega arith in
    let i = later-records rs later out_len m (place + 1) in
    record {
      happenings = ap (λ (hs : List Happening). h ∷ hs) (i.happenings ∙ rw n);
      listener = i.listener ∙ rw n;
      calls = calls-append (r ∷ rs) later out_len l.local place;
    }

pub same_in_pieces : (l : Listener) (pieces : List (List ℕ)) (out_len : ℕ) → length (flatten pieces) < 2 ^ 64 → SameInPieces l pieces out_len
same_in_pieces l pieces out_len h =
    let e = (windows pieces h).records in
    (ap (λ (rs : List Recorded). walked l 0 rs out_len) e, ap (λ (rs : List Recorded). walked_listener l 0 rs out_len) e)
