-- Demand 3: the listener and the journal agree after every list of calls. Assumes nothing.
use Rattle.std.specs.Prelude.{Err, Ok, Option, None, Some, option_map}
use Prim.Native.Nat.{ℕ, zero, suc, ◌+◌, ◌≤◌, ◌<◌, min}
use mathlib.Core.Path.{◌≡◌, refl, sym, ap, ap₂, ◌∙◌, subst}
use mathlib.Core.Bool.{Bool, true, false, cond, not, ◌&&◌, ◌||◌, true≢false, false≢true, and_assoc, and-eq-true_iff}
use mathlib.Core.List.{List, [], ◌∷◌, ◌++◌, append-nil}
use native.Mathlib.Omega.{arith}
use borrow.Author.Tests.{ltb-true, ltb-false, lt-ltb, le-ltb, eqb-true, not-true, not-false}
use lib.Dec.{ltb}
use lib.Seq.{set-get_or}
use lib.ListN.{length, get_or, set, take, replicate, length-set, length-replicate, get_or-eq_default}
use Rattle.cipher.specs.KeyExpansion.{key_expansion}
use Rattle.segment.specs.Refusal.{refusal, number_of, Check, all_clear}
use Rattle.segment.specs.Header.{fields_of, payload_of, kind_of}
use Rattle.segment.specs.declared.refusal.Refusal.TheVariants.{NoConnection}
use Rattle.segment.specs.declared.header.Kind.{Kind}
use Rattle.segment.specs.declared.header.Kind.TheVariants.{Syn, Rst, Ack, Other}
use Rattle.lists.proofs.Bools.{or_false}
use Rattle.segment.proofs.NumberOf as numbers
use Rattle.lists.specs.Lists.{bit, sum, tally, amend}
use Rattle.endpoint.specs.Address.{Peer, size, block, family_of}
use Rattle.endpoint.specs.Checks.{is_untimely, timely, addressed}
use Rattle.endpoint.specs.declared.address.Family.{Family}
use Rattle.lists.proofs.Bools.{one_test}
use Rattle.endpoint.proofs.Names.{short}
use Rattle.endpoint.proofs.Blocks.{zero_block}
use Rattle.lists.proofs.Sums.{sum_zero, some_passes, first_passes, none_passes, All, all_set, all_at, all_replicate, sum_le_all}
use Rattle.endpoint.proofs.Clear.{Passed, every-check}
use Rattle.protocol.specs.Cookie.{Carried, carried_by, right_under, right_before, right}
use Rattle.protocol.specs.Table.{is_live, is_waiting, is_established, is_free, after_reset, free_slot, new_slot, with_status, holds_peer, pending_at, pending_from}
use Rattle.protocol.specs.Call.{Call, segment, settings, key, abandon, resend, close, sender, time_of, number_of_event, verdict_of, accepted_of, accepted_part, early}
use Rattle.protocol.specs.View.{known, scan_for, view, view_of}
use Rattle.protocol.specs.Refusals.{kind_checks, checks, call_check}
use Rattle.protocol.specs.Step as steps
use Rattle.protocol.specs.Step.{fresh_listener, start_checks, started_by, start_of, new_event, opening_event, segment_event, done_event, held_until, slot_after, moved, put, segment_after, freed, stored_settings, after, outcome_of, step, pending_number}
use Rattle.protocol.specs.Journal.{Mark, mark_plain, mark_early, mark_open, mark_held, Entry, Journal, fresh_journal, pending_of, pending_of_address, named, has, kept, only, removed, completed, reset_mark, was_reset, with, amended, was_right, has_right, opens_early, new_mark, opened, at_time, segment_noted, noted, feed, Decision, new_decision, opening_decision, segment_decision, done_decision, journal_decision}
use Rattle.protocol.specs.Demand3.{segment_of, listener_decision, listener_after, listener_decisions, numbered, journal_after, journal_decisions, address_pending, Demand3}
use Rattle.protocol.specs.declared.slots.Status.{Status}
use Rattle.protocol.specs.declared.slots.Status.TheVariants.{Free, SynReceived, SynReceivedEarly, ResetHeld, Established}
use Rattle.protocol.specs.declared.slots.Slot.{Slot}
use Rattle.protocol.specs.declared.state.Listener.{Listener}
use Rattle.protocol.specs.declared.outcome.Event.{Event}
use Rattle.protocol.specs.declared.outcome.Event.TheVariants as events
use Rattle.protocol.proofs.Journal.{name_of, entry_for, entry_in, by_entry, stands, Fits, holds_peer-stands, Thins, Match, stands-tally, pending-same, from_same, match_add, Settled, settled, turned_on, pending_settled, from_settled, settled_amend}
use Rattle.protocol.proofs.Table.{not_free}
use Rattle.protocol.proofs.DoneEvent.{done-number}

-- The journal beside a listener

pub record Table (f : Family) (t : ℕ) (slots : List Slot) (es : List Entry) : Type 0 where
  pub long : length slots ≡ 64
  pub fits : All (Fits f) slots
  pub match : Settled f t slots es

-- the listener has round keys, the journal the key
pub record Agrees (l : Listener) (j : Journal) : Type 0 where
  pub started : l.local.started ≡ true
  pub time : j.time ≡ l.clock
  pub settings : l.settings ≡ stored_settings j.settings
  pub present : l.keys.present ≡ key_expansion j.present
  pub previous : l.keys.previous ≡ option_map key_expansion j.previous
  pub table : Table l.local.family l.clock l.slots j.entries

-- after a call with this event
record Follows (c : Call) (l : Listener) (e : Event) (j : Journal) (s : Decision) : Type 0 where
  agrees : Agrees l j
  decided : listener_decision c e ≡ s

-- an event that accepts nothing hands no byte over
quiet : {c : Call} {l : Listener} {e : Event} {j : Journal} → accepted_of e ≡ 0 → Agrees l j
    → Follows c l e j (record { verdict = verdict_of e; accepted = accepted_of e; part = [] })
unfolding accepted_part
quiet {c} {l} {e} {j} z a = record { agrees = a; decided = λ i. record { verdict = verdict_of e; accepted = accepted_of e; part = none i } }
  where
    bytes : List ℕ
    bytes = payload_of (segment_of c)

    none : cond (ltb (length bytes) (accepted_of e)) [] (take (accepted_of e) bytes) ≡ []
    none = rw z (elim (ltb (length bytes) 0) as (λ b. cond b [] (take 0 bytes) ≡ []) [ true ↦ refl | false ↦ refl ])

-- a count up to the payload's length is handed over whole
handed : (c : Call) (n : ℕ) → n ≤ length (payload_of (segment_of c))
    → listener_decision c (events.FastOpened n) ≡ record { verdict = early; accepted = n; part = take n (payload_of (segment_of c)) }
unfolding accepted_part
handed c n h = rw (le-ltb (length (payload_of (segment_of c))) n h)

-- at a call's time, with other slots and entries
moved_agrees : (l : Listener) (j : Journal) (t : ℕ) (slots : List Slot) (es : List Entry) → Agrees l j → Table l.local.family t slots es
    → Agrees (moved l t slots) (with (at_time t j) es)
moved_agrees l j t slots es a b =
    record { started = a.started; time = refl; settings = a.settings; present = a.present; previous = a.previous; table = b }

-- one slot changes
put_agrees : (l : Listener) (j : Journal) (t i : ℕ) (s : Slot) (es : List Entry) → Agrees l j → Fits l.local.family s
    → Settled l.local.family t (set l.slots i s) es → Agrees (put l t i s) (with (at_time t j) es)
put_agrees l j t i s es a fit m =
    moved_agrees l j t (set l.slots i s) es a
    (record { long = length-set l.slots i s ∙ a.table.long; fits = all_set (Fits l.local.family) l.slots i s a.table.fits fit; match = m })

-- Entries of slots: what a rule leaves of one is the entry of the slot's next status

removed-entry : (t : ℕ) (n : Peer) (st : Status) → entry_for t n Free ≡ amend (λ e. amend (kept t) (removed e)) (entry_for t n st)
removed-entry t n st = by_entry t n st (λ b es. [] ≡ amend (λ e. amend (kept t) (removed e)) es) refl (λ k live. refl)

completed-entry : (t : ℕ) (n : Peer) (st : Status) → is_waiting st ≡ true
    → entry_for t n Established ≡ amend (λ e. amend (kept t) (completed e)) (entry_for t n st)
completed-entry t n Free e = absurd (false≢true e)
completed-entry t n SynReceived e = refl
completed-entry t n (SynReceivedEarly k) e = refl
completed-entry t n (ResetHeld end) e = absurd (false≢true e)
completed-entry t n Established e = absurd (false≢true e)

reset_entry : (t end : ℕ) (n : Peer) (st : Status) → is_waiting st ≡ true
    → entry_for t n (after_reset end st) ≡ amend (λ e. amend (kept t) (was_reset end e)) (entry_for t n st)
reset_entry t end n Free e = absurd (false≢true e)
reset_entry t end n SynReceived e = refl
reset_entry t end n (SynReceivedEarly k) e = simp append-nil
reset_entry t end n (ResetHeld u) e = absurd (false≢true e)
reset_entry t end n Established e = absurd (false≢true e)

reset_thins : (end : ℕ) → Thins (was_reset end)
reset_thins end p e = go e.mark
  where
    go : (k : Mark) → tally (named p) (reset_mark end e.peer k) ≤ bit (named p e)
    go mark_plain = omega arith
    go mark_early = omega arith
    go mark_open = omega arith
    go (mark_held u) = omega arith

-- A call that is clear

-- after a segment with this event
abbrev SegmentFollows : Listener → ℕ → List ℕ → List ℕ → ℕ → ℕ → Event → Journal → Decision → Type 0
SegmentFollows l t src seg iss out_len e j s =
    let p = sender src seg in
    Follows (segment t src seg iss out_len) (segment_after l t (scan_for l t p) e (slot_after (view l t p) (held_until (view l t p) t) (block src) (fields_of seg) iss e)) e j s

pub on-time : (l : Listener) (t : ℕ) → is_untimely l.clock t ≡ false → l.clock ≤ t
on-time l t e = ltb-false t l.clock (or_false _ _ e).0

module _ (l : Listener) (j : Journal) (t : ℕ) (a : Agrees l j) (forward : l.clock ≤ t) where
  -- the slots and the journal at the call's time
  now : Match l.local.family t l.slots (at_time t j).entries
  now = turned_on l.local.family l.clock t l.slots j.entries forward a.table.match

  unchanged : Table l.local.family t l.slots (at_time t j).entries
  unchanged = record { long = a.table.long; fits = a.table.fits; match = settled now }

  -- a cookie is right under the round keys exactly if it is under the journal's keys
  right-same : (src seg : List ℕ) → right l.keys (block src) (carried_by j.settings.codings seg) ≡ has_right (at_time t j) src seg
  unfolding right has_right
  right-same src seg = ap₂ ◌||◌ (ap (λ k. right_under k b o) a.present) (ap (λ k. right_before k b o) a.previous ∙ before j.previous)
    where
      b : List ℕ
      b = block src

      o : Carried
      o = carried_by j.settings.codings seg

      -- the listener's rule on the round keys is the journal's on the key
      before : (p : Option (List ℕ)) → right_before (option_map key_expansion p) b o ≡ was_right p b o
      before None = refl
      before (Some k) = refl

  early-same : (src seg : List ℕ) → length src ≡ size l.local.family → steps.is_early (view l t (sender src seg)) (block src) seg ≡ opens_early (at_time t j) src seg
  unfolding steps.is_early opens_early
  early-same src seg local =
      let below = ltb (pending_at t l.slots) l.settings.limit in
      let spare = ltb (pending_from t (block src) l.slots) l.settings.share in
      let cookie = right l.keys (block src) (carried_by l.settings.codings seg) in
      and_assoc l.settings.on (below && spare) cookie
      ∙ (ap (λ x. l.settings.on && x) (and_assoc below spare cookie)
      ∙ rw (a.settings, right-same src seg, pending-same now, from_same now src local a.table.fits))

  -- a peer, by an address of the family
  module _ (p : Peer) (local : length p.address ≡ size l.local.family) where
    -- its place, where it has one in the table
    fits-at : (scan_for l t p).place < length l.slots → Fits l.local.family (view l t p).slot
    fits-at h = all_at (Fits l.local.family) l.slots (scan_for l t p).place free_slot a.table.fits h

    stands_at : (scan_for l t p).place < length l.slots → stands l.local.family t p (view l t p).slot ≡ true
    stands_at h =
        sym (holds_peer-stands l.local.family t p (view l t p).slot local (fits-at h))
        ∙ first_passes (holds_peer t (block p.address) p.port) l.slots free_slot h

    -- it has one if its slot is in a status that the free slot is not in
    placed : (q : Status → Bool) → q Free ≡ false → q (view l t p).slot.status ≡ true → (scan_for l t p).place < length l.slots
    placed q free h = go (ltb (scan_for l t p).place (length l.slots)) refl
      where
        go : (b : Bool) → ltb (scan_for l t p).place (length l.slots) ≡ b → (scan_for l t p).place < length l.slots
        go true e = ltb-true _ _ e
        go false e = absurd (false≢true (sym free ∙ (ap (λ s. q s.status) (sym (get_or-eq_default l.slots free_slot (ltb-false _ _ e))) ∙ h)))

    -- the journal has an entry exactly if the table has the connection
    known-has : has p (at_time t j).entries ≡ known (view l t p)
    known-has = one_test _ _ there back
      where
        entries : ℕ
        entries = tally (named p) (at_time t j).entries

        there : ltb 0 entries ≡ true → known (view l t p) ≡ true
        there e = go (ltb (scan_for l t p).place (length l.slots)) refl
          where
            go : (b : Bool) → ltb (scan_for l t p).place (length l.slots) ≡ b → known (view l t p) ≡ true
            go true q = rw (not_free (is_live t) refl (view l t p).slot.status ((and-eq-true_iff _ _).0 (stands_at (ltb-true _ _ q))).0)
            go false q = absurd (omega (
              arith,
              ltb-true 0 entries e,
              stands-tally now p,
              sum_le_all (Fits l.local.family) (λ s. bit (stands l.local.family t p s)) (λ s. bit (holds_peer t (block p.address) p.port s))
                  (λ s fit. omega (arith, ap bit (holds_peer-stands l.local.family t p s local fit))) l.slots a.table.fits,
              none_passes (holds_peer t (block p.address) p.port) l.slots (ltb-false _ _ q),
            ))

        back : known (view l t p) ≡ true → ltb 0 entries ≡ true
        back e =
            let h = placed (λ st. not (is_free st)) refl e in
            let some = some_passes (stands l.local.family t p) l.slots (scan_for l t p).place free_slot h (stands_at h) in
            lt-ltb 0 entries (omega (arith, stands-tally now p))

    -- its slot gets another status, and its entry changes by a rule
    changed : (st : Status) (rule : Entry → List Entry) (q : Status → Bool) → q Free ≡ false → q (view l t p).slot.status ≡ true → Thins rule
        → ((n : Peer) → entry_for t n st ≡ amend (λ e. amend (kept t) (rule e)) (entry_for t n (view l t p).slot.status))
        → Agrees (put l t (scan_for l t p).place (with_status (view l t p).slot st)) (amended (at_time t j) p rule)
    changed st rule q free h thin e =
        let f = l.local.family in
        let es = (at_time t j).entries in
        let i = (scan_for l t p).place in
        let s = (view l t p).slot in
        let there = placed q free h in
        put_agrees l j t i (with_status s st) (amend (only p rule) es) a (fits-at there)
        (settled_amend f t l.slots es p rule i (with_status s st) now thin there (stands_at there) (e (name_of f s)))

    -- a new connection takes the lowest free place
    entered : (irs iss : ℕ) (st : Status) (k : Mark) → known (view l t p) ≡ false → (view l t p).vacant ≡ true
        → ((n : Peer) → entry_for t n st ≡ record { peer = n; mark = k } ∷ [])
        → Agrees (put l t (scan_for l t p).free (new_slot (block p.address) p.port irs iss st))
        (with (at_time t j) (record { peer = p; mark = k } ∷ (at_time t j).entries))
    entered irs iss st k new out_len e =
        put_agrees l j t i s (record { peer = p; mark = k } ∷ (at_time t j).entries) a (ap block (sym address))
        (settled (match_add now p k i s none inside vacant entry))
      where
        i : ℕ
        i = (scan_for l t p).free

        s : Slot
        s = new_slot (block p.address) p.port irs iss st

        address : take (size l.local.family) (block p.address) ≡ p.address
        address = short (size l.local.family) p.address local

        none : tally (named p) (at_time t j).entries ≡ 0
        none = omega (arith, ltb-false 0 (tally (named p) (at_time t j).entries) (known-has ∙ new))

        inside : i < length l.slots
        inside = omega (arith, ltb-true i 64 out_len, a.table.long)

        vacant : is_live t (get_or l.slots i free_slot).status ≡ false
        vacant = not-true _ (first_passes (λ o. not (is_live t o.status)) l.slots free_slot inside)

        entry : entry_in l.local.family t s ≡ record { peer = p; mark = k } ∷ []
        entry = e (name_of l.local.family s) ∙ (λ x. record { peer = record { address = address x; port = p.port }; mark = k } ∷ [])

  -- a segment from an address of the family
  module _ (src seg : List ℕ) (iss out_len : ℕ) (local : length src ≡ size l.local.family) where
    new_follows : known (view l t (sender src seg)) ≡ false → (view l t (sender src seg)).vacant ≡ true → (b : Bool)
        → SegmentFollows l t src seg iss out_len (new_event b (min (length (payload_of seg)) l.settings.early_room))
        (with (at_time t j) (record { peer = sender src seg; mark = new_mark b } ∷ (at_time t j).entries)) (new_decision b (at_time t j) seg)
    new_follows new free true =
        record {
          agrees = entered (sender src seg) local (fields_of seg).seq iss (SynReceivedEarly (min (length (payload_of seg)) l.settings.early_room)) mark_early new free (λ m. refl);
          decided = rw a.settings (handed (segment t src seg iss out_len) (min (length (payload_of seg)) j.settings.early_room) (omega arith));
        }
    new_follows new free false = quiet refl (entered (sender src seg) local (fields_of seg).seq iss SynReceived mark_plain new free (λ m. refl))

    opening_follows : (k : Bool) → known (view l t (sender src seg)) ≡ k → (k || (view l t (sender src seg)).vacant) ≡ true
        → SegmentFollows l t src seg iss out_len (opening_event k (view l t (sender src seg)) (block src) seg)
        (opened k (at_time t j) src seg) (opening_decision k (at_time t j) src seg)
    opening_follows true e free =
        -- a repeat's slot is put back as it was
        let same = set-get_or l.slots (scan_for l t (sender src seg)).place free_slot in
        let stays : Agrees (put l t (scan_for l t (sender src seg)).place (view l t (sender src seg)).slot) (at_time t j) =
        subst (λ s. Agrees (moved l t s) (at_time t j)) (sym same) (moved_agrees l j t l.slots (at_time t j).entries a unchanged) in
        quiet {e = events.Retransmission} refl stays
    opening_follows false e free = rw (early-same src seg local) (new_follows e free (opens_early (at_time t j) src seg))

    by_kind : (k : Kind) → Passed (kind_checks (view l t (sender src seg)) (fields_of seg) k)
        → SegmentFollows l t src seg iss out_len (segment_event (view l t (sender src seg)) (block src) seg k)
        (segment_noted (at_time t j) src seg k) (segment_decision (at_time t j) src seg k)
    unfolding segment_noted segment_decision
    by_kind Syn q = rw (known-has (sender src seg) local) (opening_follows (known (view l t (sender src seg))) refl (not-false _ q.1.0))
    by_kind Ack q =
        let waits = not-false _ q.0 in
        quiet refl (changed (sender src seg) local Established completed is_waiting refl waits (λ n e. omega arith)
        (λ n. completed-entry t n (view l t (sender src seg)).slot.status waits))
    by_kind Rst q =
        let waits = not-false _ q.0 in
        let end = t + j.settings.hold in
        quiet refl (changed (sender src seg) local _ (was_reset end) is_waiting refl waits (reset_thins end)
        (λ n. rw a.settings (reset_entry t end n (view l t (sender src seg)).slot.status waits)))
    by_kind Other q = absurd (true≢false q.0)

-- close and abandon
released : (l : Listener) (j : Journal) (t : ℕ) → Agrees l j → (b : List ℕ) (port : ℕ) (q : Status → Bool) → q Free ≡ false
    → let p : Peer = record { address = b; port = port } in
    let v = view l t p in
    Passed (timely v.local.started v.untimely ++ addressed v.local.family b ++ ((NoConnection, not (q v.slot.status)) ∷ []))
    → Agrees (freed l t p) (amended (at_time t j) p removed)
released l j t a b port q free c =
    let p : Peer = record { address = b; port = port } in
    changed l j t a (on-time l t c.1.0) p (eqb-true _ _ (not-false _ c.1.1.0)) Free removed q free (not-false _ c.1.1.1.0)
    (λ m e. omega arith) (λ m. removed-entry t m (view l t p).slot.status)

done : (l : Listener) (j : Journal) (c : Call) → Agrees l j → Passed (checks (view_of l c) c)
    → Follows c (after l c) (done_event (view_of l c) c) (noted (at_time (time_of c) j) c) (done_decision (at_time (time_of c) j) c)
unfolding after noted done_decision
done l j (segment t src seg iss out_len) a q =
    by_kind l j t a (on-time l t q.1.0) src seg iss out_len (eqb-true _ _ (not-false _ q.1.1.0)) (kind_of (fields_of seg).flags) q.1.1.1.1.1.1.1
done l j (settings t g) a q =
    let table = unchanged l j t a (on-time l t q.1.0) in
    quiet refl (record { started = a.started; time = refl; settings = refl; present = a.present; previous = a.previous; table = table })
done l j (key t k) a q =
    let table = unchanged l j t a (on-time l t q.1.0) in
    quiet refl (record { started = a.started; time = refl; settings = a.settings; present = refl; previous = ap (λ (w : List ℕ). Some w) a.present; table = table })
done l j (abandon t b p) a q = quiet refl (released l j t a b p is_waiting refl q)
done l j (resend t b p out_len) a q = quiet refl (moved_agrees l j t l.slots (at_time t j).entries a (unchanged l j t a (on-time l t q.1.0)))
done l j (close t b p) a q = quiet refl (released l j t a b p is_established refl q)

-- A call, and what the journal makes of the number that it returns
one : (l : Listener) (j : Journal) (c : Call) → Agrees l j → (r : Check) → call_check l c ≡ r
    → let o = outcome_of l c r in
    let n = number_of_event o.event in
    Follows c o.listener o.event (feed j c n) (journal_decision j c n)
unfolding call_check feed journal_decision
one l j c a (Ok _) e = rw (done-number (view_of l c) c) (done l j c a (every-check (checks (view_of l c) c) e))
one l j c a (Err r) e = go (number_of r) refl
  where
    go : (n : ℕ) → number_of r ≡ n → Follows c l (events.Refused r) (feed j c n) (journal_decision j c n)
    go zero z = absurd (let w : ◌≡◌ {A = ℕ} 0 1 = cc (numbers.done_is_0 (Err r) z) in omega arith)
    go (suc n) z = quiet refl a

pub stays : (l : Listener) (j : Journal) (c : Call) → Agrees l j → Agrees (step l c).listener (feed j c (number_of_event (step l c).event))
unfolding step
stays l j c a = (one l j c a (call_check l c) refl).agrees

-- Lists of calls
all_follow : (l : Listener) (j : Journal) (calls : List Call) → Agrees l j
    → Agrees (listener_after l calls) (journal_after j (numbered l calls)) × (listener_decisions l calls ≡ journal_decisions j (numbered l calls))
unfolding step listener_after journal_after numbered listener_decisions journal_decisions
all_follow l j [] a = (a, refl)
all_follow l j (c ∷ cs) a =
    let x = one l j c a (call_check l c) refl in
    let more = all_follow (step l c).listener (feed j c (number_of_event (step l c).event)) cs x.agrees in
    (more.0, ap₂ ◌∷◌ x.decided more.1)

-- the numbers of both, of all addresses and of one of the family
module _ (l : Listener) (j : Journal) (g : Agrees l j) where
  same-pending : pending_number l ≡ pending_of j
  unfolding pending_number
  same-pending = rw g.started (sym (pending-same g.table.match) ∙ rw g.time (pending_settled l.clock j.entries))

  same_address : (a : List ℕ) → length a ≡ size l.local.family → address_pending l a ≡ pending_of_address j a
  same_address a local = sym (from_same g.table.match a local g.table.fits) ∙ rw g.time (from_settled l.clock a j.entries)

-- The start

fresh_agrees : (own : List ℕ) (port : ℕ) (k : List ℕ) → Agrees (fresh_listener own port k) (fresh_journal own port k)
fresh_agrees own port k = record { started = refl; time = refl; settings = refl; present = refl; previous = refl; table = blank (family_of (length own)) }
  where
    blank : (f : Family) → Table f 0 (replicate 64 free_slot) []
    blank f =
        record {
          long = length-replicate 64 free_slot;
          fits = all_replicate (Fits f) 64 free_slot (zero_block f);
          match = record { same = λ w. sym (sum_zero (λ s. sum w (entry_in f 0 s)) 64 free_slot refl); once = λ p. omega arith };
        }

-- a start that is done
begins : (own : List ℕ) (port : ℕ) (k : List ℕ) → (start_of own port k).check ≡ all_clear → Agrees (start_of own port k).listener (fresh_journal own port k)
unfolding start_of
begins own port k = go (refusal (start_checks own k))
  where
    go : (r : Check) → (started_by own port k r).check ≡ all_clear → Agrees (started_by own port k r).listener (fresh_journal own port k)
    go (Ok _) e = fresh_agrees own port k
    go (Err r) e = absurd (let z : ◌≡◌ {A = ℕ} 0 1 = cc in omega arith)

-- and calls after it
pub agreed : (own : List ℕ) (port : ℕ) (k : List ℕ) (calls : List Call) → (start_of own port k).check ≡ all_clear
    → Agrees (listener_after (start_of own port k).listener calls) (journal_after (fresh_journal own port k) (numbered (start_of own port k).listener calls))
agreed own port k calls e = (all_follow (start_of own port k).listener (fresh_journal own port k) calls (begins own port k e)).0

pub demand3 : (own : List ℕ) (port : ℕ) (k : List ℕ) (calls : List Call) → (start_of own port k).check ≡ all_clear → Demand3 own port k calls
demand3 own port k calls e =
    record {
      pending = same-pending _ _ (agreed own port k calls e);
      addresses = same_address _ _ (agreed own port k calls e);
      verdicts = (all_follow (start_of own port k).listener (fresh_journal own port k) calls (begins own port k e)).1;
    }
