-- A capture that is read in pieces gives what the walk over the whole gives, however it is cut; and less than a record is kept. Assumes nothing.
use Rattle.std.specs.Prelude.{Option, None, Some, Ok, Err}
use Prim.Native.Nat.{ℕ, zero, suc, ◌+◌, ◌-◌, ◌≤◌, ◌<◌, ◌^◌}
use mathlib.Core.Path.{◌≡◌, refl, sym, ap, subst, ◌∙◌}
use mathlib.Core.Logic.{inl, inr}
use mathlib.Core.Bool.{Bool, true, false, cond}
use mathlib.Core.List.{List, [], ◌∷◌, ◌++◌, append-nil, append_assoc, flatten}
use native.Mathlib.Omega.{arith}
use native.Mathlib.Nat.{zero-add}
use borrow.Author.Tests.{le-ltb, ltb-true, ltb-false}
use lib.Dec.{ltb}
use lib.Seq.{drop-nil, drop-drop}
use lib.ListN.{length, drop, length-append}
use Rattle.pcap.specs.File.{linked, header_of}
use Rattle.pcap.specs.Record.{Found, next_of, check_of}
use Rattle.pcap.specs.Records.{Recorded, packet_of, recorded_as, Walk, walk, capture}
use Rattle.segment.specs.declared.refusal.Refusal.{Refusal}
use Rattle.segment.specs.declared.refusal.Refusal.TheVariants.{BadCapture}
use Rattle.pcap.specs.Walker.{fresh, has_room, opened_by, header_taken, next_taken, record_taken, taken_at, taken_of, size_taken, walker_after, Counts, header_check, finish_at, finish_of, Drained, stopped, drained_by, drain, after, fed, Stands, SameWalk, step_of, OneStep}
use Rattle.pcap.specs.declared.file.ByteOrder.{ByteOrder}
use Rattle.pcap.specs.declared.file.ByteOrder.TheVariants.{LowFirst, HighFirst}
use Rattle.pcap.specs.declared.record.RecordHead.{RecordHead}
use Rattle.pcap.specs.declared.walker.Walker.{Walker}
use Rattle.pcap.specs.declared.walker.Taken.{Taken}
use Rattle.pcap.specs.declared.walker.Taken.TheVariants.{Opened, Record, More, Bad, TooLong}
use Rattle.pcap.proofs.Next.{Told, whole, none_left, refused, long-append, next-append, packet-append, bad_append}
use Rattle.pcap.proofs.Steps.{has_room_lem}

-- More bytes behind those in hand

-- a file header stays what it is
pub header-append : (s t : List ℕ) → 24 ≤ length s → header_of (s ++ t) ≡ header_of s
unfolding header_of linked
header-append s t h =
    rw (
      le-ltb (length (s ++ t)) 24 (omega (arith, length-append s t)),
      le-ltb (length s) 24 h,
      long-append LowFirst s t 0 (omega arith),
      long-append HighFirst s t 0 (omega arith),
      long-append LowFirst s t 20 (omega arith),
      long-append HighFirst s t 20 (omega arith),
    )

-- what a step knows: one that takes something, or finds what no capture has, is not changed by more bytes, and what it takes is there; where it asks for more, less
-- than a record is in hand
abbrev pub Settled : Walker → Option ByteOrder → List ℕ → Taken → Type 0
Settled w st s (Opened o) = ((t : List ℕ) → taken_at w st (s ++ t) ≡ Opened o) × (24 ≤ length s)
Settled w st s (Record h) = ((t : List ℕ) → taken_at w st (s ++ t) ≡ Record h) × ((16 + h.captured ≤ length s) × ((t : List ℕ) → packet_of h (s ++ t) ≡ packet_of h s))
Settled w st s More = length s < 4112
Settled w st s Bad = (t : List ℕ) → taken_at w st (s ++ t) ≡ Bad
Settled w st s TooLong = Unit {0}

header_settled : (w : Walker) (s : List ℕ) → Settled w None s (header_taken w s)
unfolding header_taken
header_settled w s = go (ltb (length s) 24) refl
  where
    opened : 24 ≤ length s → (f : Option ByteOrder) → header_of s ≡ f → (r : Bool) → has_room w 24 ≡ r → Settled w None s (opened_by w f)
    opened h None q r e = λ t. rw (le-ltb (length (s ++ t)) 24 (omega (arith, length-append s t)), header-append s t h, q)
    opened h (Some o) q true e =
        rw e ((λ t. rw (le-ltb (length (s ++ t)) 24 (omega (arith, length-append s t)), header-append s t h, q, e)), h)
    opened h (Some o) q false e = rw e tt

    go : (b : Bool) → ltb (length s) 24 ≡ b → Settled w None s (cond b More (opened_by w (header_of s)))
    go true e = omega (arith, ltb-true (length s) 24 e)
    go false e = opened (ltb-false (length s) 24 e) (header_of s) refl (has_room w 24) refl

record_settled : (w : Walker) (o : ByteOrder) (s : List ℕ) → Settled w (Some o) s (record_taken w o s)
unfolding record_taken
record_settled w o s = go (next_of o s) refl
  where
    taken : (h : RecordHead) → next_of o s ≡ Ok (Some h) → (r : Bool) → has_room w (16 + h.captured) ≡ r
        → Settled w (Some o) s (next_taken w (Ok (Some h)))
    taken h q true e = rw e ((λ t. rw (next-append o s t h q, e)), ((whole o s h q).fits, (λ t. packet-append o s t h q)))
    taken h q false e = rw e tt

    ended : (r : Refusal) → next_of o s ≡ Err r → Told o s (Err r) → Settled w (Some o) s (next_taken w (Err r))
    ended r q (inl k) = rw k.0 k.1
    ended r q (inr k) =
        let e : next_of o s ≡ Err BadCapture = q ∙ rw k.0 in
        rw k.0 (λ t. rw (bad_append o s t e))

    go : (n : Found) → next_of o s ≡ n → Settled w (Some o) s (next_taken w n)
    go (Ok (Some h)) q = taken h q (has_room w (16 + h.captured)) refl
    go (Ok None) q = omega (arith, none_left o s q)
    go (Err r) q = ended r q (refused o s r q)

pub settled : (w : Walker) (st : Option ByteOrder) (s : List ℕ) → Settled w st s (taken_at w st s)
settled w None s = header_settled w s
settled w (Some o) s = record_settled w o s

-- a walker that asks for more has less than one record in hand
pub kept : (w : Walker) (s : List ℕ) → taken_of w s ≡ More → length s < 4112
kept w s e = subst (Settled w w.order s) e (settled w w.order s)

-- All steps on some bytes, and then all on what they left and more
abbrev Goes : List ℕ → List ℕ → Type 0
Goes s t = (w : Walker) (k : ℕ) → k ≤ length s → drain w k (s ++ t) ≡ after (drain w k s).records (drain (drain w k s).walker 0 ((drain w k s).rest ++ t))

goes_step : (b : ℕ) (s t : List ℕ) → Goes s t → (w : Walker) → drain w 0 (b ∷ s ++ t)
    ≡ after (drain w 0 (b ∷ s)).records (drain (drain w 0 (b ∷ s)).walker 0 ((drain w 0 (b ∷ s)).rest ++ t))
unfolding drain
goes_step b s t later w = go (taken_of w (b ∷ s)) refl (settled w w.order (b ∷ s))
  where
    go : (x : Taken) → taken_of w (b ∷ s) ≡ x → Settled w w.order (b ∷ s) x → drain w 0 (b ∷ s ++ t)
        ≡ after (drain w 0 (b ∷ s)).records (drain (drain w 0 (b ∷ s)).walker 0 ((drain w 0 (b ∷ s)).rest ++ t))
    go (Opened o) e k = rw (e, k.0 t) (later (walker_after w (Opened o)) 23 (omega (arith, k.1)))
    go (Record h) e k =
        rw (e, k.0 t, k.1.1 t)
        (ap (λ (d : Drained). record { records = recorded_as h (b ∷ s) ∷ d.records; walker = d.walker; rest = d.rest })
        (later (walker_after w (Record h)) (16 + h.captured - 1) (omega (arith, k.1.0))))
    go More e k = rw e
    go Bad e k = rw e
    go TooLong e k = rw e

goes : (s t : List ℕ) → Goes s t
unfolding drain
goes [] t w zero h = refl
goes [] t w (suc k) h = absurd (omega arith)
goes (b ∷ s) t w zero h = goes_step b s t (goes s t) w
goes (b ∷ s) t w (suc k) h = goes s t w k (omega arith)

-- so piece after piece is all at once
pub at_once : (ps : List (List ℕ)) (w : Walker) (held : List ℕ) → fed w held ps ≡ drain w 0 (held ++ flatten ps)
unfolding fed flatten
at_once [] w held = rw append-nil
at_once (p ∷ ps) w held =
    let d = drain w 0 (held ++ p) in
    ap (after d.records) (at_once ps d.walker d.rest) ∙ sym (goes (held ++ p) (flatten ps) w 0 (omega arith)) ∙ rw append_assoc

-- what was taken is one thing
abbrev IsBad : Taken → Type 0
IsBad (Opened o) = ⊥
IsBad (Record h) = ⊥
IsBad More = ⊥
IsBad Bad = Unit {0}
IsBad TooLong = ⊥

abbrev IsLong : Taken → Type 0
IsLong (Opened o) = ⊥
IsLong (Record h) = ⊥
IsLong More = ⊥
IsLong Bad = ⊥
IsLong TooLong = Unit {0}

taken_apart : {t : Taken} → t ≡ Bad → Unit {0} → IsBad t
taken_apart e u = subst IsBad (sym e) u

long_apart : {t : Taken} → t ≡ TooLong → Unit {0} → IsLong t
long_apart e u = subst IsLong (sym e) u

-- All steps on a whole capture

abbrev pub Same : Drained → Walk → Type 0
Same d v = (d.records ≡ v.records) × (finish_of d.walker d.rest ≡ v.check)

abbrev Walks : ByteOrder → List ℕ → Type 0
Walks o s = (w : Walker) (k : ℕ) → w.order ≡ Some o → Counts w (length s - k) → Same (drain w k s) (walk o k s)

walks_step : (o : ByteOrder) (b : ℕ) (s : List ℕ) → Walks o s → (w : Walker) → w.order ≡ Some o → Counts w (length (b ∷ s)) → Same (drain w 0 (b ∷ s)) (walk o 0 (b ∷ s))
unfolding drain walk record_taken finish_of
walks_step o b s later w st c = go (next_of o (b ∷ s)) refl
  where
    step : (n : Found) → next_of o (b ∷ s) ≡ n → taken_of w (b ∷ s) ≡ next_taken w n
    step n q = rw (st, q)

    ends : (n : Found) → next_of o (b ∷ s) ≡ n → finish_of w (b ∷ s) ≡ check_of n
    ends n q = rw (st, q)

    go : (n : Found) → next_of o (b ∷ s) ≡ n → Same (drain w 0 (b ∷ s)) (walk o 0 (b ∷ s))
    go (Ok (Some h)) q =
        let f = (whole o (b ∷ s) h q).fits in
        let k = 16 + h.captured - 1 in
        let r : has_room w (16 + h.captured) ≡ true = has_room_lem w (16 + h.captured) (record { records = omega (arith, c.records, f); bytes = omega (arith, c.bytes, f) }) in
        let t : taken_of w (b ∷ s) ≡ Record h = step (Ok (Some h)) q ∙ rw r in
        let i = later (walker_after w (Record h)) k st (record { records = omega (arith, c.records, f); bytes = omega (arith, c.bytes, f) }) in
        rw (t, q) (ap (λ (rs : List Recorded). recorded_as h (b ∷ s) ∷ rs) i.0, i.1)
    go (Ok None) q = rw (step (Ok None) q, q) (refl, ends (Ok None) q)
    go (Err r) q = ended (refused o (b ∷ s) r q)
      where
        ended : Told o (b ∷ s) (Err r) → Same (drain w 0 (b ∷ s)) (walk o 0 (b ∷ s))
        ended (inl k) = rw (step (Err r) q, q, k.0) (refl, ends (Err r) q ∙ rw k.0)
        ended (inr k) = rw (step (Err r) q, q, k.0) (refl, ends (Err r) q ∙ rw k.0)

walks : (o : ByteOrder) (s : List ℕ) → Walks o s
unfolding drain walk next_of finish_of
walks o [] w k st c = (refl, rw st)
walks o (b ∷ s) w zero st c = walks_step o b s (walks o s) w st (record { records = omega (arith, c.records); bytes = omega (arith, c.bytes) })
walks o (b ∷ s) w (suc k) st c = walks o s w k st (record { records = omega (arith, c.records); bytes = omega (arith, c.bytes) })

opened : (b : ℕ) (s : List ℕ) → length (b ∷ s) < 2 ^ 64 → 24 ≤ length (b ∷ s) → (f : Option ByteOrder) → header_of (b ∷ s) ≡ f
    → header_taken fresh (b ∷ s) ≡ opened_by fresh f → Same (drain fresh 0 (b ∷ s)) (capture (b ∷ s))
unfolding drain capture finish_of walk has_room
opened b s h m None q e = rw (e, q) (refl, refl)
opened b s h m (Some o) q e =
    rw (e, q) (walks o s (walker_after fresh (Opened o)) 23 refl (record { records = omega arith; bytes = omega arith }))

pub walked : (s : List ℕ) → length s < 2 ^ 64 → Same (drain fresh 0 s) (capture s)
unfolding drain capture header_taken finish_of header_of
walked [] h = (refl, refl)
walked (b ∷ s) h = go (ltb (length (b ∷ s)) 24) refl
  where
    go : (t : Bool) → ltb (length (b ∷ s)) 24 ≡ t → Same (drain fresh 0 (b ∷ s)) (capture (b ∷ s))
    go true e =
        let q : header_of (b ∷ s) ≡ None = rw e in
        let t : header_taken fresh (b ∷ s) ≡ More = rw e in
        rw (t, q) (refl, refl)
    go false e = opened b s h (ltb-false (length (b ∷ s)) 24 e) (header_of (b ∷ s)) refl (rw e)

-- a walk that meets what no capture has ends with 15
pub finish_bad : (w : Walker) (s : List ℕ) → taken_of w s ≡ Bad → finish_of w s ≡ Err BadCapture
unfolding finish_of header_taken record_taken
finish_bad w s e = go w.order e
  where
    header : (b : Bool) (f : Option ByteOrder) → cond b More (opened_by w f) ≡ Bad → header_check f ≡ Err BadCapture
    header b None q = refl
    header true (Some o) q = absurd (taken_apart q tt)
    header false (Some o) q = room (has_room w 24) q
      where
        room : (r : Bool) → cond r (Opened o) TooLong ≡ Bad → header_check (Some o) ≡ Err BadCapture
        room true q = absurd (taken_apart q tt)
        room false q = absurd (taken_apart q tt)

    record_bad : (o : ByteOrder) (n : Found) → next_of o s ≡ n → next_taken w n ≡ Bad → check_of n ≡ Err BadCapture
    record_bad o (Ok (Some h)) p q = room (has_room w (16 + h.captured)) q
      where
        room : (r : Bool) → cond r (Record h) TooLong ≡ Bad → check_of (Ok (Some h)) ≡ Err BadCapture
        room true q = absurd (taken_apart q tt)
        room false q = absurd (taken_apart q tt)
    record_bad o (Ok None) p q = absurd (taken_apart q tt)
    record_bad o (Err r) p q = ended (refused o s r p)
      where
        ended : Told o s (Err r) → check_of (Err r) ≡ Err BadCapture
        ended (inl k) = absurd (taken_apart (rw k.0 at q) tt)
        ended (inr k) = rw k.0

    go : (st : Option ByteOrder) → taken_at w st s ≡ Bad → finish_at st s ≡ Err BadCapture
    go None q = header (ltb (length s) 24) (header_of s) q
    go (Some o) q = record_bad o (next_of o s) refl q

-- the counts never run out where there is room for all bytes
pub never_too_long : (w : Walker) (s t : List ℕ) → Counts w (length (s ++ t)) → taken_of w s ≡ TooLong → ⊥
unfolding header_taken record_taken
never_too_long w s t c e = go w.order e
  where
    fits : (n : ℕ) → 1 ≤ n → n ≤ length s → has_room w n ≡ true
    fits n k h =
        has_room_lem w n (record { records = omega (arith, c.records, length-append s t); bytes = omega (arith, c.bytes, length-append s t) })

    header : (b : Bool) → ltb (length s) 24 ≡ b → (f : Option ByteOrder) → cond b More (opened_by w f) ≡ TooLong → ⊥
    header true k f q = long_apart q tt
    header false k None q = long_apart q tt
    header false k (Some o) q = long_apart (rw (fits 24 (omega arith) (ltb-false (length s) 24 k)) at q) tt

    go : (st : Option ByteOrder) → taken_at w st s ≡ TooLong → ⊥
    go None q = header (ltb (length s) 24) refl (header_of s) q
    go (Some o) q = next_one (next_of o s) refl q
      where
        next_one : (n : Found) → next_of o s ≡ n → next_taken w n ≡ TooLong → ⊥
        next_one (Ok (Some h)) k q = long_apart (rw (fits (16 + h.captured) (omega arith) (whole o s h k).fits) at q) tt
        next_one (Ok None) k q = long_apart q tt
        next_one (Err r) k q = ended (refused o s r k)
          where
            ended : Told o s (Err r) → ⊥
            ended (inl p) = long_apart (rw p.0 at q) tt
            ended (inr p) = long_apart (rw p.0 at q) tt

-- there are no more records than bytes
pub fewer : (s : List ℕ) (w : Walker) (k : ℕ) → length (drain w k s).records ≤ length s
unfolding drain
fewer [] w k = omega arith
fewer (b ∷ s) w (suc k) = omega (arith, fewer s w k)
fewer (b ∷ s) w zero = go (fewer s) (taken_of w (b ∷ s)) refl
  where
    go : ((v : Walker) (k : ℕ) → length (drain v k s).records ≤ length s)
        → (t : Taken) → taken_of w (b ∷ s) ≡ t → length (drain w 0 (b ∷ s)).records ≤ length (b ∷ s)
    go later (Opened o) e = rw e (omega (arith, later (walker_after w (Opened o)) 23))
    go later (Record h) e = rw e (omega (arith, later (walker_after w (Record h)) (16 + h.captured - 1)))
    go later More e = rw e (omega arith)
    go later Bad e = rw e (omega arith)
    go later TooLong e = rw e (omega arith)

-- each record that is taken is counted
counted : (s : List ℕ) (w : Walker) (k : ℕ) → (drain w k s).walker.records ≡ w.records + length (drain w k s).records
unfolding drain
counted [] w k = omega arith
counted (b ∷ s) w (suc k) = counted s w k
counted (b ∷ s) w zero = go (counted s) (taken_of w (b ∷ s)) refl
  where
    go : ((v : Walker) (k : ℕ) → (drain v k s).walker.records ≡ v.records + length (drain v k s).records)
        → (t : Taken) → taken_of w (b ∷ s) ≡ t → (drain w 0 (b ∷ s)).walker.records ≡ w.records + length (drain w 0 (b ∷ s)).records
    go later (Opened o) e = rw e (later (walker_after w (Opened o)) 23)
    go later (Record h) e = rw e (omega (arith, later (walker_after w (Record h)) (16 + h.captured - 1)))
    go later More e = rw e (omega arith)
    go later Bad e = rw e (omega arith)
    go later TooLong e = rw e (omega arith)

-- each byte that is taken is counted
weighed : (s : List ℕ) (w : Walker) (k : ℕ) → (drain w k s).walker.bytes + length (drain w k s).rest ≡ w.bytes + (length s - k)
unfolding drain
weighed [] w k = omega arith
weighed (b ∷ s) w (suc k) = omega (arith, weighed s w k)
weighed (b ∷ s) w zero = go (weighed s) (taken_of w (b ∷ s)) refl (settled w w.order (b ∷ s))
  where
    go : ((v : Walker) (k : ℕ) → (drain v k s).walker.bytes + length (drain v k s).rest ≡ v.bytes + (length s - k))
        → (t : Taken) → taken_of w (b ∷ s) ≡ t → Settled w w.order (b ∷ s) t
        → (drain w 0 (b ∷ s)).walker.bytes + length (drain w 0 (b ∷ s)).rest ≡ w.bytes + (length (b ∷ s) - 0)
    go later (Opened o) e k = rw e (omega (arith, later (walker_after w (Opened o)) 23, k.1))
    go later (Record h) e k = rw e (omega (arith, later (walker_after w (Record h)) (16 + h.captured - 1), k.1.0))
    go later More e k = rw e (omega arith)
    go later Bad e k = rw e (omega arith)
    go later TooLong e k = rw e (omega arith)

-- a walker goes as far as it can
pub stops : (s : List ℕ) (w : Walker) (k : ℕ) → Stands (taken_of (drain w k s).walker (drain w k s).rest)
unfolding drain header_taken record_taken next_of
stops [] w k = go w.order
  where
    go : (st : Option ByteOrder) → Stands (taken_at w st [])
    go None = tt
    go (Some o) = tt
stops (b ∷ s) w (suc k) = stops s w k
stops (b ∷ s) w zero = go (stops s) (taken_of w (b ∷ s)) refl
  where
    go : ((v : Walker) (k : ℕ) → Stands (taken_of (drain v k s).walker (drain v k s).rest))
        → (t : Taken) → taken_of w (b ∷ s) ≡ t → Stands (taken_of (drain w 0 (b ∷ s)).walker (drain w 0 (b ∷ s)).rest)
    go later (Opened o) e = rw e (later (walker_after w (Opened o)) 23)
    go later (Record h) e = rw e (later (walker_after w (Record h)) (16 + h.captured - 1))
    go later More e = rw (e, e) tt
    go later Bad e = rw (e, e) tt
    go later TooLong e = rw (e, e) tt

-- A step at a place

-- what is passed over is dropped
passed : (s : List ℕ) (w : Walker) (k : ℕ) → drain w k s ≡ drain w 0 (drop k s)
unfolding drain
passed [] w k = rw drop-nil
passed (b ∷ s) w zero = refl
passed (b ∷ s) w (suc k) = passed s w k

pub first_step : (w : Walker) (s : List ℕ) → drain w 0 s ≡ drained_by w (taken_of w s) s (drain (walker_after w (taken_of w s)) 0 (drop (size_taken (taken_of w s)) s))
unfolding drain header_taken record_taken next_of
first_step w [] = go w.order
  where
    go : (st : Option ByteOrder) → stopped w [] ≡ drained_by w (taken_at w st []) [] (drain (walker_after w (taken_at w st [])) 0 (drop (size_taken (taken_at w st [])) []))
    go None = refl
    go (Some o) = refl
first_step w (b ∷ s) = go (taken_of w (b ∷ s)) refl
  where
    onward : (v : Walker) (n : ℕ) → 1 ≤ n → drain v (n - 1) s ≡ drain v 0 (drop n (b ∷ s))
    onward v n h =
        let k : n ≡ suc (n - 1) = omega arith in
        passed s v (n - 1) ∙ ap (drain v 0) (sym (ap (λ (m : ℕ). drop m (b ∷ s)) k))

    go : (t : Taken) → taken_of w (b ∷ s) ≡ t
        → drain w 0 (b ∷ s) ≡ drained_by w t (b ∷ s) (drain (walker_after w t) 0 (drop (size_taken t) (b ∷ s)))
    go (Opened o) e = rw e (onward (walker_after w (Opened o)) 24 (omega arith))
    go (Record h) e = rw e (ap (drained_by w (Record h) (b ∷ s)) (onward (walker_after w (Record h)) (16 + h.captured) (omega arith)))
    go More e = rw e
    go Bad e = rw e
    go TooLong e = rw e

pub one_take : (w : Walker) (window : List ℕ) (at : ℕ) → OneStep w window at
unfolding step_of
one_take w window at =
    let t = taken_of w (drop at window) in
    first_step w (drop at window) ∙ ap (λ (s : List ℕ). drained_by w t (drop at window) (drain (walker_after w t) 0 s)) (drop-drop (size_taken t) at window)

pub windows : (pieces : List (List ℕ)) → length (flatten pieces) < 2 ^ 64 → SameWalk pieces
windows pieces h =
    let e = at_once pieces fresh [] in
    let s = walked (flatten pieces) h in
    let d = fed fresh [] pieces in
    record {
      records = ap (λ (d : Drained). d.records) e ∙ s.0;
      check = ap (λ (d : Drained). finish_of d.walker d.rest) e ∙ s.1;
      place = ap (λ (d : Drained). d.walker.records) e ∙ counted (flatten pieces) fresh 0 ∙ rw (e, zero-add);
      bytes = ap (λ (d : Drained). d.walker.bytes + length d.rest) e ∙ weighed (flatten pieces) fresh 0 ∙ omega arith;
      stands = subst (λ (d : Drained). Stands (taken_of d.walker d.rest)) (sym e) (stops (flatten pieces) fresh 0);
      kept = kept d.walker d.rest;
    }
