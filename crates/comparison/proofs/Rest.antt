-- What is left for a site: the account of the bytes to come, and how it moves with what stands at the place. Assumes nothing.
use Rattle.std.specs.Prelude.{Err, Option, None, Some, is_some}
use Rattle.std.proofs.Common.{◌≡◌, ℕ, ◌+◌, ◌^◌, ◌<◌, ◌≤◌, Bool, true, false, List, [], ◌∷◌, ◌++◌, length, drop, sym, refl, ap, ◌∙◌, ap₂, append-nil, arith, length-append, length-drop}
use lib.Seq.{drop-append-le}
use Rattle.segment.specs.Refusal.{Check}
use Rattle.segment.specs.declared.refusal.Refusal.TheVariants.{BadCapture}
use Rattle.protocol.specs.Call.{Call, accepted_part}
use Rattle.protocol.specs.Step.{step}
use Rattle.protocol.specs.Demand3.{segment_of}
use Rattle.protocol.specs.declared.state.LocalEndpoint.{LocalEndpoint}
use Rattle.protocol.specs.declared.state.Listener.{Listener}
use Rattle.protocol.proofs.Local.{step_local}
use Rattle.pcap.specs.Records.{Recorded, packet_of, recorded_as}
use Rattle.pcap.specs.Walker.{taken_of, size_taken, walker_after, Counts, finish_of, Drained, stopped, drained_by, drain}
use Rattle.pcap.specs.declared.record.RecordHead.{RecordHead}
use Rattle.pcap.specs.declared.walker.Walker.{Walker}
use Rattle.pcap.specs.declared.walker.Taken.{Taken}
use Rattle.pcap.specs.declared.walker.Taken.TheVariants.{Opened, Record, More, Bad, TooLong}
use Rattle.pcap.proofs.Windows.{Settled, settled, walked, first_step, finish_bad, never_too_long}
use Rattle.packet.specs.Ip.{carried_to, tcp_of}
use Rattle.walk.specs.Feed.{accepted_in, call_if, call_of, feed_of, feed_output}
use Rattle.walk.specs.Walk.{calls_of}
use Rattle.walk.proofs.Fed.{fed-call}
use Rattle.comparison.specs.Account.{Judged, judged_by, judged, lent, Account, account_of}
use Rattle.comparison.specs.ToCome.{account_from, rest_of}
use Rattle.comparison.specs.Site.{new_site, record_stand, more_stand, stand_by, site_fed, judged_at, site_passed}
use Rattle.comparison.specs.declared.site.Site.{Site}
use Rattle.comparison.specs.declared.site.Stand.{Stand}
use Rattle.comparison.specs.declared.site.Stand.TheVariants as stand

-- at the start it is the account of the whole capture
pub at-start : (l : Listener) (s : List ℕ) → length s < 2 ^ 64 → rest_of (new_site l) s ≡ account_of l s
unfolding rest_of account_of
at-start l s h =
    let w = walked s h in
    ap₂ (λ (rs : List Recorded) (end : Check). record { answers = judged l (calls_of l.local 0 rs lent); end = end }) w.0 w.1

-- A call's segment is that of the packet
abbrev segment_in : List ℕ → Option Call → List ℕ
segment_in other None = other
segment_in other (Some c) = segment_of c

call-segment : (local : LocalEndpoint) (place seconds micros : ℕ) (packet : List ℕ) (c : Call) → call_of local place seconds micros packet lent ≡ Some c
    → segment_of c ≡ tcp_of packet (carried_to local.family local.own packet)
unfolding call_of
call-segment local place seconds micros packet c e =
    let tcp = tcp_of packet (carried_to local.family local.own packet) in
    sym (ap (segment_in tcp) e) ∙ go local.started (carried_to local.family local.own packet) refl
  where
    go : (b : Bool) (x : Option ℕ) → carried_to local.family local.own packet ≡ x
        → segment_in (tcp_of packet (carried_to local.family local.own packet)) (call_if b local place seconds micros packet lent)
        ≡ tcp_of packet (carried_to local.family local.own packet)
    go false x q = refl
    go true (Some start) q = rw q
    go true None q = rw q

-- what is left after a step that takes something
pub record Moves (w : Walker) (t : Taken) (b f : List ℕ) : Type 0 where
  pub least : 1 ≤ size_taken t
  pub fits : size_taken t ≤ length b
  pub room : Counts (walker_after w t) (length (drop (size_taken t) b ++ f))

module _ (s : Site) (b f : List ℕ) (last : Bool) where
  -- what is known of the rest, by what stands at the place and what the walker took
  abbrev pub Ahead : Taken → Stand → Type 0
  Ahead t stand.Passed = (rest_of s (b ++ f) ≡ rest_of (site_passed s (walker_after s.walker t)) (drop (size_taken t) b ++ f)) × Moves s.walker t b f
  Ahead t (stand.Fed h) =
      (rest_of s (b ++ f) ≡ record {
        answers = judged_at s h (packet_of h b) ∷ (rest_of (site_fed s (walker_after s.walker t) h (packet_of h b)) (drop (size_taken t) b ++ f)).answers;
        end = (rest_of (site_fed s (walker_after s.walker t) h (packet_of h b)) (drop (size_taken t) b ++ f)).end;
      }) × Moves s.walker t b f
  Ahead t stand.Needs = last ≡ false
  Ahead t (stand.Over x) = (last ≡ true → f ≡ []) → rest_of s (b ++ f) ≡ record { answers = []; end = x }

  module _ (room : Counts s.walker (length (b ++ f))) where
    -- the first step on all bytes
    stepped : (t : Taken) → taken_of s.walker (b ++ f) ≡ t
        → drain s.walker 0 (b ++ f) ≡ drained_by s.walker t (b ++ f) (drain (walker_after s.walker t) 0 (drop (size_taken t) (b ++ f)))
    stepped t e = first_step s.walker (b ++ f) ∙ rw e

    -- and the bytes behind it
    behind : (t : Taken) → size_taken t ≤ length b → drain (walker_after s.walker t) 0 (drop (size_taken t) (b ++ f)) ≡ drain (walker_after s.walker t) 0 (drop (size_taken t) b ++ f)
    behind t h = ap (drain (walker_after s.walker t) 0) (drop-append-le (size_taken t) b f h)

    left_over : (n : ℕ) → n ≤ length b → length (drop n b ++ f) + n ≡ length (b ++ f)
    left_over n h = omega (arith, length-append (drop n b) f, length-append b f, length-drop n b)

    opened : (o : _) → Settled s.walker s.walker.order b (Opened o) → Ahead (Opened o) stand.Passed
    unfolding rest_of
    opened o k =
        let n = left_over 24 k.1 in (
          ap (account_from s.listener s.walker.records) (stepped (Opened o) (k.0 f) ∙ behind (Opened o) k.1),
          record { least = omega arith; fits = k.1; room = record { records = omega (arith, n, room.records); bytes = omega (arith, n, room.bytes) } },
        )

    module _ (h : RecordHead) (k : Settled s.walker s.walker.order b (Record h)) where
      abbrev p : List ℕ
      p = packet_of h b

      abbrev later : Drained
      later = drain (walker_after s.walker (Record h)) 0 (drop (size_taken (Record h)) b ++ f)

      moves : Moves s.walker (Record h) b f
      moves =
          let n = left_over (16 + h.captured) k.1.0 in
          record { least = omega arith; fits = k.1.0; room = record { records = omega (arith, n, room.records); bytes = omega (arith, n, room.bytes) } }

      drained : drain s.walker 0 (b ++ f) ≡ record { records = recorded_as h b ∷ later.records; walker = later.walker; rest = later.rest }
      drained =
          stepped (Record h) (k.0 f) ∙ ap (drained_by s.walker (Record h) (b ++ f)) (behind (Record h) k.1.0)
          ∙ ap (λ (x : List ℕ). record {
            records = record { seconds = h.seconds; micros = h.micros; original = h.original; packet = x } ∷ later.records;
            walker = later.walker;
            rest = later.rest;
          }) (k.1.1 f)

      taken : (o : Option Call) → call_of s.listener.local s.walker.records h.seconds h.micros p lent ≡ o
          → Ahead (Record h) (record_stand (is_some o) h)
      unfolding rest_of calls_of judged feed_of feed_output accepted_in
      taken None e = (ap (account_from s.listener s.walker.records) drained ∙ rw e, moves)
      taken (Some c) e =
          let l = s.listener in
          let part : accepted_part (segment_of c) (step l c).event ≡ accepted_part (tcp_of p (carried_to l.local.family l.local.own p)) (step l c).event =
          ap (λ (x : List ℕ). accepted_part x (step l c).event) (call-segment l.local s.walker.records h.seconds h.micros p c e) in
          let m = (step l c).listener in
          let local : judged_by l c ∷ judged m (calls_of l.local (s.walker.records + 1) later.records lent)
          ≡ judged_by l c ∷ judged m (calls_of m.local (s.walker.records + 1) later.records lent) =
          ap (λ (x : LocalEndpoint). judged_by l c ∷ judged m (calls_of x (s.walker.records + 1) later.records lent)) (sym (step_local l c)) in
          let called : judged l (calls_of l.local s.walker.records (recorded_as h b ∷ later.records) lent)
          ≡ judged_by l c ∷ judged m (calls_of l.local (s.walker.records + 1) later.records lent) =
          rw e in
          let fed-listener : (feed_of l s.walker.records h.seconds h.micros p lent).outcome.listener ≡ m = rw e in
          let one : judged_by l c ≡ judged_at s h p = rw (e, part) in
          let rest : account_from m (s.walker.records + 1) later ≡ rest_of (site_fed s (walker_after s.walker (Record h)) h p) (drop (size_taken (Record h)) b ++ f) =
          ap (λ (y : Listener). account_from y (s.walker.records + 1) later) (sym fed-listener) in (
            ap (account_from s.listener s.walker.records) drained
                ∙ ap (λ (x : List Judged). record { answers = x; end = finish_of later.walker later.rest }) (called ∙ local)
                ∙ ap₂ (λ (j : Judged) (x : Account). record { answers = j ∷ x.answers; end = x.end }) one rest,
            moves,
          )

    settled_ahead : (t : Taken) → taken_of s.walker b ≡ t → Settled s.walker s.walker.order b t
        → Ahead t (stand_by s.listener.local s.walker b last t)
    unfolding rest_of calls_of judged
    settled_ahead (Opened o) e k = opened o k
    settled_ahead (Record h) e k =
        rw (fed-call s.listener.local s.walker.records h.seconds h.micros (packet_of h b) lent)
        (taken h k (call_of s.listener.local s.walker.records h.seconds h.micros (packet_of h b) lent) refl)
    settled_ahead More e k = go last refl
      where
        go : (x : Bool) → last ≡ x → Ahead More (more_stand x s.walker b)
        go true q = λ none_left.
            let z : b ++ f ≡ b = ap (λ (x : List ℕ). b ++ x) (none_left q) ∙ append-nil b in
            let d : drain s.walker 0 b ≡ stopped s.walker b = first_step s.walker b ∙ rw e in
            ap (account_from s.listener s.walker.records) (ap (drain s.walker 0) z ∙ d)
        go false q = q
    settled_ahead Bad e k = λ none_left. over
      where
        over : rest_of s (b ++ f) ≡ record { answers = []; end = Err BadCapture }
        over =
            ap (account_from s.listener s.walker.records) (stepped Bad (k f))
            ∙ ap (λ (x : Check). record { answers = []; end = x }) (finish_bad s.walker (b ++ f) (k f))
    settled_ahead TooLong e k = absurd (never_too_long s.walker b f room e)

    pub ahead : Ahead (taken_of s.walker b) (stand_by s.listener.local s.walker b last (taken_of s.walker b))
    ahead = settled_ahead (taken_of s.walker b) refl (settled s.walker s.walker.order b)
