-- A turn that needs more of a capture keeps less than a record of it. Assumes nothing.
use Rattle.std.proofs.Common.{◌≡◌, ℕ, ◌<◌, Bool, true, false, List, length, drop, sym, refl, subst}
use Rattle.segment.specs.Refusal.{Check}
use Rattle.protocol.specs.declared.state.LocalEndpoint.{LocalEndpoint}
use Rattle.pcap.specs.Records.{packet_of}
use Rattle.pcap.specs.Walker.{taken_of}
use Rattle.pcap.specs.declared.record.RecordHead.{RecordHead}
use Rattle.pcap.specs.declared.walker.Walker.{Walker}
use Rattle.pcap.specs.declared.walker.Taken.{Taken}
use Rattle.pcap.specs.declared.walker.Taken.TheVariants.{Opened, Record, More, Bad, TooLong}
use Rattle.pcap.proofs.Windows.{kept}
use Rattle.walk.specs.Feed.{is_fed_to}
use Rattle.comparison.specs.Site.{record_stand, stand_by, look_of}
use Rattle.comparison.specs.Lockstep.{second_by, pair_by, advance_by, first_look, second_look, advance_of}
use Rattle.comparison.specs.Windows.{KeepsLittle}
use Rattle.comparison.specs.declared.site.Stand.{Stand}
use Rattle.comparison.specs.declared.site.Stand.TheVariants as stand
use Rattle.comparison.specs.declared.site.Look.{Look}
use Rattle.comparison.specs.declared.lockstep.Comparison.{Comparison}
use Rattle.comparison.specs.declared.lockstep.Turn.{Turn}
use Rattle.comparison.specs.declared.lockstep.Turn.TheVariants.{Went, NeedsFirst, NeedsSecond, Over}

-- which a thing is

abbrev IsNeeds : Stand → Type 0
IsNeeds stand.Passed = ⊥
IsNeeds (stand.Fed h) = ⊥
IsNeeds stand.Needs = Unit {0}
IsNeeds (stand.Over x) = ⊥

abbrev IsFirst : Turn → Type 0
IsFirst Went = ⊥
IsFirst NeedsFirst = Unit {0}
IsFirst NeedsSecond = ⊥
IsFirst (Over e) = ⊥

abbrev IsSecond : Turn → Type 0
IsSecond Went = ⊥
IsSecond NeedsFirst = ⊥
IsSecond NeedsSecond = Unit {0}
IsSecond (Over e) = ⊥

-- the walker asks for more
needs_more : (local : LocalEndpoint) (w : Walker) (s : List ℕ) (last : Bool) (t : Taken) → IsNeeds (stand_by local w s last t) → t ≡ More
needs_more local w s last (Opened o) n = absurd n
needs_more local w s last (Record h) n = go (is_fed_to local (packet_of h s)) n
  where
    go : (b : Bool) → IsNeeds (record_stand b h) → Record h ≡ More
    go true n = absurd n
    go false n = absurd n
needs_more local w s last More n = refl
needs_more local w s last Bad n = absurd n
needs_more local w s last TooLong n = absurd n

looks_little : (local : LocalEndpoint) (w : Walker) (window : List ℕ) (at : ℕ) (last : Bool) → IsNeeds (look_of local w window at last).stand → length (drop at window) < 4112
unfolding look_of
looks_little local w window at last n = kept w (drop at window) (needs_more local w (drop at window) last (taken_of w (drop at window)) n)

module _ (c : Comparison) (s1 : List ℕ) (at1 : ℕ) (s2 : List ℕ) (at2 n : ℕ) (k1 k2 : Look) where
  pair-first : (h : RecordHead) (p : List ℕ) (y : Stand) → IsFirst (pair_by c k1 h p at1 s2 at2 n k2 y).turn → ⊥
  pair-first h p stand.Passed q = q
  pair-first h p stand.Needs q = q
  pair-first h p (stand.Over z) q = q
  pair-first h p (stand.Fed g) q = q

  second-first : (x : Check) (y : Stand) → IsFirst (second_by c x at1 s2 at2 n k2 y).turn → ⊥
  second-first x stand.Passed q = q
  second-first x stand.Needs q = q
  second-first x (stand.Over z) q = q
  second-first x (stand.Fed g) q = q

  pair-second : (h : RecordHead) (p : List ℕ) (y : Stand) → IsSecond (pair_by c k1 h p at1 s2 at2 n k2 y).turn → IsNeeds y
  pair-second h p stand.Passed q = absurd q
  pair-second h p stand.Needs q = tt
  pair-second h p (stand.Over z) q = absurd q
  pair-second h p (stand.Fed g) q = absurd q

  second-second : (x : Check) (y : Stand) → IsSecond (second_by c x at1 s2 at2 n k2 y).turn → IsNeeds y
  second-second x stand.Passed q = absurd q
  second-second x stand.Needs q = tt
  second-second x (stand.Over z) q = absurd q
  second-second x (stand.Fed g) q = absurd q

  needs_first : (x : Stand) → IsFirst (advance_by c s1 at1 s2 at2 n k1 k2 x).turn → IsNeeds x
  needs_first stand.Passed q = absurd q
  needs_first stand.Needs q = tt
  needs_first (stand.Over e) q = absurd (second-first e k2.stand q)
  needs_first (stand.Fed h) q = absurd (pair-first h (packet_of h s1) k2.stand q)

  needs_second : (x : Stand) → IsSecond (advance_by c s1 at1 s2 at2 n k1 k2 x).turn → IsNeeds k2.stand
  needs_second stand.Passed q = absurd q
  needs_second stand.Needs q = absurd q
  needs_second (stand.Over e) q = second-second e k2.stand q
  needs_second (stand.Fed h) q = pair-second h (packet_of h s1) k2.stand q

pub keeps_little : (c : Comparison) (w1 : List ℕ) (at1 : ℕ) (last1 : Bool) (w2 : List ℕ) (at2 : ℕ) (last2 : Bool) (n : ℕ) → KeepsLittle c w1 at1 last1 w2 at2 last2 n
unfolding advance_of
keeps_little c w1 at1 last1 w2 at2 last2 n =
    let k1 = first_look c w1 at1 last1 in
    let k2 = second_look c w2 at2 last2 in
    record {
      first = λ e.
          looks_little c.first.listener.local c.first.walker w1 at1 last1
          (needs_first c (drop at1 w1) at1 (drop at2 w2) at2 n k1 k2 k1.stand (subst IsFirst (sym e) tt));
      second = λ e.
          looks_little c.second.listener.local c.second.walker w2 at2 last2
          (needs_second c (drop at1 w1) at1 (drop at2 w2) at2 n k1 k2 k1.stand (subst IsSecond (sym e) tt));
    }
