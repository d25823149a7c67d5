-- What a comparison will come to, from a state and the accounts to come, and that a turn does not change it. Assumes nothing.
use Rattle.std.proofs.Common.{◌≡◌, ℕ, ◌+◌, ◌<◌, Bool, true, List, [], ◌++◌, length, drop, sym, refl, ap, ◌∙◌, ap₂, arith, length-drop, drop-drop}
use Rattle.segment.specs.Refusal.{Check}
use Rattle.pcap.specs.Records.{packet_of}
use Rattle.pcap.specs.Walker.{taken_of, size_taken, walker_after, Counts}
use Rattle.pcap.specs.declared.record.RecordHead.{RecordHead}
use Rattle.pcap.specs.declared.walker.Taken.{Taken}
use Rattle.comparison.specs.Account.{Account}
use Rattle.comparison.specs.Listing.{unpaired, list_then}
use Rattle.comparison.specs.Site.{look_by, look_of, site_fed, site_passed}
use Rattle.comparison.specs.Lockstep.{first_passed, second_passed, second_by, second_list, pair_by, pair_list, advance_by, list_by, advance_of, list_next}
use Rattle.comparison.specs.ToCome.{rest_of, tally_all, list_all, fed_all, ending_from, Kept, TurnKeeps}
use Rattle.comparison.specs.declared.site.Site.{Site}
use Rattle.comparison.specs.declared.site.Stand.{Stand}
use Rattle.comparison.specs.declared.site.Stand.TheVariants as stand
use Rattle.comparison.specs.declared.site.Look.{Look}
use Rattle.comparison.specs.declared.lockstep.Comparison.{Comparison}
use Rattle.comparison.specs.declared.lockstep.Turn.{Turn}
use Rattle.comparison.specs.declared.lockstep.Turn.TheVariants.{Went}
use Rattle.comparison.specs.declared.lockstep.Advance.{Advance}
use Rattle.comparison.proofs.Rest.{Moves, Ahead, ahead}

-- A turn, on windows behind which some bytes are to come
module _ (c : Comparison) (w1 : List ℕ) (at1 : ℕ) (last1 : Bool) (f1 : List ℕ) (w2 : List ℕ) (at2 : ℕ) (last2 : Bool) (f2 : List ℕ) (list : List ℕ) where
  abbrev After : Turn → Advance → List ℕ → Type 0
  After = Kept c w1 at1 last1 f1 w2 at2 last2 f2 list

  module _ (room1 : Counts c.first.walker (length (drop at1 w1 ++ f1))) (room2 : Counts c.second.walker (length (drop at2 w2 ++ f2)))
      (end1 : last1 ≡ true → f1 ≡ []) (end2 : last2 ≡ true → f2 ≡ []) where
    abbrev b1 : List ℕ
    b1 = drop at1 w1

    abbrev b2 : List ℕ
    b2 = drop at2 w2

    abbrev t1 : Taken
    t1 = taken_of c.first.walker b1

    abbrev t2 : Taken
    t2 = taken_of c.second.walker b2

    abbrev k1 : Look
    k1 = look_by c.first.listener.local c.first.walker b1 at1 last1 t1

    abbrev k2 : Look
    k2 = look_by c.second.listener.local c.second.walker b2 at2 last2 t2

    -- the windows from where a side goes on
    next1 : drop (size_taken t1) b1 ≡ drop (at1 + size_taken t1) w1
    next1 = drop-drop (size_taken t1) at1 w1

    next2 : drop (size_taken t2) b2 ≡ drop (at2 + size_taken t2) w2
    next2 = drop-drop (size_taken t2) at2 w2

    -- what is left on a side that has moved
    rest1 : (s : Site) → rest_of s (drop (size_taken t1) b1 ++ f1) ≡ rest_of s (drop (at1 + size_taken t1) w1 ++ f1)
    rest1 s = ap (λ (x : List ℕ). rest_of s (x ++ f1)) next1

    rest2 : (s : Site) → rest_of s (drop (size_taken t2) b2 ++ f2) ≡ rest_of s (drop (at2 + size_taken t2) w2 ++ f2)
    rest2 s = ap (λ (x : List ℕ). rest_of s (x ++ f2)) next2

    left1 : Moves c.first.walker t1 b1 f1 → Counts (walker_after c.first.walker t1) (length (drop (at1 + size_taken t1) w1 ++ f1))
    left1 m = rw (sym next1) m.room

    left2 : Moves c.second.walker t2 b2 f2 → Counts (walker_after c.second.walker t2) (length (drop (at2 + size_taken t2) w2 ++ f2))
    left2 m = rw (sym next2) m.room

    less1 : Moves c.first.walker t1 b1 f1 → length (drop (at1 + size_taken t1) w1) < length b1
    less1 m = rw (sym next1) (omega (arith, m.least, m.fits, length-drop (size_taken t1) b1))

    less2 : Moves c.second.walker t2 b2 f2 → length (drop (at2 + size_taken t2) w2) < length b2
    less2 m = rw (sym next2) (omega (arith, m.least, m.fits, length-drop (size_taken t2) b2))

    -- the second side passes what is skipped
    pass_second : Ahead c.second b2 f2 last2 t2 stand.Passed → After Went (second_passed c k2 at1) list
    pass_second a = (
      ap (ending_from (length list) c list (rest_of c.first (b1 ++ f1))) (a.0 ∙ rest2 (site_passed c.second (walker_after c.second.walker t2))),
      record { less = omega (arith, less2 a.1); room1 = room1; room2 = left2 a.1 },
    )

    pass_first : Ahead c.first b1 f1 last1 t1 stand.Passed → After Went (first_passed c k1 at2) list
    pass_first a = (
      ap (λ (x : Account). ending_from (length list) c list x (rest_of c.second (b2 ++ f2))) (a.0 ∙ rest1 (site_passed c.first (walker_after c.first.walker t1))),
      record { less = omega (arith, less1 a.1); room1 = left1 a.1; room2 = room2 },
    )

    -- the first capture is over
    module _ (x : Check) (over1 : rest_of c.first (b1 ++ f1) ≡ record { answers = []; end = x }) where
      by_second : (y : Stand) → Ahead c.second b2 f2 last2 t2 y
          → After (second_by c x at1 b2 at2 (length list) k2 y).turn (second_by c x at1 b2 at2 (length list) k2 y) (second_list c y list)
      unfolding tally_all list_all fed_all
      by_second stand.Passed a = pass_second a
      by_second stand.Needs a = (a, (refl, refl))
      by_second (stand.Over z) a = ap₂ (ending_from (length list) c list) over1 (a end2)
      by_second (stand.Fed h) a =
          let s = site_fed c.second (walker_after c.second.walker t2) h (packet_of h b2) in
          let d : Comparison = (second_by c x at1 b2 at2 (length list) k2 (stand.Fed h)).comparison in
          let will = ending_from (length list) d (list_then c.tally unpaired list) in (
            ap₂ (ending_from (length list) c list) over1 a.0
                ∙ ap₂ will (sym over1) (rest2 s),
            record { less = omega (arith, less2 a.1); room1 = room1; room2 = left2 a.1 },
          )

    -- a record of the first is to be fed
    module _ (h : RecordHead) (a1 : Ahead c.first b1 f1 last1 t1 (stand.Fed h)) where
      abbrev s1 : Site
      s1 = site_fed c.first (walker_after c.first.walker t1) h (packet_of h b1)

      by_pair : (y : Stand) → Ahead c.second b2 f2 last2 t2 y
          → After (pair_by c k1 h (packet_of h b1) at1 b2 at2 (length list) k2 y).turn (pair_by c k1 h (packet_of h b1) at1 b2 at2 (length list) k2 y)
          (pair_list c h (packet_of h b1) b2 y list)
      unfolding tally_all list_all fed_all
      by_pair stand.Passed a = pass_second a
      by_pair stand.Needs a = (a, (refl, refl))
      by_pair (stand.Over z) a =
          let d : Comparison = (pair_by c k1 h (packet_of h b1) at1 b2 at2 (length list) k2 (stand.Over z)).comparison in
          let will = ending_from (length list) d (list_then c.tally unpaired list) in (
            ap₂ (ending_from (length list) c list) a1.0 (a end2)
                ∙ ap₂ will (rest1 s1) (sym (a end2)),
            record { less = omega (arith, less1 a1.1); room1 = left1 a1.1; room2 = room2 },
          )
      by_pair (stand.Fed g) a =
          let s2 = site_fed c.second (walker_after c.second.walker t2) g (packet_of g b2) in
          let d : Comparison = (pair_by c k1 h (packet_of h b1) at1 b2 at2 (length list) k2 (stand.Fed g)).comparison in
          let will = ending_from (length list) d (pair_list c h (packet_of h b1) b2 (stand.Fed g) list) in (
            ap₂ (ending_from (length list) c list) a1.0 a.0
                ∙ ap₂ will (rest1 s1) (rest2 s2),
            record { less = omega (arith, less1 a1.1, less2 a.1); room1 = left1 a1.1; room2 = left2 a.1 },
          )

    by_first : (x : Stand) → Ahead c.first b1 f1 last1 t1 x → Ahead c.second b2 f2 last2 t2 k2.stand
        → After (advance_by c b1 at1 b2 at2 (length list) k1 k2 x).turn (advance_by c b1 at1 b2 at2 (length list) k1 k2 x) (list_by c b1 b2 k2 x list)
    by_first stand.Passed a b = pass_first a
    by_first stand.Needs a b = (a, (refl, refl))
    by_first (stand.Over x) a b = by_second x (a end1) k2.stand b
    by_first (stand.Fed h) a b = by_pair h a k2.stand b

    pub turn : TurnKeeps c w1 at1 last1 f1 w2 at2 last2 f2 list
    unfolding advance_of list_next look_of
    turn = by_first k1.stand (ahead c.first b1 f1 last1 room1) (ahead c.second b2 f2 last2 room2)
