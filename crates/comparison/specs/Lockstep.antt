-- Document 02, Item 12: two captures in lockstep, in windows: one turn, and what it leaves.
-- Assumes nothing.
use Rattle.std.specs.Prelude.{ℕ, Bool, List, take, drop, Option}
use Rattle.segment.specs.Refusal.{Check}
use Rattle.protocol.specs.declared.state.Listener.{Listener}
use Rattle.pcap.specs.Records.{packet_of}
use Rattle.pcap.specs.declared.record.RecordHead.{RecordHead}
use Rattle.walk.specs.Feed.{accepted_in}
use Rattle.comparison.specs.Account.{Judged, judged_as}
use Rattle.comparison.specs.Difference.{difference_of}
use Rattle.comparison.specs.Listing.{fresh, unpaired, tallied, list_then}
use Rattle.comparison.specs.Site.{new_site, look_of, site_fed, judged_at, site_passed}
use Rattle.comparison.specs.declared.list.Tally.{Tally}
use Rattle.comparison.specs.declared.site.Site.{Site}
use Rattle.comparison.specs.declared.site.Stand.{Stand}
use Rattle.comparison.specs.declared.site.Stand.TheVariants as stand
use Rattle.comparison.specs.declared.site.Look.{Look}
use Rattle.comparison.specs.declared.site.Judging.{Judging}
use Rattle.comparison.specs.declared.lockstep.Comparison.{Comparison}
use Rattle.comparison.specs.declared.lockstep.Turn.{Turn}
use Rattle.comparison.specs.declared.lockstep.Turn.TheVariants.{Went, NeedsFirst, NeedsSecond, Over}
use Rattle.comparison.specs.declared.lockstep.Advance.{Advance}

abbrev pub new_comparison : Listener → Comparison
new_comparison l = record { first = new_site l; second = new_site l; tally = fresh }

-- nothing is taken
abbrev pub stay : Comparison → Turn → ℕ → ℕ → Advance
stay c t at1 at2 = record { comparison = c; turn = t; at1 = at1; at2 = at2 }

-- something is taken: both sites next, and the list
abbrev pub gone : Site → Site → Tally → ℕ → ℕ → Advance
gone first second t at1 at2 = record { comparison = record { first = first; second = second; tally = t }; turn = Went; at1 = at1; at2 = at2 }

-- the file header, and a record that is skipped, are passed
abbrev pub first_passed : Comparison → Look → ℕ → Advance
first_passed c k at2 = gone (site_passed c.first k.walker) c.second c.tally k.next at2

abbrev pub second_passed : Comparison → Look → ℕ → Advance
second_passed c k at1 = gone c.first (site_passed c.second k.walker) c.tally at1 k.next

-- a record of the longer capture
abbrev pub first_alone : Comparison → Look → RecordHead → List ℕ → ℕ → ℕ → Advance
first_alone c k h packet at2 n = gone (site_fed c.first k.walker h packet) c.second (tallied n c.tally unpaired) k.next at2

abbrev pub second_alone : Comparison → Look → RecordHead → List ℕ → ℕ → ℕ → Advance
second_alone c k h packet at1 n = gone c.first (site_fed c.second k.walker h packet) (tallied n c.tally unpaired) at1 k.next

-- a record of each
abbrev pub pair_difference : Comparison → RecordHead → List ℕ → RecordHead → List ℕ → Option ℕ
pair_difference c h1 p1 h2 p2 = difference_of (judged_at c.first h1 p1) (judged_at c.second h2 p2)

abbrev pub pair_taken : Comparison → Look → RecordHead → List ℕ → Look → RecordHead → List ℕ → ℕ → Advance
pair_taken c k1 h1 p1 k2 h2 p2 n =
    gone (site_fed c.first k1.walker h1 p1) (site_fed c.second k2.walker h2 p2) (tallied n c.tally (pair_difference c h1 p1 h2 p2)) k1.next k2.next

-- for the code: what was judged, of a record's packet and the output that was lent
abbrev pub judged_with : Judging → List ℕ → List ℕ → Judged
judged_with j packet out = judged_as j.event (accepted_in j.site.listener.local packet j.event) (take j.written out)

-- A turn, where the first capture is over, by what stands in the second window

abbrev pub second_by : Comparison → Check → ℕ → List ℕ → ℕ → ℕ → Look → Stand → Advance
second_by c end at1 s2 at2 n k stand.Passed = second_passed c k at1
second_by c end at1 s2 at2 n k stand.Needs = stay c NeedsSecond at1 at2
second_by c end at1 s2 at2 n k (stand.Over other) = stay c (Over (record { first = end; second = other })) at1 at2
second_by c end at1 s2 at2 n k (stand.Fed h) = second_alone c k h (packet_of h s2) at1 n

abbrev pub second_to : Comparison → Check → ℕ → List ℕ → ℕ → ℕ → Look → Advance
second_to c end at1 s2 at2 n k = second_by c end at1 s2 at2 n k k.stand

abbrev pub second_list : Comparison → Stand → List ℕ → List ℕ
second_list c stand.Passed list = list
second_list c stand.Needs list = list
second_list c (stand.Over other) list = list
second_list c (stand.Fed h) list = list_then c.tally unpaired list

-- where a record of the first is to be fed

abbrev pub pair_by : Comparison → Look → RecordHead → List ℕ → ℕ → List ℕ → ℕ → ℕ → Look → Stand → Advance
pair_by c k1 h1 p1 at1 s2 at2 n k2 stand.Passed = second_passed c k2 at1
pair_by c k1 h1 p1 at1 s2 at2 n k2 stand.Needs = stay c NeedsSecond at1 at2
pair_by c k1 h1 p1 at1 s2 at2 n k2 (stand.Over other) = first_alone c k1 h1 p1 at2 n
pair_by c k1 h1 p1 at1 s2 at2 n k2 (stand.Fed h2) = pair_taken c k1 h1 p1 k2 h2 (packet_of h2 s2) n

abbrev pub pair_to : Comparison → Look → RecordHead → List ℕ → ℕ → List ℕ → ℕ → ℕ → Look → Advance
pair_to c k1 h1 p1 at1 s2 at2 n k2 = pair_by c k1 h1 p1 at1 s2 at2 n k2 k2.stand

abbrev pub pair_list : Comparison → RecordHead → List ℕ → List ℕ → Stand → List ℕ → List ℕ
pair_list c h1 p1 s2 stand.Passed list = list
pair_list c h1 p1 s2 stand.Needs list = list
pair_list c h1 p1 s2 (stand.Over other) list = list_then c.tally unpaired list
pair_list c h1 p1 s2 (stand.Fed h2) list = list_then c.tally (pair_difference c h1 p1 h2 (packet_of h2 s2)) list

-- A turn, by what stands in the first window

abbrev pub advance_by : Comparison → List ℕ → ℕ → List ℕ → ℕ → ℕ → Look → Look → Stand → Advance
advance_by c s1 at1 s2 at2 n k1 k2 stand.Passed = first_passed c k1 at2
advance_by c s1 at1 s2 at2 n k1 k2 stand.Needs = stay c NeedsFirst at1 at2
advance_by c s1 at1 s2 at2 n k1 k2 (stand.Over end) = second_to c end at1 s2 at2 n k2
advance_by c s1 at1 s2 at2 n k1 k2 (stand.Fed h) = pair_to c k1 h (packet_of h s1) at1 s2 at2 n k2

abbrev pub list_by : Comparison → List ℕ → List ℕ → Look → Stand → List ℕ → List ℕ
list_by c s1 s2 k2 stand.Passed list = list
list_by c s1 s2 k2 stand.Needs list = list
list_by c s1 s2 k2 (stand.Over end) list = second_list c k2.stand list
list_by c s1 s2 k2 (stand.Fed h) list = pair_list c h (packet_of h s1) s2 k2.stand list

-- what stands in each
abbrev pub first_look : Comparison → List ℕ → ℕ → Bool → Look
first_look c window at last = look_of c.first.listener.local c.first.walker window at last

abbrev pub second_look : Comparison → List ℕ → ℕ → Bool → Look
second_look c window at last = look_of c.second.listener.local c.second.walker window at last

unfoldable pub advance_of : Comparison → List ℕ → ℕ → Bool → List ℕ → ℕ → Bool → ℕ → Advance
advance_of c w1 at1 last1 w2 at2 last2 n =
    let k1 = first_look c w1 at1 last1 in
    advance_by c (drop at1 w1) at1 (drop at2 w2) at2 n k1 (second_look c w2 at2 last2) k1.stand

unfoldable pub list_next : Comparison → List ℕ → ℕ → Bool → List ℕ → ℕ → Bool → List ℕ → List ℕ
list_next c w1 at1 last1 w2 at2 last2 list = list_by c (drop at1 w1) (drop at2 w2) (second_look c w2 at2 last2) (first_look c w1 at1 last1).stand list
