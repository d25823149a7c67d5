-- Document 02, Item 12: one side of a comparison, in windows: what stands at a place of the window, and a record that is fed.
-- Assumes nothing.
use Rattle.std.specs.Prelude.{ℕ, ◌+◌, Bool, true, false, List, drop, Err}
use Rattle.segment.specs.declared.refusal.Refusal.TheVariants.{CutRecord, BadCapture}
use Rattle.protocol.specs.declared.state.LocalEndpoint.{LocalEndpoint}
use Rattle.protocol.specs.declared.state.Listener.{Listener}
use Rattle.pcap.specs.Records.{packet_of}
use Rattle.pcap.specs.Walker.{taken_of, size_taken, walker_after, finish_of}
use Rattle.pcap.specs.Walker as walker
use Rattle.pcap.specs.declared.record.RecordHead.{RecordHead}
use Rattle.pcap.specs.declared.walker.Walker.{Walker}
use Rattle.pcap.specs.declared.walker.Taken.{Taken}
use Rattle.pcap.specs.declared.walker.Taken.TheVariants.{Opened, Record, More, Bad, TooLong}
use Rattle.walk.specs.Feed.{is_fed_to, accepted_in, feed_of, feed_output}
use Rattle.comparison.specs.Account.{Judged, judged_as, lent}
use Rattle.comparison.specs.Listing.{more}
use Rattle.comparison.specs.declared.site.Site.{Site}
use Rattle.comparison.specs.declared.site.Stand.{Stand}
use Rattle.comparison.specs.declared.site.Stand.TheVariants.{Passed, Fed, Needs, Over}
use Rattle.comparison.specs.declared.site.Look.{Look}
use Rattle.comparison.specs.declared.site.Judging.{Judging}

abbrev pub new_site : Listener → Site
new_site l = record { listener = l; walker = walker.fresh; fed = 0 }

-- What stands at a place, by the walker's step. A capture that is longer than can be counted ends as a cut one.

abbrev pub record_stand : Bool → RecordHead → Stand
record_stand true h = Fed h
record_stand false h = Passed

abbrev pub more_stand : Bool → Walker → List ℕ → Stand
more_stand true w s = Over (finish_of w s)
more_stand false w s = Needs

abbrev pub stand_by : LocalEndpoint → Walker → List ℕ → Bool → Taken → Stand
stand_by local w s last (Opened o) = Passed
stand_by local w s last (Record h) = record_stand (is_fed_to local (packet_of h s)) h
stand_by local w s last More = more_stand last w s
stand_by local w s last Bad = Over (Err BadCapture)
stand_by local w s last TooLong = Over (Err CutRecord)

abbrev pub look_by : LocalEndpoint → Walker → List ℕ → ℕ → Bool → Taken → Look
look_by local w s at last t = record { stand = stand_by local w s last t; walker = walker_after w t; next = at + size_taken t }

unfoldable pub look_of : LocalEndpoint → Walker → List ℕ → ℕ → Bool → Look
look_of local w window at last = look_by local w (drop at window) at last (taken_of w (drop at window))

-- A record that is fed

abbrev pub judging_of : Site → Walker → RecordHead → List ℕ → ℕ → Judging
judging_of s behind h packet out_len =
    let o = (feed_of s.listener s.walker.records h.seconds h.micros packet out_len).outcome in
    record { site = record { listener = o.listener; walker = behind; fed = more s.fed }; event = o.event; written = o.written }

-- the site then
abbrev pub site_fed : Site → Walker → RecordHead → List ℕ → Site
site_fed s behind h packet = (judging_of s behind h packet lent).site

-- and what was judged
abbrev pub judged_at : Site → RecordHead → List ℕ → Judged
judged_at s h packet =
    let e = (feed_of s.listener s.walker.records h.seconds h.micros packet lent).outcome.event in
    judged_as e (accepted_in s.listener.local packet e) (feed_output s.listener s.walker.records h.seconds h.micros packet lent)

-- a site that passes what stands there
abbrev pub site_passed : Site → Walker → Site
site_passed s behind = record { listener = s.listener; walker = behind; fed = s.fed }
