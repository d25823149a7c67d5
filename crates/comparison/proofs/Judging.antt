-- A record that was fed: what was written is in the output, and what was judged is what the site's listener decides. Assumes nothing.
use Rattle.std.specs.Prelude.{Err, Ok, Option, None, Some}
use Rattle.std.proofs.Common.{◌≡◌, ℕ, List, length, take, drop, sym, refl, ap, ◌∙◌, take_at}
use Rattle.lists.specs.Bytes.{overwrite}
use Rattle.segment.specs.Refusal.{Check}
use Rattle.protocol.specs.Call.{Call}
use Rattle.protocol.specs.View.{view_of}
use Rattle.protocol.specs.Refusals.{call_check}
use Rattle.protocol.specs.Step.{outcome_of, step, output_if, output_of}
use Rattle.protocol.specs.declared.state.Listener.{Listener}
use Rattle.protocol.specs.declared.state.LocalEndpoint.{LocalEndpoint}
use Rattle.protocol.proofs.Local.{step_local}
use Rattle.pcap.specs.declared.record.RecordHead.{RecordHead}
use Rattle.pcap.specs.declared.walker.Walker.{Walker}
use Rattle.walk.specs.Feed.{call_of, feed_by, feed_of, output_by, feed_output, accepted_in}
use Rattle.comparison.specs.Account.{judged_as, lent}
use Rattle.comparison.specs.Site.{judging_of, judged_at}
use Rattle.comparison.specs.Lockstep.{judged_with}
use Rattle.comparison.specs.declared.site.Site.{Site}
use Rattle.comparison.specs.declared.site.Judging.{Judging}

-- a call's written length is that of what it writes
written : (l : Listener) (c : Call) → (step l c).written ≡ length (output_of l c)
unfolding step output_of
written l c = go (call_check l c)
  where
    go : (k : Check) → (outcome_of l c k).written ≡ length (output_if (view_of l c) c k)
    go (Ok _) = refl
    go (Err r) = refl

module _ (l : Listener) (o : Option Call) where
  fed-written : (feed_by l o).outcome.written ≡ length (output_by l o)
  fed-written = go o
    where
      go : (o : Option Call) → (feed_by l o).outcome.written ≡ length (output_by l o)
      go None = refl
      go (Some c) = written l c

  fed_local : (feed_by l o).outcome.listener.local ≡ l.local
  fed_local = go o
    where
      go : (o : Option Call) → (feed_by l o).outcome.listener.local ≡ l.local
      go None = refl
      go (Some c) = step_local l c

-- what the code reads of a record that was fed is what was judged
pub judged-with : (s : Site) (behind : Walker) (h : RecordHead) (packet out : List ℕ) → {j : Judging} {last : List ℕ} → j ≡ judging_of s behind h packet lent
    → last ≡ overwrite (feed_output s.listener s.walker.records h.seconds h.micros packet lent) out
    → judged_with j packet last ≡ judged_at s h packet
unfolding feed_of feed_output
judged-with s behind h packet out {j} {last} ej e =
    let l = s.listener in
    let o = call_of l.local s.walker.records h.seconds h.micros packet lent in
    let event = (feed_by l o).outcome.event in
    let t : take (feed_by l o).outcome.written last ≡ output_by l o =
    ap (take (feed_by l o).outcome.written) e ∙ take_at (output_by l o) (drop (length (output_by l o)) out) (feed_by l o).outcome.written (sym (fed-written l o)) in
    ap (λ (x : Judging). judged_with x packet last) ej
    ∙ ap (λ (x : LocalEndpoint). judged_as event (accepted_in x packet event) (take (feed_by l o).outcome.written last)) (fed_local l o)
    ∙ ap (judged_as event (accepted_in l.local packet event)) t
