-- A segment that passed the checks before its kind: what the code decides on its parts is `step`. Assumes nothing.
use Rattle.std.specs.Prelude.{Option, Result, Err, Ok, is_some}
use Rattle.std.specs.Option.{unwrap_or}
use Rattle.std.specs.List.{position}
use Prim.Native.Nat.{ℕ, ◌-◌, ◌*◌, ◌<◌, min}
use mathlib.Core.Path.{◌≡◌, refl, sym, ap, ◌∙◌}
use mathlib.Core.Bool.{Bool, true, false, ◌&&◌, false≢true}
use mathlib.Core.List.{List, []}
use native.Mathlib.Omega.{arith}
use lib.Dec.{ltb}
use lib.ListN.{length, take, drop, set, replicate}
use Rattle.std.proofs.lemmas.List.{take_all}
use Rattle.lists.proofs.Elements.{set_same}
use Rattle.segment.specs.Refusal.{refusal, Check, all_clear}
use Rattle.segment.specs.Header.{malformed, fields_of, kind_of, option_area, payload_of}
use Rattle.segment.specs.Options.{read_options, is_counted, coding_of}
use Rattle.segment.specs.Remarks.{no_remarks, remarks_of, report_in}
use Rattle.segment.specs.Write.{syn_ack_bytes}
use Rattle.segment.specs.declared.refusal.Refusal.{Refusal}
use Rattle.segment.specs.declared.refusal.Refusal.TheVariants.{Flags}
use Rattle.segment.specs.declared.options.Coding.{Coding}
use Rattle.segment.specs.declared.options.Coding.TheVariants.{New}
use Rattle.segment.specs.declared.options.FastOpenOption.{FastOpenOption}
use Rattle.segment.specs.declared.options.Report.{Report}
use Rattle.segment.specs.declared.header.Header.{Header}
use Rattle.segment.specs.declared.header.Kind.{Kind}
use Rattle.segment.specs.declared.header.Kind.TheVariants.{Syn, Rst, Ack, Other}
use Rattle.segment.proofs.Malformed.{area_is, payload_is, offset_is}
use Rattle.segment.proofs.Remarks.{syn_remarks, later_remarks}
use Rattle.endpoint.specs.Address.{block}
use Rattle.endpoint.specs.Checks.{is_untimely}
use borrow.Author.Tests.{not-false}
use Rattle.endpoint.proofs.Clear.{every-check}
use Rattle.protocol.specs.Cookie.{cookie_under, right}
use Rattle.protocol.specs.Cookie.{found as found_in}
use Rattle.protocol.specs.Table.{is_free, is_waiting, free_slot, new_slot, holds_peer, pending_at, pending_from, scan_of}
use Rattle.protocol.specs.Table as rules
use Rattle.protocol.specs.Call.{Call, segment, sender}
use Rattle.protocol.specs.View.{own_address, scan_for, view}
use Rattle.protocol.specs.Refusals.{kind_checks, wire_checks}
use Rattle.protocol.specs.Step.{cookies_enabled, is_early, is_fresh, accepts, new_event, new_status, segment_event, held_until, coding_for, syn_ack_from, writes_syn_ack, segment_after, moved, put, outcome, step, output_of}
use Rattle.protocol.specs.declared.state.View.{View}
use Rattle.protocol.specs.declared.state.Listener.{Listener}
use Rattle.protocol.specs.declared.outcome.Event.{Event}
use Rattle.protocol.specs.declared.outcome.Event.TheVariants as events
use Rattle.protocol.specs.declared.slots.Status.TheVariants.{SynReceived}
use Rattle.protocol.specs.declared.slots.Slot.{Slot}
use Rattle.table.specs.declared.scan.Scan.{Scan}
use Rattle.protocol.proofs.Table.{from_some, not_free}
use Rattle.protocol.proofs.Step.{wired-short, refused_with, segment_refused, segment_writes_none, segment_writes, wired-formed}
use Rattle.table.specs.Scan.{place_of, found, slot_found, stored}
use Rattle.table.proofs.Places.{is_place, search_is, slot_read, slot_stored, in_table}
use Rattle.decisions.specs.Parts.{has_kind, is_opening, opening_checks, opening_check, limit_allows, slots_to_count, option_if, opened, later_checks, later_event, later_slot}
use Rattle.decisions.specs.declared.action.Opened.{Opened}
use Rattle.decisions.specs.Received.{received}
use Rattle.decisions.specs.declared.checks.OpeningKind.{OpeningKind}
use Rattle.decisions.specs.declared.checks.OpeningKind.TheVariants.{Repeat}
use Rattle.decisions.specs.declared.checks.OpeningKind.TheVariants as openings
use Rattle.endpoint.proofs.Blocks.{kept}
use Rattle.decisions.proofs.Parts.{was_read, fresh_there, fresh_cookie, counted-found, no_kind, opening-kind, was_refused, was_repeat, was_new, opening-checks, counted_by_share, opens_plain, opens_by_option, opens_in_coding, new_slot_lem, new-fresh, new_writes, later-checks, later-event, later_slot_lem}

-- a new connection, early or plain, takes the lowest free place
new-place : (l : Listener) (t : ℕ) (scan : rules.Scan) (s : Slot) (early : Bool) (n : ℕ) → put l t scan.free s ≡ segment_after l t scan (new_event early n) s
new-place l t scan s true n = refl
new-place l t scan s false n = refl

module _ (l : Listener) (t : ℕ) (src seg : List ℕ) (iss out_len : ℕ) {h : Header}
    (read : Ok h ≡ received (refusal (wire_checks l.local (is_untimely l.clock t) src seg out_len)) (fields_of seg)) where
  first : refusal (wire_checks l.local (is_untimely l.clock t) src seg out_len) ≡ all_clear
  first = (was_read _ _ (sym read)).0

  eh : h ≡ fields_of seg
  eh = (was_read _ _ (sym read)).1

  abbrev this : Call
  this = segment t src seg iss out_len

  abbrev v : View
  v = view l t (sender src seg)

  abbrev k : Kind
  k = kind_of (fields_of seg).flags

  -- Flags of no kind
  pub kind_refused : {x : Kind} → x ≡ kind_of h.flags → has_kind x ≡ false → (step l this ≡ refused_with l Flags) × (output_of l this ≡ [])
  kind_refused {x} ek none =
      let other : k ≡ Other = sym (rw eh at ek) ∙ no_kind x none in
      segment_refused l t src seg iss out_len first (rw other refl)

  module _ (full : length l.slots ≡ 64) {b : List ℕ} (block_made : b ≡ block (take 16 src)) {x : Kind} (ek : x ≡ kind_of h.flags) where
    eb : b ≡ block src
    eb = kept src (wired-short l.local (is_untimely l.clock t) src seg out_len first) block_made

    abbrev scan : rules.Scan
    scan = scan_of t b h.source l.slots

    -- An opening, with what a scan of the table found and the peer's slot
    module _ (opening : is_opening x ≡ true) {f : Scan} {s : Slot} (ef : f ≡ found scan) (es : s ≡ slot_found l.slots f.place) where
      kind_is : k ≡ Syn
      kind_is = sym (rw eh at ek) ∙ opening-kind x opening

      slot_is : s ≡ v.slot
      slot_is = es ∙ rw (ef, eb, eh) (slot_read l.slots full (scan_for l t (sender src seg)).place)

      abbrev found-checks : Check
      found-checks = refusal (opening_checks s (is_some f.free) h)

      vacant_is : is_some f.free ≡ v.vacant
      vacant_is = rw ef (is_place (scan_for l t (sender src seg)).free)

      checks_are : found-checks ≡ refusal (kind_checks v (fields_of seg) k)
      checks_are = rw (kind_is, slot_is, vacant_is, eh) (ap refusal (opening-checks v (fields_of seg)))

      abbrev syn_ack : Slot → Bool → Coding → List ℕ → List ℕ
      syn_ack z fresh coding cookie = syn_ack_bytes (own_address l.local) src (syn_ack_from l.local l.settings.mss z fresh coding) cookie out_len

      -- what its option area is, and what is read from it
      formed : malformed seg ≡ false
      formed = wired-formed l.local (is_untimely l.clock t) src seg out_len first

      module _ {c : Result OpeningKind Refusal} (ec : c ≡ opening_check found-checks (is_free s.status)) where
        pub opening_refused : {r : Refusal} → c ≡ Err r → (step l this ≡ refused_with l r) × (output_of l this ≡ [])
        opening_refused q = segment_refused l t src seg iss out_len first (sym checks_are ∙ was_refused found-checks (is_free s.status) (sym ec ∙ q))

        module _ {area : List ℕ} {report : Report} (ea : area ≡ take (4 * h.offset - 20) (drop 20 seg)) (er : report ≡ report_in l.settings.codings area) where
          area_as : area ≡ option_area seg
          area_as = rw (eh, offset_is seg) at ea ∙ area_is seg formed

          report_as : report ≡ report_in l.settings.codings (option_area seg)
          report_as = er ∙ ap (report_in l.settings.codings) area_as

          remarks_are : report.remarks ≡ remarks_of l.settings.codings seg
          remarks_are = ap (λ (r : Report). r.remarks) report_as ∙ sym (syn_remarks l.settings.codings seg kind_is)

          -- a repeat changes nothing but the clock
          pub repeated : c ≡ Ok Repeat → (cookie : List ℕ)
              → (outcome (moved l t l.slots) events.Retransmission (length (syn_ack s false New cookie)) report.remarks ≡ step l this) × (output_of l this ≡ syn_ack s false New cookie)
          repeated q cookie =
              let was = was_repeat found-checks (is_free s.status) (sym ec ∙ q) in
              let known = rw slot_is at was.1 in
              segment_writes l t src seg iss out_len first (sym checks_are ∙ was.0) {e = events.Retransmission} {s = s} (rw (kind_is, known)) (rw (kind_is, known) slot_is)
              (rw (slot_is, set_same l.slots (scan_for l t (sender src seg)).place free_slot)) remarks_are {fresh = false} {coding = New} {cookie = cookie} (rw (kind_is, known)) (λ y. absurd (false≢true y)) (λ y. absurd (false≢true y)) refl

          -- a new one is stored at the lowest free place
          module _ (q : c ≡ Ok openings.New) where
            was : (found-checks ≡ all_clear) × (is_free s.status ≡ true)
            was = was_new found-checks (is_free s.status) (sym ec ∙ q)

            unknown : is_free v.slot.status ≡ true
            unknown = rw slot_is at was.1

            entered : (z : Slot) → stored l.slots f.free z ≡ set l.slots (scan_for l t (sender src seg)).free z
            entered z = rw ef (slot_stored l.slots full (scan_for l t (sender src seg)).free z)

            -- its option, as it was read: it counts where cookies are enabled
            abbrev option : FastOpenOption
            option = option_if (cookies_enabled v) (read_options l.settings.codings (option_area seg)).fast

            -- a new connection, early or not, with its slot and whether a fresh cookie goes with its SYN-ACK
            written_new : {early fresh : Bool} {n : ℕ} {e : Event} {new : Slot} {coding : Coding} {cookie : List ℕ} → early ≡ is_early v (block src) seg → fresh ≡ is_fresh v (block src) seg → n ≡ accepts l.settings seg
                → e ≡ new_event early n → new ≡ new_slot b h.source h.seq iss (new_status early n) → (fresh ≡ true → coding ≡ coding_for v seg)
                → (fresh ≡ true → cookie ≡ cookie_under l.keys.present b)
                → (outcome (moved l t (stored l.slots f.free new)) e (length (syn_ack new fresh coding cookie)) report.remarks ≡ step l this) × (output_of l this ≡ syn_ack new fresh coding cookie)
            written_new {early} {fresh} {n} {e} {new} {coding} {cookie} early_is fresh_is n-is e-is New-is coding-is cookie_is =
                let event-is : e ≡ segment_event v (block src) seg k = e-is ∙ rw (kind_is, unknown, early_is, n-is) in
                segment_writes l t src seg iss out_len first (sym checks_are ∙ was.0) {e = e} {s = new} event-is
                (rw (sym event-is, e-is) (New-is ∙ rw (eb, eh) (new_slot_lem v (held_until v t) (block src) (fields_of seg) iss early n)))
                (rw (e-is, entered new) (new-place l t (scan_for l t (sender src seg)) new early n)) remarks_are {fresh = fresh} {coding = coding} {cookie = cookie}
                (fresh_is ∙ rw (sym event-is, e-is) (new-fresh v (block src) seg early n))
                coding-is
                (rw eb at cookie_is)
                (rw e-is (new_writes early n))

            module _ {allowed : Bool}
                (el : allowed ≡ is_counted report.options.fast && (limit_allows l.settings f.pending && ltb (pending_from t b (take (slots_to_count l.settings.share f.pending report.options.fast) l.slots)) l.settings.share)) where
              counted : allowed ≡ is_counted option
              counted =
                  let read = (read_options l.settings.codings (option_area seg)).fast in
                  let end = slots_to_count l.settings.share (pending_at t l.slots) read in
                  el
                  ∙ rw (report_as, ef, eb)
                  (counted_by_share v {pending = pending_at t l.slots} {from = pending_from t (block src) l.slots} refl refl (from_some t (block src) l.slots)
                  (pending_from t (block src) (take end l.slots)) read (λ z. rw z refl) (λ z. rw (z, take_all 64 l.slots (omega arith)) refl))

              pub opened_plain : allowed ≡ false → {new : Slot} → new ≡ new_slot b h.source h.seq iss SynReceived → (cookie : List ℕ)
                  → (outcome (moved l t (stored l.slots f.free new)) events.Regular (length (syn_ack new false New cookie)) report.remarks ≡ step l this)
                  × (output_of l this ≡ syn_ack new false New cookie)
              opened_plain none e cookie =
                  let p = opens_plain v (block src) seg kind_is {fast = option} refl (sym counted ∙ none) in
                  written_new {early = false} {fresh = false} (sym p.0) (sym p.1) refl refl e (λ y. absurd (false≢true y)) (λ y. absurd (false≢true y))

              module _ (some : allowed ≡ true) where
                fast_as : report.options.fast ≡ option
                fast_as =
                    ap (λ (r : Report). r.options.fast) report_as
                    ∙ sym (counted-found (cookies_enabled v) (read_options l.settings.codings (option_area seg)).fast (sym counted ∙ some))

                pub opened_by_option : {payload : List ℕ} → payload ≡ drop (4 * h.offset) seg → {coding : Coding} → coding ≡ coding_of report.options.fast → {r : Opened}
                    → r ≡ opened l.keys b h iss (found_in report.options.fast area) (min (length payload) l.settings.early_room)
                    → (outcome (moved l t (stored l.slots f.free r.slot)) r.event (length (syn_ack r.slot (is_some r.fresh) coding (unwrap_or r.fresh (replicate 8 0)))) report.remarks ≡ step l this)
                    × (output_of l this ≡ syn_ack r.slot (is_some r.fresh) coding (unwrap_or r.fresh (replicate 8 0)))
                opened_by_option {payload} ep coding-is {r} e =
                    let o = found_in report.options.fast area in
                    let p = opens_by_option v (block src) seg kind_is {fast = option} refl (sym counted ∙ some) in
                    let payload-as : payload ≡ payload_of seg = rw (eh, offset_is seg) at ep ∙ payload_is seg formed in
                    written_new {early = right l.keys b o} {n = min (length payload) l.settings.early_room} (rw (area_as, eb, fast_as) p.0)
                    (ap (λ (z : Opened). is_some z.fresh) e ∙ (fresh_there l.keys b o ∙ rw (area_as, eb, fast_as) p.1)) (rw payload-as)
                    (ap (λ (z : Opened). z.event) e) (ap (λ (z : Opened). z.slot) e)
                    (λ _. coding-is ∙ (ap coding_of fast_as ∙ opens_in_coding v (block src) seg kind_is {fast = option} refl (sym counted ∙ some)))
                    (λ y. ap (λ (z : Opened). unwrap_or z.fresh (replicate 8 0)) e ∙ fresh_cookie l.keys b o (sym (ap (λ (z : Opened). is_some z.fresh) e) ∙ y) (replicate 8 0))

    -- A later segment, with the place of its name and the slot there
    module _ (later : is_opening x ≡ false) {place : Option ℕ} {s : Slot} (ep : place ≡ position (holds_peer t b h.source) l.slots) (es : s ≡ slot_found l.slots place) where
      kind_as : x ≡ k
      kind_as = rw eh at ek

      no_opening : is_opening k ≡ false
      no_opening = rw kind_as at later

      place_is : place ≡ place_of (scan_for l t (sender src seg)).place
      place_is = ep ∙ rw (eb, eh) (search_is l.slots full t (block src) (fields_of seg).source)

      peer_is : s ≡ v.slot
      peer_is = es ∙ rw place_is (slot_read l.slots full (scan_for l t (sender src seg)).place)

      later_are : refusal (later_checks s h x) ≡ refusal (kind_checks v (fields_of seg) k)
      later_are = rw (peer_is, eh, kind_as, later-checks v (fields_of seg) k no_opening) refl

      pub later_refused : {r : Refusal} → refusal (later_checks s h x) ≡ Err r → (step l this ≡ refused_with l r) × (output_of l this ≡ [])
      later_refused q = segment_refused l t src seg iss out_len first (sym later_are ∙ q)

      module _ (clear : refusal (later_checks s h x) ≡ all_clear) where
        -- it is a completion or a reset, and its connection waits
        waits : (y : Kind) → refusal (later_checks s h y) ≡ all_clear → is_waiting s.status ≡ true
        waits Ack q = not-false _ (every-check (later_checks s h Ack) q).0
        waits Rst q = not-false _ (every-check (later_checks s h Rst) q).0
        waits Syn q = absurd (false≢true (sym (every-check (later_checks s h Syn) q).0))
        waits Other q = absurd (false≢true (sym (every-check (later_checks s h Other) q).0))

        -- so it has its place
        pub later_in_table : (scan_for l t (sender src seg)).place < 64
        later_in_table = in_table l.slots full (scan_for l t (sender src seg)).place (rw peer_is at (not_free is_waiting refl s.status (waits x clear)))

        moves : (y : Kind) → refusal (later_checks s h y) ≡ all_clear → (z : Slot) → moved l t (stored l.slots place z) ≡ segment_after l t (scan_for l t (sender src seg)) (later_event y) z
        moves Ack q z = rw (place_is, slot_stored l.slots full (scan_for l t (sender src seg)).place z)
        moves Rst q z = rw (place_is, slot_stored l.slots full (scan_for l t (sender src seg)).place z)
        moves Syn q z = absurd (false≢true (sym (every-check (later_checks s h Syn) q).0))
        moves Other q z = absurd (false≢true (sym (every-check (later_checks s h Other) q).0))

        quiet : (y : Kind) → writes_syn_ack (later_event y) ≡ false
        quiet Ack = refl
        quiet Rst = refl
        quiet Syn = refl
        quiet Other = refl

        -- and without SYN nothing is remarked
        none_remarked : remarks_of l.settings.codings seg ≡ no_remarks
        none_remarked =
            later_remarks l.settings.codings seg (λ y. absurd (false≢true (sym no_opening ∙ ap is_opening y)))
            (λ y. let other = rw (kind_as ∙ y) at clear in absurd (false≢true (sym (every-check (later_checks s h Other) other).0)))

        pub later-done : {z : Slot} {e : Event} → z ≡ later_slot s (held_until v t) x → e ≡ later_event x
            → (step l this ≡ outcome (moved l t (stored l.slots place z)) e 0 no_remarks) × (output_of l this ≡ [])
        later-done {z} {e} ez ee =
            let event-is : e ≡ segment_event v (block src) seg k = ee ∙ rw kind_as (later-event v (block src) seg k no_opening) in
            segment_writes_none l t src seg iss out_len first (sym later_are ∙ clear) event-is
            (ez ∙ rw (peer_is, kind_as, sym (later-event v (block src) seg k no_opening)) (later_slot_lem v (held_until v t) (block src) (fields_of seg) iss k))
            (rw ee (moves x clear z)) (sym none_remarked) (rw ee (quiet x))
