-- The rules on the parts of a view are the rules on the view. Assumes nothing.
use Rattle.std.specs.Prelude.{Err, Ok, None, Some, is_some}
use Rattle.std.specs.Option.{unwrap_or}
use Prim.Native.Nat.{ℕ, ◌≤◌}
use mathlib.Core.Path.{◌≡◌, refl, ap, sym, ◌∙◌}
use mathlib.Core.Bool.{Bool, true, false, cond, ◌&&◌, ◌||◌, true≢false, false≢true, and-true, and-false}
use mathlib.Core.List.{List}
use native.Mathlib.Omega.{arith}
use lib.Dec.{ltb}
use borrow.Author.Tests.{ltb-true, lt-ltb}
use Rattle.segment.specs.Header.{fields_of, kind_of, option_area}
use Rattle.segment.specs.Options.{read_options, is_counted, coding_of}
use Rattle.segment.specs.declared.refusal.Refusal.{Refusal}
use Rattle.segment.specs.Refusal.{Check, all_clear}
use Rattle.segment.specs.declared.options.FastOpenOption.{FastOpenOption}
use Rattle.segment.specs.declared.options.FastOpenOption.TheVariants.{Absent, Request, Cookie}
use Rattle.segment.specs.declared.options.Options.{Options}
use Rattle.segment.specs.declared.header.Header.{Header}
use Rattle.segment.specs.declared.header.Kind.{Kind}
use Rattle.segment.specs.declared.header.Kind.TheVariants.{Syn, Rst, Ack, Other}
use Rattle.segment.proofs.Cookie.{syn-options}
use Rattle.protocol.specs.Cookie.{Carried, nothing, found, cookie_under, right}
use Rattle.protocol.specs.Refusals.{kind_checks}
use Rattle.protocol.specs.Table.{new_slot}
use Rattle.protocol.specs.Step.{cookies_enabled, is_early, is_fresh, new_event, new_status, segment_event, slot_after, writes_syn_ack, fresh_with, coding_for}
use Rattle.protocol.specs.declared.state.Keys.{Keys}
use Rattle.protocol.specs.declared.state.View.{View}
use Rattle.protocol.proofs.Cookie.{carried-syn, never_right, no_cookie}
use Rattle.protocol.proofs.Openings.{early_is, fresh_is}
use Rattle.decisions.specs.Parts.{has_kind, is_opening, opening_checks, opening_check, limit_allows, slots_to_count, option_if, is_fresh_for, later_checks, later_event, later_slot}
use Rattle.decisions.specs.Received.{received}
use Rattle.decisions.specs.declared.checks.OpeningKind.TheVariants.{Repeat, New}
use Rattle.cookie.specs.Check.{fresh_for}

-- Kinds

pub no_kind : (k : Kind) → has_kind k ≡ false → k ≡ Other
no_kind Syn e = absurd (true≢false e)
no_kind Rst e = absurd (true≢false e)
no_kind Ack e = absurd (true≢false e)
no_kind Other e = refl

pub opening-kind : (k : Kind) → is_opening k ≡ true → k ≡ Syn
opening-kind Syn e = refl
opening-kind Rst e = absurd (false≢true e)
opening-kind Ack e = absurd (false≢true e)
opening-kind Other e = absurd (false≢true e)

-- What an opening's checks came to

pub was_refused : (c : Check) (free : Bool) {r : Refusal} → opening_check c free ≡ Err r → c ≡ Err r
was_refused (Err q) free e = cc
was_refused (Ok _) true e = absurd (let z : ◌≡◌ {A = ℕ} 0 1 = cc in omega arith)
was_refused (Ok _) false e = absurd (let z : ◌≡◌ {A = ℕ} 0 1 = cc in omega arith)

pub was_repeat : (c : Check) (free : Bool) → opening_check c free ≡ Ok Repeat → (c ≡ all_clear) × (free ≡ false)
was_repeat (Err q) free e = absurd (let z : ◌≡◌ {A = ℕ} 0 1 = cc in omega arith)
was_repeat (Ok _) true e = absurd (let z : ◌≡◌ {A = ℕ} 0 1 = cc in omega arith)
was_repeat (Ok _) false e = (refl, refl)

pub was_new : (c : Check) (free : Bool) → opening_check c free ≡ Ok New → (c ≡ all_clear) × (free ≡ true)
was_new (Err q) free e = absurd (let z : ◌≡◌ {A = ℕ} 0 1 = cc in omega arith)
was_new (Ok _) true e = (refl, refl)
was_new (Ok _) false e = absurd (let z : ◌≡◌ {A = ℕ} 0 1 = cc in omega arith)

-- `received` by the checks
pub was_stopped : (c : Check) (h : Header) {r : Refusal} → received c h ≡ Err r → c ≡ Err r
was_stopped (Ok _) h e = absurd (let z : ◌≡◌ {A = ℕ} 0 1 = cc in omega arith)
was_stopped (Err r) h e = let q = e in cc

pub was_read : (c : Check) (h : Header) {x : Header} → received c h ≡ Ok x → (c ≡ all_clear) × (x ≡ h)
was_read (Ok _) h e = (refl, let q = e in cc)
was_read (Err r) h e = absurd (let z : ◌≡◌ {A = ℕ} 0 1 = cc in omega arith)

-- the fresh cookie that goes with a SYN-ACK, if any
module _ (keys : Keys) (b : List ℕ) (o : Carried) where
  pub fresh_there : is_some (fresh_for keys b o) ≡ is_fresh_for keys b o
  fresh_there = go (is_fresh_for keys b o)
    where
      go : (x : Bool) → is_some (cond x (Some (cookie_under keys.present b)) None) ≡ x
      go true = refl
      go false = refl

  pub fresh_cookie : is_some (fresh_for keys b o) ≡ true → (d : List ℕ) → unwrap_or (fresh_for keys b o) d ≡ cookie_under keys.present b
  fresh_cookie e d = go (is_fresh_for keys b o) e
    where
      go : (x : Bool) → is_some (cond x (Some (cookie_under keys.present b)) None) ≡ true → unwrap_or (cond x (Some (cookie_under keys.present b)) None) d ≡ cookie_under keys.present b
      go true q = refl
      go false q = absurd (false≢true q)

-- no option, allowed or not
absent : (b : Bool) → cond b Absent Absent ≡ Absent
absent true = refl
absent false = refl

uncounted : (f : FastOpenOption) → is_counted f ≡ false → f ≡ Absent
uncounted Absent e = refl
uncounted (Request coding) e = absurd (true≢false e)
uncounted (Cookie coding at len) e = absurd (true≢false e)

-- A new opening: where cookies are not enabled, or no option counts, it is plain and gets no cookie; else the option decides.
module _ (keys : Keys) (b area : List ℕ) where
  plain : (enabled : Bool) (f : FastOpenOption) → is_counted (cond enabled f Absent) ≡ false
      → (enabled && right keys b (found f area) ≡ false) × (enabled && is_fresh_for keys b (found f area) ≡ false)
  plain false f e = (refl, refl)
  plain true Absent e = (never_right keys b nothing (λ w. (no_cookie w b).0), refl)
  plain true (Request coding) e = absurd (true≢false e)
  plain true (Cookie coding at len) e = absurd (true≢false e)

  by_option : (enabled : Bool) (f : FastOpenOption) → is_counted (cond enabled f Absent) ≡ true
      → (right keys b (found (cond enabled f Absent) area) ≡ enabled && right keys b (found f area))
      × (is_fresh_for keys b (found (cond enabled f Absent) area) ≡ enabled && is_fresh_for keys b (found f area))
  by_option false f e = absurd (false≢true e)
  by_option true f e = (refl, refl)

-- two terms, one after the other
one_after_other : (a b c : Bool) (f : FastOpenOption) → cond c (cond (a && b) f Absent) Absent ≡ cond (a && (b && c)) f Absent
one_after_other true true c f = refl
one_after_other true false c f = absent c
one_after_other false b c f = absent c

-- what an option has to pass, one test and then all, in the code's order
passes : (a : Bool) (f : FastOpenOption) → is_counted f && a ≡ is_counted (cond a f Absent)
passes true f = and-true (is_counted f)
passes false f = and-false (is_counted f)

passes-all : (a b c : Bool) (f : FastOpenOption) → is_counted f && ((a && b) && c) ≡ is_counted (cond (a && (b && c)) f Absent)
passes-all true true true f = and-true (is_counted f)
passes-all true true false f = and-false (is_counted f)
passes-all true false c f = and-false (is_counted f)
passes-all false b c f = and-false (is_counted f)

-- it counts only where cookies are enabled, and then it is the one that was found
pub counted-found : (enabled : Bool) (f : FastOpenOption) → is_counted (cond enabled f Absent) ≡ true → cond enabled f Absent ≡ f
counted-found false f e = absurd (false≢true e)
counted-found true f e = refl

-- and whatever it is, it is answered
pub new_writes : (early : Bool) (n : ℕ) → writes_syn_ack (new_event early n) ≡ true
new_writes true n = refl
new_writes false n = refl

module _ (v : View) where
  pub opening-checks : (h : Header) → opening_checks v.slot v.vacant h ≡ kind_checks v h Syn
  opening-checks h = refl

  -- The option is allowed by the settings, by pending, and by the share of the address, which is asked for where pending reaches it: `from` of them are its.
  module _ {pending from : ℕ} (below : v.below ≡ ltb pending v.settings.limit) (spare : v.spare ≡ ltb from v.settings.share) (some : from ≤ pending) where
    has_spare : ltb pending v.settings.share || ltb from v.settings.share ≡ ltb from v.settings.share
    has_spare = go (ltb pending v.settings.share) refl
      where
        go : (few : Bool) → ltb pending v.settings.share ≡ few → few || ltb from v.settings.share ≡ ltb from v.settings.share
        go true e = sym (lt-ltb from v.settings.share (omega (arith, some, ltb-true pending v.settings.share e)))
        go false e = refl

    pub allowed_by_share : (read : FastOpenOption)
        → is_counted read && (limit_allows v.settings pending && (ltb pending v.settings.share || ltb from v.settings.share)) ≡ is_counted (option_if (cookies_enabled v) read)
    allowed_by_share read = rw (has_spare, below, spare) (passes-all v.settings.on (ltb pending v.settings.limit) (ltb from v.settings.share) read)

    -- the same of the option itself, where `seen` of the address are counted, in no slot or in all
    pub by_share : (seen : ℕ) (read allowed : FastOpenOption) → allowed ≡ option_if (limit_allows v.settings pending) read
        → (slots_to_count v.settings.share pending allowed ≡ 0 → seen ≡ 0) → (slots_to_count v.settings.share pending allowed ≡ 64 → seen ≡ from)
        → option_if (ltb seen v.settings.share) allowed ≡ option_if (cookies_enabled v) read
    by_share seen read allowed ea none all =
        settled (ltb pending v.settings.share) refl (is_counted allowed) refl
        ∙ (ap (option_if (ltb from v.settings.share)) ea
        ∙ rw (below, spare) (one_after_other v.settings.on (ltb pending v.settings.limit) (ltb from v.settings.share) read))
      where
        settled : (few : Bool) → ltb pending v.settings.share ≡ few → (counted : Bool) → is_counted allowed ≡ counted
            → option_if (ltb seen v.settings.share) allowed ≡ option_if (ltb from v.settings.share) allowed
        settled true e counted q =
            let h = ltb-true pending v.settings.share e in
            rw (lt-ltb seen v.settings.share (omega (arith, none (rw e))), lt-ltb from v.settings.share (omega (arith, some)))
        settled false e true q = rw (all (rw (e, q)))
        settled false e false q = rw (uncounted allowed q) (absent (ltb seen v.settings.share) ∙ sym (absent (ltb from v.settings.share)))

    -- and as the code asks, which looks at so many slots
    pub counted_by_share : (seen : ℕ) (read : FastOpenOption) → (slots_to_count v.settings.share pending read ≡ 0 → seen ≡ 0) → (slots_to_count v.settings.share pending read ≡ 64 → seen ≡ from)
        → is_counted read && (limit_allows v.settings pending && ltb seen v.settings.share) ≡ is_counted (option_if (cookies_enabled v) read)
    counted_by_share seen read none all = go (limit_allows v.settings pending) refl
      where
        go : (allowed : Bool) → limit_allows v.settings pending ≡ allowed → is_counted read && (allowed && ltb seen v.settings.share) ≡ is_counted (option_if (cookies_enabled v) read)
        go true e = passes (ltb seen v.settings.share) read ∙ ap is_counted (by_share seen read read (sym (ap (λ (b : Bool). option_if b read) e)) none all)
        go false e = rw e at (allowed_by_share read)

  -- its slot, and whether a fresh cookie goes with its SYN-ACK
  pub new_slot_lem : (end : ℕ) (b : List ℕ) (h : Header) (iss : ℕ) (early : Bool) (n : ℕ)
      → new_slot b h.source h.seq iss (new_status early n) ≡ slot_after v end b h iss (new_event early n)
  new_slot_lem end b h iss true n = refl
  new_slot_lem end b h iss false n = refl

  pub new-fresh : (b seg : List ℕ) (early : Bool) (n : ℕ) → is_fresh v b seg ≡ fresh_with v b seg (new_event early n)
  new-fresh b seg true n = refl
  new-fresh b seg false n = refl

  module _ (b seg : List ℕ) (syn : kind_of (fields_of seg).flags ≡ Syn) {fast : FastOpenOption} (ef : fast ≡ option_if (cookies_enabled v) (read_options v.settings.codings (option_area seg)).fast) where
    pub opens_plain : is_counted fast ≡ false → (is_early v b seg ≡ false) × (is_fresh v b seg ≡ false)
    opens_plain e = rw (early_is v b seg, fresh_is v b seg, carried-syn v.settings.codings seg syn) (plain v.keys b (option_area seg) (cookies_enabled v) (read_options v.settings.codings (option_area seg)).fast (rw ef at e))

    pub opens_by_option : is_counted fast ≡ true
        → (right v.keys b (found fast (option_area seg)) ≡ is_early v b seg) × (is_fresh_for v.keys b (found fast (option_area seg)) ≡ is_fresh v b seg)
    opens_by_option e = rw (ef, early_is v b seg, fresh_is v b seg, carried-syn v.settings.codings seg syn) (by_option v.keys b (option_area seg) (cookies_enabled v) (read_options v.settings.codings (option_area seg)).fast (rw ef at e))

    pub opens_in_coding : is_counted fast ≡ true → coding_of fast ≡ coding_for v seg
    opens_in_coding e =
        ap coding_of (ef ∙ counted-found (cookies_enabled v) (read_options v.settings.codings (option_area seg)).fast (rw ef at e))
        ∙ ap (λ (o : Options). coding_of o.fast) (sym (syn-options v.settings.codings seg syn))

  -- Later segments

  pub later-checks : (h : Header) (k : Kind) → is_opening k ≡ false → later_checks v.slot h k ≡ kind_checks v h k
  later-checks h Syn e = absurd (true≢false e)
  later-checks h Rst e = refl
  later-checks h Ack e = refl
  later-checks h Other e = refl

  pub later-event : (b seg : List ℕ) (k : Kind) → is_opening k ≡ false → later_event k ≡ segment_event v b seg k
  later-event b seg Syn e = absurd (true≢false e)
  later-event b seg Rst e = refl
  later-event b seg Ack e = refl
  later-event b seg Other e = refl

  pub later_slot_lem : (end : ℕ) (b : List ℕ) (h : Header) (iss : ℕ) (k : Kind) → later_slot v.slot end k ≡ slot_after v end b h iss (later_event k)
  later_slot_lem end b h iss Syn = refl
  later_slot_lem end b h iss Rst = refl
  later_slot_lem end b h iss Ack = refl
  later_slot_lem end b h iss Other = refl
