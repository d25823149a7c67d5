-- The client's opening, as the listener reads it. Assumes nothing.
use Prim.Native.Nat.{ℕ, ◌≤◌}
use mathlib.Core.Path.{◌≡◌, refl, ap, sym, ◌∙◌, subst}
use mathlib.Core.Bool.{Bool, true, false, not, or-true}
use mathlib.Core.List.{List, [], ◌∷◌}
use native.Mathlib.Omega.{arith}
use lib.ListN.{length, take}
use lib.Seq.{length-take-le}
use borrow.Author.Tests.{le-ltb, eqb-true, eq-eqb, not-false}
use Rattle.segment.specs.Refusal.{refusal, all_clear}
use Rattle.segment.specs.Header.{fields_of, option_area, payload_of, kind_of}
use Rattle.segment.specs.Options.{options_of, cookie_bytes, coding_of}
use Rattle.segment.specs.Checksum.{checksum_right}
use Rattle.segment.specs.Write.{opening_fields}
use Rattle.segment.specs.declared.header.Header.{Header}
use Rattle.segment.specs.declared.header.Kind.{Kind}
use Rattle.segment.specs.declared.header.Kind.TheVariants.{Syn}
use Rattle.segment.specs.declared.options.Coding.TheVariants.{New}
use Rattle.segment.specs.declared.options.Codings.{Codings}
use Rattle.segment.specs.declared.options.Codings.TheVariants.{NewOnly}
use Rattle.segment.specs.declared.options.Options.{Options}
use Rattle.segment.specs.declared.write.Opening.{Opening}
use Rattle.lists.proofs.ByteLists.{bytes_take}
use Rattle.segment.proofs.Malformed.{well_shaped}
use Rattle.segment.proofs.ReadBack.{ReadBack, found_for}
use Rattle.segment.proofs.Exchange.{opening-fits, opening_read, opening-kind}
use Rattle.endpoint.specs.Address.{size, is_address, block}
use Rattle.endpoint.specs.Checks.{is_untimely}
use Rattle.endpoint.proofs.Blocks.{own-part}
use Rattle.endpoint.proofs.Chain as chains
use Rattle.endpoint.proofs.Clear.{Passed}
use Rattle.protocol.specs.Cookie.{cookie, found, cookie_under, carried_by, right}
use Rattle.protocol.specs.View.{own_address, view_of}
use Rattle.protocol.specs.Refusals.{wire_checks, kind_checks, call_check}
use Rattle.protocol.specs.declared.state.Listener.{Listener}
use Rattle.protocol.proofs.Refusals.{checked_segment}
use Rattle.protocol.proofs.Cookie.{cookie_eight, issued-right, right-now, right-before, carried-found}
use Rattle.client.specs.Cache.{stored_cookie, cookie_length}
use Rattle.client.specs.Refusals.{checks}
use Rattle.client.specs.Step.{sent_with, opening_for, stored_for}
use Rattle.client.specs.declared.state.Memory.{Memory}
use Rattle.client.proofs.Step.{output-done}
use Rattle.client.proofs.Openings.{sent_told, opening_ready}
use Rattle.client.proofs.After.{cookie-most, sent-most}
use Rattle.client.proofs.Answer.{clear-passed, mss-most}
use Rattle.handshake.specs.Handshake.{Asked, asking, opening, sent, Arrival, arriving, Ends, carried_with, stored, is_banned, OpeningRead, Listens, Issued, present, previous}

-- the option, as it was put there
option_read : (mss : ℕ) (banned : Bool) (c : List ℕ) (o : Options) (area : List ℕ) → o ≡ found_for mss (not banned) New c
    → (not banned ≡ true → cookie_bytes o.fast area ≡ c) → found o.fast area ≡ carried_with banned c
option_read mss true c o area e h = rw e
option_read mss false [] o area e h = rw e
option_read mss false (x ∷ c) o area e h = rw e (ap cookie (rw e at (h refl)))

-- whatever it is, it is in the new coding
written_new : (mss : ℕ) (fast : Bool) (c : List ℕ) → coding_of (found_for mss fast New c).fast ≡ New
written_new mss false c = refl
written_new mss true [] = refl
written_new mss true (x ∷ c) = refl

-- a cookie that is not empty
carried-cookie : (c : List ℕ) → (c ≡ [] → ⊥) → carried_with false c ≡ cookie c
carried-cookie [] e = absurd (e refl)
carried-cookie (x ∷ c) e = refl

module _ (m : Memory) (l : Listener) (a : Asked) (e : Ends m l a) where
  passed : Passed (checks m (asking a))
  passed = clear-passed m (asking a) e.done

  pub own-family : is_address m.family a.own ≡ true
  own-family = not-false _ passed.1.1.0

  pub server-family : is_address m.family a.server ≡ true
  server-family = not-false _ passed.1.1.1.0

  abbrev count : ℕ
  count = sent_with m.family (is_banned m a) (stored_for m a.server) (length a.offered)

  abbrev fields : Opening
  fields = opening_for (is_banned m a) a.ends

  sent_is : sent m a ≡ count
  sent_is = sent_told m a.time a.own a.server a.ends a.offered a.out_len e.done

  pub sent-fits : (sent m a ≤ length a.offered) × (sent m a ≤ 1460)
  sent-fits = omega (arith, sent_is, sent-most m.family (is_banned m a) (stored_for m a.server) (length a.offered))

  read : (g : Codings) → ReadBack g a.own a.server (opening_fields fields) (stored m a) (take count a.offered) (opening m a)
  read g =
      let data' = take count a.offered in
      let can = opening_ready m a.time a.own a.server a.ends a.offered a.out_len e.stored-length e.done in
      let fits = opening-fits fields e.source e.dest e.iss (omega (arith, mss-most a.ends.mss (not-false _ passed.1.1.1.1.1.0))) in
      subst (ReadBack g a.own a.server (opening_fields fields) (stored m a) data') (sym (output-done m (asking a) e.done))
      (opening_read g a.own a.server fields (stored m a) data' a.out_len can fits e.own-bytes e.server-bytes
      (bytes_take (cookie_length (stored_for m a.server)) (stored_cookie (stored_for m a.server)).bytes e.stored_bytes) (bytes_take count a.offered e.offered-bytes))

  pub new-coding : (g : Codings) → coding_of (options_of g (opening m a)).fast ≡ New
  new-coding g = ap (λ (o : Options). coding_of o.fast) (read g).options ∙ written_new a.ends.mss (not (is_banned m a)) (stored m a)

  pub opening_read_by_listener : OpeningRead m a
  opening_read_by_listener =
      let shaped = well_shaped (opening m a) _ (read NewOnly).shape in
      let h = sym shaped.1 in
      record {
        formed = shaped.0;
        checksum = (read NewOnly).right;
        source = ap (λ (x : Header). x.source) h;
        dest = ap (λ (x : Header). x.dest) h;
        seq = ap (λ (x : Header). x.seq) h;
        kind = ap (λ (x : Header). kind_of x.flags) h ∙ opening-kind;
        option = λ g.
            carried-found g (opening m a)
            ∙ option_read a.ends.mss (is_banned m a) (stored m a) (options_of g (opening m a)) (option_area (opening m a)) (read g).options (read g).bytes;
        content = (read NewOnly).content ∙ ap (λ (n : ℕ). take n a.offered) (sym sent_is);
      }

  pub payload-length : length (payload_of (opening m a)) ≡ sent m a
  payload-length = ap length opening_read_by_listener.content ∙ length-take-le (sent m a) a.offered sent-fits.0

  -- the listener's address has the client's length
  listener-family : is_address l.local.family a.own ≡ true
  listener-family =
      let n : size l.local.family ≡ length a.server = own-part l.local.family l.local.own refl e.local_length ∙ ap length e.address in
      eq-eqb (length a.own) (size l.local.family)
      (eqb-true (length a.own) (size m.family) own-family ∙ sym (eqb-true (length a.server) (size m.family) server-family) ∙ sym n)

  pub wire-clear : (h : Arrival) → Listens l h
      → refusal (wire_checks l.local (is_untimely l.clock h.time) a.own (opening m a) h.out_len) ≡ all_clear
  wire-clear h g =
      let o = opening_read_by_listener in
      let sum : checksum_right a.own (own_address l.local) (opening m a) ≡ true = rw e.address o.checksum in
      rw (g.started, g.timely, listener-family, le-ltb h.out_len 36 g.out_len, o.formed, sum, eq-eqb (fields_of (opening m a)).dest l.local.port (o.dest ∙ sym e.port))

  pub kind_checked : (h : Arrival) → Listens l h → call_check l (arriving m a h) ≡ refusal (kind_checks (view_of l (arriving m a h)) (fields_of (opening m a)) Syn)
  kind_checked h g =
      chains.passed _ _ _ (checked_segment l h.time a.own (opening m a) h.iss h.out_len) (wire-clear h g)
      ∙ ap (λ (k : Kind). refusal (kind_checks (view_of l (arriving m a h)) (fields_of (opening m a)) k)) opening_read_by_listener.kind

  -- no data goes with a request
  pub none-sent : stored m a ≡ [] → sent m a ≡ 0
  none-sent q =
      let entry = stored_for m a.server in
      let whole = length-take-le (cookie_length entry) (stored_cookie entry).bytes (omega (arith, cookie-most entry, e.stored-length)) in
      let z : cookie_length entry ≡ 0 = sym whole ∙ ap length q in
      sent_is ∙ rw (eq-eqb _ _ z, or-true (is_banned m a))

  -- what it finds is the cookie that was stored, if there was one
  pub carried-stored : is_banned m a ≡ false → (stored m a ≡ [] → ⊥) → carried_by l.settings.codings (opening m a) ≡ cookie (stored m a)
  carried-stored free some = opening_read_by_listener.option l.settings.codings ∙ ap (λ (t : Bool). carried_with t (stored m a)) free ∙ carried-cookie (stored m a) some

  pub carried : (w : List ℕ) → is_banned m a ≡ false → stored m a ≡ cookie_under w (block a.own) → carried_by l.settings.codings (opening m a) ≡ cookie (cookie_under w (block a.own))
  carried w free q =
      carried-stored free (λ z. omega (arith, cookie_eight w (block a.own), ap length q, ap length z)) ∙ ap (λ (c : List ℕ). cookie c) q

  pub right-cookie : is_banned m a ≡ false → Issued l.keys (block a.own) (stored m a) → right l.keys (block a.own) (carried_by l.settings.codings (opening m a)) ≡ true
  right-cookie free (present q) =
      rw (carried l.keys.present free q) (right-now l.keys (block a.own) _ (issued-right l.keys.present (block a.own)))
  right-cookie free (previous w r q) =
      rw (carried w free q) (right-before l.keys (block a.own) _ r (issued-right w (block a.own)))
