-- The listener's SYN-ACK to a new opening, as the client reads it. Assumes nothing.
use Rattle.segment.specs.Refusal.{all_clear}
use Prim.Native.Nat.{ℕ, ◌≤◌}
use mathlib.Core.Path.{◌≡◌, refl, ap, sym, ◌∙◌, subst}
use mathlib.Core.Bool.{Bool, true, false, cond}
use mathlib.Core.List.{List, []}
use native.Mathlib.Omega.{arith}
use lib.ListN.{length}
use borrow.Author.Tests.{le-ltb}
use Rattle.segment.specs.Header.{fields_of, option_area, is_syn_ack}
use Rattle.segment.specs.Options.{is_cookie_length, counts_coding, options_of, cookie_bytes}
use Rattle.segment.specs.Sequence.{next_after, acknowledged}
use Rattle.segment.specs.Write.{syn_ack_fields}
use Rattle.segment.specs.declared.header.Header.{Header}
use Rattle.segment.specs.declared.options.Coding.{Coding}
use Rattle.segment.specs.declared.options.Codings.{Codings}
use Rattle.segment.specs.declared.options.Codings.TheVariants.{NewOnly}
use Rattle.segment.specs.declared.options.Options.{Options}
use Rattle.segment.specs.declared.write.SynAck.{SynAck}
use Rattle.segment.proofs.Cookie.{cookie_length_back}
use Rattle.segment.proofs.Malformed.{well_shaped}
use Rattle.segment.proofs.ReadBack.{ReadBack, found_for}
use Rattle.segment.proofs.Exchange.{syn-ack-kind, acknowledged-accepted}
use Rattle.endpoint.specs.Address.{is_address, block}
use Rattle.protocol.specs.Table.{accepted_with}
use Rattle.protocol.specs.Call.{accepted_of, sender}
use Rattle.protocol.specs.View.{view}
use Rattle.protocol.specs.Step.{accepts, is_early, new_event, coding_for, syn_ack_from}
use Rattle.protocol.specs.Answered.{DoneOpening}
use Rattle.protocol.specs.declared.state.View.{View}
use Rattle.protocol.specs.declared.state.Listener.{Listener}
use Rattle.protocol.specs.declared.outcome.Outcome as listener-syn-ack
use Rattle.protocol.proofs.Cookie.{cookie_eight}
use Rattle.protocol.proofs.Openings.{slot_for, step-new}
use Rattle.protocol.proofs.Answered.{read_new}
use Rattle.client.specs.Refusals.{call_check, count_in}
use Rattle.client.specs.Cache.{stored_mss}
use Rattle.client.specs.Step.{cookie_in, stored_for}
use Rattle.client.specs.declared.outcome.Event.TheVariants.{Answered}
use Rattle.client.specs.declared.outcome.Outcome as client-outcome
use Rattle.client.specs.declared.state.Memory.{Memory}
use Rattle.client.proofs.Step as calling
use Rattle.client.proofs.Answer as reading
use Rattle.handshake.specs.Handshake.{Asked, opening, sent, Arrival, reply, accepted, Receipt, attempted, returning, Ends, stored, Taken, Later, renewed, current, SynAckRead}
use Rattle.handshake.proofs.Opening.{own-family, server-family, sent-fits, payload-length, new-coding, opening_read_by_listener}

-- the slot has the count that is told
new_status_lem : (early : Bool) (src seg : List ℕ) (iss n : ℕ) → accepted_with (slot_for early src seg iss n).status ≡ accepted_of (new_event early n)
new_status_lem true src seg iss n = refl
new_status_lem false src seg iss n = refl

-- which is no more than the data
new-count : (early : Bool) (n k : ℕ) → n ≤ k → accepted_of (new_event early n) ≤ k
new-count true n k h = h
new-count false n k h = omega arith

-- the cookie, if there is one
cookie_read : (mss : ℕ) (fresh : Bool) (x : Coding) (c : List ℕ) (o : Options) (area : List ℕ) → o ≡ found_for mss fresh x c
    → (fresh ≡ true → cookie_bytes o.fast area ≡ c) → cookie_bytes o.fast area ≡ cond fresh c []
cookie_read mss true x c o area e h = h refl
cookie_read mss false x c o area e h = rw e

module _ (m : Memory) (l : Listener) (a : Asked) (e : Ends m l a) (h : Arrival) (k : Taken m l a h) where
  abbrev seg : List ℕ
  seg = opening m a

  abbrev v : View
  v = view l h.time (sender a.own seg)

  abbrev early : Bool
  early = is_early v (block a.own) seg

  abbrev n : ℕ
  n = accepts l.settings seg

  -- what the listener accepted
  accepted_is : accepted m l a h ≡ accepted_of (new_event early n)
  accepted_is =
      ap (λ (o : listener-syn-ack.Outcome). accepted_of o.event)
      (step-new l h.time a.own seg h.iss h.out_len (opening_read_by_listener m l a e).kind k.new early refl k.clear)

  accepted-most : accepted m l a h ≤ sent m a
  accepted-most =
      let c = new-count early n (sent m a) (omega (arith, payload-length m l a e)) in
      omega (arith, accepted_is)

  -- and what it wrote
  abbrev fields : SynAck
  fields = syn_ack_from l.local l.settings.mss (slot_for early a.own seg h.iss n) (renewed m l a h) (coding_for v seg)

  done : DoneOpening l h.time a.own seg h.iss h.out_len
  done =
      let o = opening_read_by_listener m l a e in
      record {
        clear = k.clear;
        syn = o.kind;
        new = k.new;
        own-bytes = rw e.address e.server-bytes;
        src_bytes = e.own-bytes;
        key-bytes = e.key-bytes;
        port = omega (arith, e.port, e.dest);
        source = omega (arith, o.source, e.source);
        number = k.iss;
        mss = e.mss;
      }

  read : (g : Codings) → ReadBack g a.server a.own (syn_ack_fields fields) (current l a) [] (reply m l a h)
  read g =
      let counts : counts_coding g (coding_for v seg) ≡ true = ap (counts_coding g) (new-coding m l a e l.settings.codings) in
      subst (λ (own : List ℕ). ReadBack g own a.own (syn_ack_fields fields) (current l a) [] (reply m l a h)) e.address
      (read_new l h.time a.own seg h.iss h.out_len done g counts)

  -- the count that the client finds is the one that the listener accepted
  counted : count_in (attempted m a) (fields_of (reply m l a h)) ≡ accepted m l a h
  counted =
      let most = accepted-most in
      let shaped = well_shaped (reply m l a h) _ (read NewOnly).shape in
      ap (λ (x : Header). acknowledged a.ends.iss x.ack) (sym shaped.1)
      ∙ ap (λ (x : ℕ). acknowledged a.ends.iss (next_after x fields.accepted)) (opening_read_by_listener m l a e).seq
      ∙ ap (λ (x : ℕ). acknowledged a.ends.iss (next_after a.ends.iss x)) (new_status_lem early a.own seg h.iss n ∙ sym accepted_is)
      ∙ acknowledged-accepted a.ends.iss (accepted m l a h) e.iss (omega (arith, sent-fits m l a e))

  cookie_is : (g : Codings) → cookie_in g (reply m l a h) ≡ cond (renewed m l a h) (current l a) []
  cookie_is g =
      cookie_read l.settings.mss (renewed m l a h) (coding_for v seg) (current l a) (options_of g (reply m l a h)) (option_area (reply m l a h)) (read g).options (read g).bytes

  pub cookie_if : (g : Codings) (fresh : Bool) → renewed m l a h ≡ fresh → cookie_in g (reply m l a h) ≡ cond fresh (current l a) []
  cookie_if g fresh f = cookie_is g ∙ ap (λ (b : Bool). cond b (current l a) []) f

  -- a fresh one may be stored
  fresh-length : (g : Codings) → renewed m l a h ≡ true → is_cookie_length (length (cookie_in g (reply m l a h))) ≡ true
  fresh-length g f =
      let eight = cookie_eight l.keys.present (block a.own) in
      rw (cookie_if g true f, eight) (cookie_length_back 8 (record { least = omega arith; most = omega arith; even = refl }))

  module _ (m' : Memory) (r : Receipt) (g : Later m m' r) where
    taken : call_check m' (returning m l a h r) ≡ all_clear
    taken =
        let seg' = reply m l a h in
        let shaped = well_shaped seg' _ (read NewOnly).shape in
        let header = sym shaped.1 in
        let own : is_address m'.family a.own ≡ true = rw g.family (own-family m l a e) in
        let server : is_address m'.family a.server ≡ true = rw g.family (server-family m l a e) in
        let ports = reading.between (attempted m a) (fields_of seg') (ap (λ (x : Header). x.source) header ∙ e.port)
        (ap (λ (x : Header). x.dest) header ∙ (opening_read_by_listener m l a e).source) in
        let kind : is_syn_ack (fields_of seg').flags ≡ true = ap (λ (x : Header). is_syn_ack x.flags) header ∙ syn-ack-kind in
        let few = le-ltb 1460 (sent m a) (sent-fits m l a e).1 in
        let most = accepted-most in
        let enough = le-ltb (sent m a) (count_in (attempted m a) (fields_of seg')) (omega (arith, counted)) in
        reading.passed-clear m' (returning m l a h r) (rw (g.started, g.timely, own, server, shaped.0, (read NewOnly).right, ports, kind, few, enough))

    pub syn_ack_read_by_client : SynAckRead m l a h m' r
    syn_ack_read_by_client =
        let done = calling.step-done m' (returning m l a h r) taken in
        record {
          event = ap (λ (o : client-outcome.Outcome). o.event) done ∙ ap Answered counted;
          mss = ap (λ (o : Options). o.mss) (read r.codings).options;
          cookie = cookie_is r.codings;
          kept = λ f.
              ap (λ (o : client-outcome.Outcome). stored o.memory a) done
              ∙ reading.cookie-stored m' r.time a.own a.server (attempted m a) (reply m l a h) r.codings (fresh-length r.codings f)
              ∙ cookie_if r.codings true f;
          no_ban = λ f.
              ap (λ (o : client-outcome.Outcome). o.memory.bans) done
              ∙ reading.cookie_no_ban m' r.time a.own a.server (attempted m a) (reply m l a h) r.codings (fresh-length r.codings f);
          ban = λ f s z.
              ap (λ (o : client-outcome.Outcome). o.memory.bans) done
              ∙ reading.negative_ban m' r.time a.own a.server (attempted m a) (reply m l a h) r.codings s (counted ∙ z)
              (ap length (cookie_if r.codings false f));
          size =
              ap (λ (o : client-outcome.Outcome). stored_mss (stored_for o.memory a.server)) done
              ∙ reading.mss-stored m' r.time a.own a.server (attempted m a) (reply m l a h) r.codings l.settings.mss (ap (λ (o : Options). o.mss) (read r.codings).options);
        }
