-- The SYN-ACK to a new opening: what is written, and what is read from it. Assumes nothing.
use Prim.Native.Nat.{ℕ, ◌+◌}
use mathlib.Core.Path.{◌≡◌, refl, ap, sym, ◌∙◌, subst}
use mathlib.Core.Bool.{Bool, true, false}
use mathlib.Core.List.{List, [], ◌∷◌}
use native.Mathlib.Omega.{arith}
use lib.ListN.{length}
use borrow.Author.Tests.{ltb-false, not-false}
use Rattle.segment.specs.Options.{prefix_length, counts_coding}
use Rattle.segment.specs.Write.{syn_ack_length, syn_ack_fields, syn_ack_bytes}
use Rattle.segment.specs.declared.header.Kind.{Kind}
use Rattle.segment.specs.declared.options.Coding.{Coding}
use Rattle.segment.specs.declared.options.Coding.TheVariants.{New}
use Rattle.segment.specs.declared.options.Codings.{Codings}
use Rattle.segment.specs.declared.options.FastOpenOption.TheVariants.{Cookie}
use Rattle.segment.specs.declared.options.Options.{Options}
use Rattle.segment.specs.declared.write.SynAck.{SynAck}
use Rattle.segment.proofs.Cookie.{coding-counts}
use Rattle.segment.proofs.OneFamily.{family_back, right-family}
use Rattle.segment.proofs.ReadBack.{ReadBack, fast_open_for, remarks_for}
use Rattle.segment.proofs.Exchange.{syn_ack_can, syn-ack-without, syn-ack-fits, syn_ack_read}
use Rattle.endpoint.specs.Address.{block}
use Rattle.protocol.specs.Cookie.{cookie_under}
use Rattle.protocol.specs.View.{own_address}
use Rattle.protocol.specs.Step.{accepts, is_early, is_fresh, new_event, opening_event, segment_event, fresh_with, coding_for, syn_ack_from, syn_ack_to, segment_output, step}
use Rattle.protocol.specs.Answered.{call, seen, DoneOpening, asked, reply, Answered}
use Rattle.protocol.specs.declared.state.View.{View}
use Rattle.protocol.specs.declared.state.Listener.{Listener}
use Rattle.protocol.proofs.Cookie.{cookie_eight, cookie-bytes}
use Rattle.protocol.proofs.DoneOutput.{all_passed, opening-written}
use Rattle.protocol.proofs.Openings.{slot_for, step-new}
use Rattle.protocol.proofs.Refusals.{output-done}

-- what is written for a new opening, early or plain
new-output : (v : View) (t : ℕ) (src seg : List ℕ) (iss out_len n : ℕ) (early : Bool) → segment_output v t src seg iss out_len (new_event early n)
    ≡ syn_ack_to v src (slot_for early src seg iss n) (is_fresh v (block src) seg) (coding_for v seg) out_len
new-output v t src seg iss out_len n true = refl
new-output v t src seg iss out_len n false = refl

-- a new opening's event says what its SYN-ACK has
fresh-event : (v : View) (b seg : List ℕ) (early : Bool) (n : ℕ) → fresh_with v b seg (new_event early n) ≡ is_fresh v b seg
fresh-event v b seg true n = refl
fresh-event v b seg false n = refl

-- a cookie of eight bytes, as it is found
found_eight : (c : Coding) (cookie : List ℕ) → length cookie ≡ 8 → fast_open_for true c cookie ≡ Cookie c (4 + prefix_length c) 8
found_eight c [] e = absurd (omega (arith, e))
found_eight c (b ∷ rest) e = ap (Cookie c (4 + prefix_length c)) e

module _ (l : Listener) (t : ℕ) (src seg : List ℕ) (iss out_len : ℕ) (o : DoneOpening l t src seg iss out_len) where
  abbrev v : View
  v = seen l t src seg iss out_len

  -- the coding of its SYN-ACK is that of its option
  coded : coding_for v seg ≡ asked l t src seg iss out_len
  coded = refl

  abbrev pub early : Bool
  early = is_early v (block src) seg

  abbrev pub count : ℕ
  count = accepts l.settings seg

  -- the fields of its SYN-ACK, in a coding
  abbrev pub fields_in : Coding → SynAck
  fields_in c = syn_ack_from l.local l.settings.mss (slot_for early src seg iss count) (is_fresh v (block src) seg) c

  abbrev pub issued : List ℕ
  issued = cookie_under l.keys.present (block src)

  pub reply_is : reply l t src seg iss out_len ≡ syn_ack_bytes (own_address l.local) src (fields_in (coding_for v seg)) issued out_len
  reply_is =
      output-done l (call l t src seg iss out_len) o.clear
      ∙ ap (λ (x : Kind). segment_output v t src seg iss out_len (segment_event v (block src) seg x)) o.syn
      ∙ ap (λ (x : Bool). segment_output v t src seg iss out_len (opening_event x v (block src) seg)) o.new
      ∙ new-output v t src seg iss out_len count early

  -- what is read from it, where it is the SYN-ACK in a coding that counts
  module _ (g : Codings) (c : Coding) (counts : counts_coding g c ≡ true)
      (same : reply l t src seg iss out_len ≡ syn_ack_bytes (own_address l.local) src (fields_in c) issued out_len) where
    read_in : ReadBack g (own_address l.local) src (syn_ack_fields (fields_in c)) issued [] (reply l t src seg iss out_len)
    read_in =
        let p = all_passed l (call l t src seg iss out_len) o.clear in
        let own = own_address l.local in
        let one = family_back src own (right-family src own seg (not-false _ p.1.1.1.1.1.0)) in
        let can = syn_ack_can own src (fields_in c) issued out_len one (cookie_eight l.keys.present (block src)) (ltb-false out_len 36 p.1.1.1.0) in
        let fits = syn-ack-fits (fields_in c) o.port o.source o.number o.mss in
        subst (ReadBack g own src (syn_ack_fields (fields_in c)) issued []) (sym same)
        (syn_ack_read g own src (fields_in c) issued out_len counts can fits o.own-bytes o.src_bytes (cookie-bytes l.keys.present (block src) o.key-bytes))

  pub read_new : (g : Codings) → counts_coding g (coding_for v seg) ≡ true
      → ReadBack g (own_address l.local) src (syn_ack_fields (fields_in (coding_for v seg))) issued [] (reply l t src seg iss out_len)
  read_new g counts = read_in g (coding_for v seg) counts reply_is

  written_is : (step l (call l t src seg iss out_len)).written ≡ syn_ack_length (is_fresh v (block src) seg)
  written_is =
      opening-written l t src seg iss out_len o.clear o.syn
      ∙ rw (step-new l t src seg iss out_len o.syn o.new early refl o.clear) (ap syn_ack_length (fresh-event v (block src) seg early count))

  pub answered : Answered l t src seg iss out_len
  answered =
      record {
        counts = coding-counts l.settings.codings seg;
        size = λ f. written_is ∙ ap syn_ack_length f;
        fresh = λ f g k.
            let r = read_new g (subst (λ (c : Coding). counts_coding g c ≡ true) (sym coded) k) in (
              ap (λ (x : Options). x.fast) r.options ∙ ap (λ (b : Bool). fast_open_for b (coding_for v seg) issued) f ∙ found_eight (coding_for v seg) issued (cookie_eight l.keys.present (block src)),
              r.bytes f,
            );
        place = λ f g k. (read_new g (subst (λ (c : Coding). counts_coding g c ≡ true) (sym coded) k)).remarks ∙ ap remarks_for f;
        short = λ f. written_is ∙ ap syn_ack_length f;
        none = λ f g.
            let r = read_in g New refl (reply_is ∙ syn-ack-without (own_address l.local) src (fields_in New) (coding_for v seg) New issued issued out_len f) in
            (ap (λ (x : Options). x.fast) r.options ∙ ap (λ (b : Bool). fast_open_for b New issued) f, r.remarks ∙ ap remarks_for f);
      }
