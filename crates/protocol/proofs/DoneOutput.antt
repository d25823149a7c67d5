-- The outcome of a done segment: its kind, and how many bytes were written. Assumes nothing.
use Rattle.segment.specs.Refusal.{all_clear}
use Prim.Native.Nat.{ℕ}
use mathlib.Core.Path.{◌≡◌, refl}
use mathlib.Core.Bool.{Bool, true, false}
use mathlib.Core.List.{List}
use lib.ListN.{length, take}
use lib.Seq.{length-take-le}
use borrow.Author.Tests.{ltb-false, eqb-true, not-false}
use Rattle.segment.specs.Header.{fields_of, kind_of}
use Rattle.segment.specs.Checksum.{one_family}
use Rattle.segment.specs.declared.options.Coding.{Coding}
use Rattle.segment.specs.declared.options.Coding.TheVariants.{New}
use Rattle.segment.specs.declared.header.Kind.{Kind}
use Rattle.segment.specs.declared.header.Kind.TheVariants.{Syn, Rst, Ack, Other}
use Rattle.segment.specs.Write.{syn_ack_length}
use Rattle.segment.proofs.Exchange.{syn-ack-bytes}
use Rattle.segment.proofs.OneFamily.{family_back, right-family}
use Rattle.endpoint.specs.Address.{size, is_address, block}
use Rattle.endpoint.specs.declared.address.Family.{Family}
use Rattle.endpoint.proofs.Blocks.{one_size, own-most}
use Rattle.endpoint.proofs.Clear.{Passed, every-check}
use Rattle.protocol.specs.Cookie.{cookie_under}
use Rattle.protocol.specs.Call.{Call, segment, resend, sender, opening, word_of, kind_of_event}
use Rattle.protocol.specs.View.{own_address, view, view_of}
use Rattle.protocol.specs.Refusals.{checks, call_check}
use Rattle.protocol.specs.Step.{segment_event, writes_syn_ack, fresh_with, coding_for, syn_ack_from, syn_ack_to, held_until, slot_after, step}
use Rattle.protocol.specs.declared.slots.Slot.{Slot}
use Rattle.protocol.specs.declared.state.View.{View}
use Rattle.protocol.specs.declared.state.Listener.{Listener}
use Rattle.protocol.proofs.Cookie.{cookie_eight}
use Rattle.protocol.proofs.DoneEvent.{opening-event}
use Rattle.protocol.proofs.Refusals.{step-done}

module _ (v : View) (b seg : List ℕ) where
  kind_is : (k : Kind) → kind_of_event (segment_event v b seg k) ≡ word_of k
  kind_is Syn = opening-event (λ e. kind_of_event e ≡ opening) (λ n. refl) refl refl v b seg
  kind_is Ack = refl
  kind_is Rst = refl
  kind_is Other = refl

pub all_passed : (l : Listener) (c : Call) → call_check l c ≡ all_clear → Passed (checks (view_of l c) c)
unfolding call_check
all_passed l c e = every-check (checks (view_of l c) c) e

module _ (l : Listener) (t : ℕ) (src seg : List ℕ) (iss out_len : ℕ) (clear : call_check l (segment t src seg iss out_len) ≡ all_clear) where
  abbrev this : Call
  this = segment t src seg iss out_len

  abbrev v : View
  v = view l t (sender src seg)

  -- a done segment's kind is told
  pub kind_of_event_lem : kind_of_event (step l this).event ≡ word_of (kind_of (fields_of seg).flags)
  kind_of_event_lem = rw (step-done l this clear) (kind_is v (block src) seg (kind_of (fields_of seg).flags))

  syn-ack-size : (s : Slot) (fresh : Bool) (coding : Coding) → length (syn_ack_to v src s fresh coding out_len) ≡ syn_ack_length fresh
  syn-ack-size s fresh coding =
      let p = all_passed l this clear in
      let own = own_address l.local in
      syn-ack-bytes own src (syn_ack_from l.local l.settings.mss s fresh coding) (cookie_under l.keys.present (block src)) out_len
      (family_back src own (right-family src own seg (not-false _ p.1.1.1.1.1.0))) (cookie_eight l.keys.present (block src)) (ltb-false out_len 36 p.1.1.1.0)

  -- a done opening gets a SYN-ACK: 36 bytes with a fresh cookie, 24 without
  pub opening-written : kind_of (fields_of seg).flags ≡ Syn → (step l this).written ≡ syn_ack_length (fresh_with v (block src) seg (step l this).event)
  opening-written k =
      let e = segment_event v (block src) seg Syn in
      rw (step-done l this clear, k, opening-event (λ x. writes_syn_ack x ≡ true) (λ n. refl) refl refl v (block src) seg) (syn-ack-size (slot_after v (held_until v t) (block src) (fields_of seg) iss e) (fresh_with v (block src) seg e) (coding_for v seg))

-- a done resend writes 24 bytes
own-family : (f : Family) (own a : List ℕ) → length own ≡ 16 → is_address f a ≡ true → one_family (take (size f) own) a ≡ true
own-family f own a h e = one_size f (take (size f) own) a (length-take-le (size f) own (own-most f own refl h)) (eqb-true (length a) (size f) e)

pub resend-written : (l : Listener) (t : ℕ) (a : List ℕ) (p out_len : ℕ) → length l.local.own ≡ 16 → call_check l (resend t a p out_len) ≡ all_clear
    → (step l (resend t a p out_len)).written ≡ 24
resend-written l t a p out_len h clear =
    let q = all_passed l (resend t a p out_len) clear in
    let s = (view l t (record { address = a; port = p })).slot in
    rw (step-done l (resend t a p out_len) clear)
    (syn-ack-bytes (own_address l.local) a (syn_ack_from l.local l.settings.mss s false New) (cookie_under l.keys.present (block a)) out_len
    (own-family l.local.family l.local.own a h (not-false _ q.1.1.0)) (cookie_eight l.keys.present (block a)) (ltb-false out_len 36 q.1.1.1.0))
