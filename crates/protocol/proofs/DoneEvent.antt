-- What holds of the event of every done call. Assumes nothing.
use Prim.Native.Nat.{ℕ}
use mathlib.Core.Path.{◌≡◌, refl}
use mathlib.Core.Bool.{Bool, true, false}
use mathlib.Core.List.{List}
use Rattle.segment.specs.Header.{fields_of, kind_of}
use Rattle.segment.specs.declared.header.Kind.{Kind}
use Rattle.segment.specs.declared.header.Kind.TheVariants.{Syn, Rst, Ack, Other}
use Rattle.endpoint.specs.Address.{block}
use Rattle.protocol.specs.Call.{Call, segment, settings, key, abandon, resend, close, number_of_event}
use Rattle.protocol.specs.View.{known}
use Rattle.protocol.specs.Step.{accepts, is_early, new_event, opening_event, segment_event, done_event}
use Rattle.protocol.specs.declared.state.View.{View}
use Rattle.protocol.specs.declared.outcome.Event.{Event}
use Rattle.protocol.specs.declared.outcome.Event.TheVariants as events

-- what holds of the three verdicts holds of a done opening's event
pub opening-event : (P : Event → Type 0) → ((n : ℕ) → P (events.FastOpened n)) → P events.Regular → P events.Retransmission
    → (v : View) (b seg : List ℕ) → P (opening_event (known v) v b seg)
opening-event P early plain again v b seg = go (known v)
  where
    new : (e : Bool) (n : ℕ) → P (new_event e n)
    new true n = early n
    new false n = plain

    go : (k : Bool) → P (opening_event k v b seg)
    go true = again
    go false = new (is_early v b seg) (accepts v.settings seg)

-- the number of a done call is 0
pub done-number : (v : View) (c : Call) → number_of_event (done_event v c) ≡ 0
done-number v (segment t src seg iss out_len) = go (kind_of (fields_of seg).flags)
  where
    go : (k : Kind) → number_of_event (segment_event v (block src) seg k) ≡ 0
    go Syn = opening-event (λ e. number_of_event e ≡ 0) (λ n. refl) refl refl v (block src) seg
    go Ack = refl
    go Rst = refl
    go Other = refl
done-number v (settings t g) = refl
done-number v (key t k) = refl
done-number v (abandon t a p) = refl
done-number v (resend t a p out_len) = refl
done-number v (close t a p) = refl
