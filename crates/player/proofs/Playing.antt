-- What playing a request comes to: of an order with its buffers and the output that is lent to it. Assumes nothing.
use Prim.Native.Nat.{ℕ, min}
use mathlib.Core.Path.{◌≡◌, refl, ◌∙◌}
use mathlib.Core.Bool.{Bool, true, false}
use mathlib.Core.List.{List}
use Rattle.std.specs.Prelude.{Option, Some}
use lib.ListN.{length, take, replicate, length-replicate}
use Rattle.protocol.specs.declared.state.Listener.{Listener}
use Rattle.text.specs.Put.{laid}
use Rattle.text.proofs.Arguments.{take-replicate}
use Rattle.player.specs.Request.{Request, releasing, request_in}
use Rattle.player.specs.Play.{lent_to, lent_then, brought_by, playing_with, request_playing}
use Rattle.player.specs.Order.{out_length, seg_length, request_with, request_read}
use Rattle.text.specs.declared.play.Played.{Played}
use Rattle.text.specs.Play.{played_in}
use Rattle.player.specs.declared.read.Order.{Order}
use Rattle.player.specs.declared.read.Order.TheVariants.{Start, Settings, Key, Segment, Release, Resend}

-- a release writes nothing
unwritten_by : (l : Listener) (e : Bool) (t : ℕ) (a : List ℕ) (p : ℕ) (lent : List ℕ) → lent ≡ lent_then l (releasing e t a p) lent
unwritten_by l true t a p lent = refl
unwritten_by l false t a p lent = refl

pub unwritten : (l : Listener) (a b : List ℕ) (k : ℕ) (lent : List ℕ) {o : Order} {e : Bool} {t n p : ℕ} → o ≡ Release e t n p
    → lent ≡ lent_then l (request_with o a b k) lent
unwritten l a b k lent {o} {e} {t} {n} {p} h = rw h (unwritten_by l e t (take n a) p lent)

-- the segment that an order brings
pub brought : (o : Order) (a b : List ℕ) (n : ℕ) → brought_by (request_with o a b n) ≡ take (seg_length o) b
brought (Start own port k) a b n = refl
brought (Settings t g) a b n = refl
brought (Key t k) a b n = refl
brought (Segment t src iss out seg) a b n = refl
brought (Release true t k p) a b n = refl
brought (Release false t k p) a b n = refl
brought (Resend t k p out) a b n = refl

-- an order's output is as long as it asks for, up to 2,048
lent-to : (o : Order) (a b : List ℕ) → lent_to (request_with o a b (min (out_length o) 2048)) ≡ min (out_length o) 2048
lent-to (Start own port k) a b = refl
lent-to (Settings t g) a b = refl
lent-to (Key t k) a b = refl
lent-to (Segment t src iss out seg) a b = refl
lent-to (Release true t k p) a b = refl
lent-to (Release false t k p) a b = refl
lent-to (Resend t k p out) a b = refl

-- an order that was read, with the first bytes of the output
lending : (l : Listener) (o : Order) (a b lent : List ℕ) (q : Option Request) → lent ≡ take (out_length o) (replicate 2048 165)
    → Some (request_with o a b (min (out_length o) 2048)) ≡ q → playing_with l (request_with o a b (length lent)) lent ≡ request_playing l q
lending l o a b lent q e h =
    let f : lent ≡ replicate (min (out_length o) 2048) 165 = e ∙ take-replicate (out_length o) 2048 165 in
    rw (← h, lent-to o a b, f, length-replicate {A = ℕ} (min (out_length o) 2048) 165)

pub ordered : (l : Listener) (s a b text : List ℕ) {k : Option Order} {o : Order} {lent text' : List ℕ} {r : Played Listener} → k ≡ Some o → request_read k a b ≡ request_in s
    → lent ≡ take (out_length o) (replicate 2048 165) → r ≡ played_in (length text) (playing_with l (request_with o a b (length lent)) lent)
    → text' ≡ laid 0 (playing_with l (request_with o a b (length lent)) lent).text text
    → (r ≡ played_in (length text) (request_playing l (request_in s))) × (text' ≡ laid 0 (request_playing l (request_in s)).text text)
ordered l s a b text {o} {lent} h q e f g = rw (← lending l o a b lent (request_in s) e (rw h at q)) (f, g)
