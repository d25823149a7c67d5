-- What playing a request comes to: of an order with its buffers and the output that is lent to it. Assumes nothing.
use Prim.Native.Nat.{ℕ, min}
use mathlib.Core.Path.{◌≡◌, refl, ◌∙◌}
use mathlib.Core.List.{List}
use Rattle.std.specs.Prelude.{Option, Some}
use lib.ListN.{length, take, replicate, length-replicate}
use Rattle.client.specs.declared.state.Memory.{Memory}
use Rattle.text.specs.Put.{laid}
use Rattle.text.proofs.Arguments.{take-replicate}
use Rattle.client_player.specs.Request.{Request, request_in}
use Rattle.client_player.specs.Play.{lent_to, playing_with, request_playing}
use Rattle.client_player.specs.Order.{out_length, request_with, request_read}
use Rattle.text.specs.declared.play.Played.{Played}
use Rattle.text.specs.Play.{played_in}
use Rattle.client_player.specs.declared.read.Order.{Order}
use Rattle.client_player.specs.declared.read.Order.TheVariants.{Start, Open, Answer, Failed}

module _ (m : Memory) (o : Order) (a b d : List ℕ) where
  -- an order's output is as long as it asks for, up to 2,048
  lent_to_by : (x : Order) → lent_to (request_with x a b d (min (out_length x) 2048)) ≡ min (out_length x) 2048
  lent_to_by (Start n) = refl
  lent_to_by (Open e mss out k) = refl
  lent_to_by (Answer e sent k both) = refl
  lent_to_by (Failed t n p) = refl

  -- an order that was read, with the first bytes of the output
  lending : (lent : List ℕ) (q : Option Request) → lent ≡ take (out_length o) (replicate 2048 165)
      → Some (request_with o a b d (min (out_length o) 2048)) ≡ q → playing_with m (request_with o a b d (length lent)) lent ≡ request_playing m q
  lending lent q e h =
      let f : lent ≡ replicate (min (out_length o) 2048) 165 = e ∙ take-replicate (out_length o) 2048 165 in
      rw (← h, lent_to_by o, f, length-replicate {A = ℕ} (min (out_length o) 2048) 165)

  pub ordered : (s text : List ℕ) {k : Option Order} {lent text' : List ℕ} {r : Played Memory} → k ≡ Some o → request_read k a b d ≡ request_in s
      → lent ≡ take (out_length o) (replicate 2048 165) → r ≡ played_in (length text) (playing_with m (request_with o a b d (length lent)) lent)
      → text' ≡ laid 0 (playing_with m (request_with o a b d (length lent)) lent).text text
      → (r ≡ played_in (length text) (request_playing m (request_in s))) × (text' ≡ laid 0 (request_playing m (request_in s)).text text)
  ordered s text {lent} h q e f g = rw (← lending lent (request_in s) e (rw h at q)) (f, g)
