-- The two ends fit. Assumes nothing.
use Prim.Native.Nat.{ℕ, min}
use mathlib.Core.Path.{◌≡◌, ap, sym, ◌∙◌}
use mathlib.Core.Bool.{Bool, true, false}
use mathlib.Core.List.{[]}
use native.Mathlib.Omega.{arith}
use lib.ListN.{length}
use lib.Seq.{take-take}
use Rattle.endpoint.specs.Address.{block}
use Rattle.protocol.specs.Cookie.{request, cookie, cookie_under, carried_by, counts, right}
use Rattle.protocol.specs.Call.{sender, accepted_of}
use Rattle.protocol.specs.View.{view_of}
use Rattle.protocol.specs.Step as listener
use Rattle.protocol.specs.declared.state.Listener.{Listener}
use Rattle.protocol.specs.declared.outcome.Event.{Event}
use Rattle.protocol.specs.declared.outcome.Event.TheVariants as events
use Rattle.protocol.specs.declared.outcome.Outcome.{Outcome}
use Rattle.protocol.proofs.Cookie.{no_cookie, never_right}
use Rattle.protocol.proofs.Openings.{enabled, is_early_lem, wrong_plain, wrong_fresh, new-clear, step-new}
use Rattle.protocol.proofs.StartOf as starting
use Rattle.client.specs.Step as client
use Rattle.client.specs.declared.outcome.Event.TheVariants.{Answered}
use Rattle.client.specs.declared.state.Memory.{Memory}
use Rattle.handshake.specs.Handshake.{Asked, opening, sent, Arrival, arriving, Receipt, returning, Ends, carried_with, stored, is_banned, Issued, present, Taken, Later, renewed, current, updated, Admits, CookieRequest, up_to_early_room, EarlyData, Outdated, NextOpening, CookieReplaced, Handshake}
use Rattle.handshake.proofs.Opening.{payload-length, opening_read_by_listener, wire-clear, kind_checked, none-sent, carried-stored, carried, right-cookie}
use Rattle.handshake.proofs.SynAck.{cookie_if, syn_ack_read_by_client}

-- an opening after a cookie was stored and no ban set
module _ (l : Listener) (a : Asked) (m m' : Memory) (l' : Listener) (a' : Asked) (n : NextOpening l a m m' l' a') (bans : m'.bans ≡ m.bans)
    (kept : stored m' a ≡ current l a) where
  free : is_banned m' a' ≡ false
  free = rw bans n.free

  now : stored m' a' ≡ cookie_under l'.keys.present (block a'.own)
  now = rw (n.server, n.own, n.keys) kept

  next-opening : (carried_by l'.settings.codings (opening m' a') ≡ cookie (current l a)) × (right l'.keys (block a'.own) (carried_by l'.settings.codings (opening m' a')) ≡ true)
  next-opening = (carried m' l' a' n.ends l'.keys.present free now ∙ rw (n.own, n.keys), right-cookie m' l' a' n.ends free (present now))

module _ (m : Memory) (l : Listener) (a : Asked) (e : Ends m l a) where
  module _ (h : Arrival) (w : Admits m l a h) where
    -- an opening that is admitted is done
    taken : Taken m l a h
    taken =
        record {
          clear = new-clear l h.time a.own (opening m a) h.iss h.out_len (opening_read_by_listener m l a e).kind w.new
              (wire-clear m l a e h w.listens) w.place;
          new = w.new;
          iss = w.iss;
        }

    cookies_enabled_lem : listener.cookies_enabled (view_of l (arriving m a h)) ≡ true
    cookies_enabled_lem = enabled l h.time (sender a.own (opening m a)) w.on w.below w.spare

    -- without a right cookie it is plain, and where an option counts it gets a cookie
    abbrev is_right : Bool
    is_right = right l.keys (block a.own) (carried_by l.settings.codings (opening m a))

    module _ (wrong : is_right ≡ false) where
      plain_event : (listener.step l (arriving m a h)).event ≡ events.Regular
      plain_event =
          ap (λ (o : Outcome). o.event)
          (step-new l h.time a.own (opening m a) h.iss h.out_len (opening_read_by_listener m l a e).kind w.new false
          (wrong_plain (view_of l (arriving m a h)) (block a.own) (opening m a) wrong) taken.clear)

      fresh : counts (carried_by l.settings.codings (opening m a)) ≡ true → renewed m l a h ≡ true
      fresh some = wrong_fresh (view_of l (arriving m a h)) (block a.own) (opening m a) cookies_enabled_lem wrong some

      none-answered : (m' : Memory) (r : Receipt) → Later m m' r → (client.step m' (returning m l a h r)).event ≡ Answered 0
      none-answered m' r g = (syn_ack_read_by_client m l a e h taken m' r g).event ∙ ap (λ (x : Event). Answered (accepted_of x)) plain_event

    -- a request has no right cookie
    request_read_lem : stored m a ≡ [] → carried_by l.settings.codings (opening m a) ≡ request
    request_read_lem none =
        (opening_read_by_listener m l a e).option l.settings.codings ∙ ap (λ (t : Bool). carried_with t (stored m a)) w.free ∙ ap (carried_with false) none

    cookie-request : stored m a ≡ [] → (m' : Memory) (r : Receipt) → Later m m' r → CookieRequest m l a h m' r
    cookie-request none m' r g =
        let wrong : is_right ≡ false = rw (request_read_lem none) (never_right l.keys (block a.own) request (λ k. (no_cookie k (block a.own)).1)) in
        record {
          none = none-sent m l a e none;
          event = plain_event wrong;
          answered = none-answered wrong m' r g;
          kept = (syn_ack_read_by_client m l a e h taken m' r g).kept (fresh wrong (rw (request_read_lem none)));
        }

    -- and here the cookie is right under neither key
    cookie-replaced : Outdated m l a → (m' : Memory) (r : Receipt) → Later m m' r → CookieReplaced m l a h m' r
    cookie-replaced out m' r g =
        let read = carried-stored m l a e w.free (λ none. omega (arith, out.some, none-sent m l a e none)) in
        let wrong : is_right ≡ false = rw read out.neither in
        let new = fresh wrong (rw read) in
        let syn_ack = syn_ack_read_by_client m l a e h taken m' r g in
        record {
          event = plain_event wrong;
          fresh = cookie_if m l a e h taken r.codings true new;
          answered = none-answered wrong m' r g;
          no_ban = syn_ack.no_ban new;
          kept = syn_ack.kept new;
          next = λ l' a' n. next-opening l a m' (updated m l a h m' r) l' a' n (syn_ack.no_ban new) (syn_ack.kept new);
        }

    -- with a right cookie it is early
    early-event : Issued l.keys (block a.own) (stored m a) → (listener.step l (arriving m a h)).event ≡ events.FastOpened (up_to_early_room m l a)
    early-event i =
        let right = right-cookie m l a e w.free i in
        let early = is_early_lem (view_of l (arriving m a h)) (block a.own) (opening m a) cookies_enabled_lem right in
        ap (λ (o : Outcome). o.event)
        (step-new l h.time a.own (opening m a) h.iss h.out_len (opening_read_by_listener m l a e).kind w.new true early taken.clear)
        ∙ ap (λ (n : ℕ). events.FastOpened (min n l.settings.early_room)) (payload-length m l a e)

    early_data : Issued l.keys (block a.own) (stored m a) → (m' : Memory) (r : Receipt) → Later m m' r → EarlyData m l a h m' r
    early_data i m' r g =
        let count : up_to_early_room m l a ≡ accepted_of (listener.step l (arriving m a h)).event = ap accepted_of (sym (early-event i)) in
        record {
          event = early-event i;
          part =
              sym (starting.taken (opening m a) (listener.step l (arriving m a h)).event (sym (opening_read_by_listener m l a e).content) count
              (omega (arith, ap length (opening_read_by_listener m l a e).content, payload-length m l a e)))
              ∙ take-take (up_to_early_room m l a) (sent m a) a.offered (omega arith);
          answered = (syn_ack_read_by_client m l a e h taken m' r g).event ∙ ap Answered (sym count);
        }

  pub handshake : Handshake m l a
  handshake =
      record {
        opened = opening_read_by_listener m l a e;
        checked_by_kind = kind_checked m l a e;
        right-cookie = right-cookie m l a e;
        answered = syn_ack_read_by_client m l a e;
        requested = cookie-request;
        early = early_data;
        replaced = cookie-replaced;
      }
