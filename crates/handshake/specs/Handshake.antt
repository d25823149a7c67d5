-- The two ends fit, in the first two segments of a handshake: what the client writes is read by the listener as it was meant, and the listener's SYN-ACK by the client;
-- and, after a SYN-ACK that replaced a cookie, in the client's next opening (02, Item 9). It holds whatever codings either end counts (02, Item 4): the client writes the
-- new one, which each end always counts.
-- Assumes nothing.
use Rattle.std.specs.Prelude.{ℕ, ◌^◌, ◌≤◌, ◌<◌, min, ◌≡◌, List, [], ◌∷◌, Bool, true, false, cond, length, take, Some}
use Rattle.lists.specs.Bytes.{Bytes}
use Rattle.segment.specs.Write.{longest_syn_ack}
use Rattle.segment.specs.Refusal.{refusal, all_clear}
use Rattle.segment.specs.Header.{malformed, fields_of, payload_of, kind_of}
use Rattle.segment.specs.Checksum.{checksum_right}
use Rattle.segment.specs.Options.{options_of}
use Rattle.segment.specs.declared.header.Kind.TheVariants.{Syn}
use Rattle.segment.specs.declared.options.Codings.{Codings}
use Rattle.endpoint.specs.Address.{block}
use Rattle.endpoint.specs.Checks.{is_untimely}
use Rattle.protocol.specs.Cookie.{Carried, nothing, request, cookie, cookie_under, carried_by, right}
use Rattle.protocol.specs.Table.{slot_count, free_place, pending_at, pending_from}
use Rattle.protocol.specs.Call.{segment, accepted_of, accepted_part}
use Rattle.protocol.specs.Call as listener-calls
use Rattle.protocol.specs.View.{known, own_address, view_of}
use Rattle.protocol.specs.Refusals.{kind_checks}
use Rattle.protocol.specs.Refusals as listener-checks
use Rattle.protocol.specs.Step.{is_fresh}
use Rattle.protocol.specs.Step as listener
use Rattle.protocol.specs.declared.state.Keys.{Keys}
use Rattle.protocol.specs.declared.state.Listener.{Listener}
use Rattle.protocol.specs.declared.outcome.Event.TheVariants as events
use Rattle.client.specs.Cache.{stored_cookie, stored_mss, cookie_of}
use Rattle.client.specs.Bans.{add_ban}
use Rattle.client.specs.Call.{connect, answer, count_of}
use Rattle.client.specs.Call as client-calls
use Rattle.client.specs.Refusals as client-checks
use Rattle.client.specs.Step.{cookie_in, banned_for, stored_for}
use Rattle.client.specs.Step as client
use Rattle.client.specs.declared.outcome.ActiveOpen.{ActiveOpen}
use Rattle.client.specs.declared.outcome.Attempt.{Attempt}
use Rattle.client.specs.declared.outcome.Event.TheVariants.{Answered}
use Rattle.client.specs.declared.state.Memory.{Memory}

-- The three calls: the client opens, the listener takes the opening, the client takes the SYN-ACK.

-- what a client is asked for: the time, both addresses, ports and numbers, the data offered, the output's length
pub record Asked : Type 0 where
  pub time : ℕ
  pub own : List ℕ
  pub server : List ℕ
  pub ends : ActiveOpen
  pub offered : List ℕ
  pub out_len : ℕ

abbrev pub asking : Asked → client-calls.Call
asking a = connect a.time a.own a.server a.ends a.offered a.out_len

-- the opening that it writes, and how many of the bytes offered it sent, by its event
abbrev pub opening : Memory → Asked → List ℕ
opening m a = client.output_of m (asking a)

abbrev pub sent : Memory → Asked → ℕ
sent m a = count_of (client.step m (asking a)).event

-- what goes with an opening at the listener: the time, its initial number, the output's length
pub record Arrival : Type 0 where
  pub time : ℕ
  pub iss : ℕ
  pub out_len : ℕ

abbrev pub arriving : Memory → Asked → Arrival → listener-calls.Call
arriving m a h = segment h.time a.own (opening m a) h.iss h.out_len

-- the SYN-ACK that the listener writes, and how many bytes it accepted
abbrev pub reply : Memory → Listener → Asked → Arrival → List ℕ
reply m l a h = listener.output_of l (arriving m a h)

abbrev pub accepted : Memory → Listener → Asked → Arrival → ℕ
accepted m l a h = accepted_of (listener.step l (arriving m a h)).event

-- what goes with a SYN-ACK at the client: the time, and the codings of the Fast Open option that count
pub record Receipt : Type 0 where
  pub time : ℕ
  pub codings : Codings

-- the SYN-ACK comes to the client, with the attempt as the program kept it
abbrev pub attempted : Memory → Asked → Attempt
attempted m a = record { source = a.ends.source; dest = a.ends.dest; iss = a.ends.iss; sent = sent m a }

abbrev pub returning : Memory → Listener → Asked → Arrival → Receipt → client-calls.Call
returning m l a h r = answer r.time a.own a.server (attempted m a) (reply m l a h) r.codings

-- What is asked of both ends

pub record Ends (m : Memory) (l : Listener) (a : Asked) : Type 0 where
  -- the client's call is done
  pub done : client-checks.call_check m (asking a) ≡ all_clear
  -- the listener has the address and the port that the client calls
  pub address : own_address l.local ≡ a.server
  pub port : l.local.port ≡ a.ends.dest
  -- numbers and arrays are such as the calls' types allow
  pub source : a.ends.source < 65536
  pub dest : a.ends.dest < 65536
  pub iss : a.ends.iss < 2 ^ 32
  pub own-bytes : Bytes a.own
  pub server-bytes : Bytes a.server
  pub offered-bytes : Bytes a.offered
  pub stored-length : length (stored_cookie (stored_for m a.server)).bytes ≡ 16
  pub stored_bytes : Bytes (stored_cookie (stored_for m a.server)).bytes
  pub local_length : length l.local.own ≡ 16
  pub key-bytes : Bytes l.keys.present
  pub mss : l.settings.mss < 65536

-- What the listener reads

-- the option of an opening: none for a banned server, a request where no cookie is stored, else the stored cookie
abbrev pub carried_with : Bool → List ℕ → Carried
carried_with true c = nothing
carried_with false [] = request
carried_with false (x ∷ c) = cookie (x ∷ c)

abbrev pub stored : Memory → Asked → List ℕ
stored m a = cookie_of (stored_for m a.server)

abbrev pub is_banned : Memory → Asked → Bool
is_banned m a = banned_for m a.time a.server a.ends

-- it is an opening between the two, with the client's number, option and data, whatever codings the listener counts
pub record OpeningRead (m : Memory) (a : Asked) : Type 0 where
  pub formed : malformed (opening m a) ≡ false
  pub checksum : checksum_right a.own a.server (opening m a) ≡ true
  pub source : (fields_of (opening m a)).source ≡ a.ends.source
  pub dest : (fields_of (opening m a)).dest ≡ a.ends.dest
  pub seq : (fields_of (opening m a)).seq ≡ a.ends.iss
  pub kind : kind_of (fields_of (opening m a)).flags ≡ Syn
  pub option : (g : Codings) → carried_by g (opening m a) ≡ carried_with (is_banned m a) (stored m a)
  pub content : payload_of (opening m a) ≡ take (sent m a) a.offered

-- a listener that was started, a time that it takes, and an output for the longest SYN-ACK
pub record Listens (l : Listener) (h : Arrival) : Type 0 where
  pub started : l.local.started ≡ true
  pub timely : is_untimely l.clock h.time ≡ false
  pub out_len : longest_syn_ack ≤ h.out_len

-- the listener's cookie for the address with this block, under its present key, or under the previous one if there is one
pub data Issued (k : Keys) (b c : List ℕ) : Type 0 where
  present : c ≡ cookie_under k.present b → Issued k b c
  previous : (w : List ℕ) → k.previous ≡ Some w → c ≡ cookie_under w b → Issued k b c

-- What the client reads

-- the listener's call is done and the client's name is new to it; its initial number is such as the call's type allows
pub record Taken (m : Memory) (l : Listener) (a : Asked) (h : Arrival) : Type 0 where
  pub clear : listener-checks.call_check l (arriving m a h) ≡ all_clear
  pub new : known (view_of l (arriving m a h)) ≡ false
  pub iss : h.iss < 2 ^ 32

-- the client's memory when the SYN-ACK comes, whatever came between: started, of the same family, and at a time that it takes
pub record Later (m m' : Memory) (r : Receipt) : Type 0 where
  pub started : m'.started ≡ true
  pub family : m'.family ≡ m.family
  pub timely : is_untimely m'.clock r.time ≡ false

-- the SYN-ACK has a fresh cookie
abbrev pub renewed : Memory → Listener → Asked → Arrival → Bool
renewed m l a h = is_fresh (view_of l (arriving m a h)) (block a.own) (opening m a)

-- the cookie that the listener now issues for the client
abbrev pub current : Listener → Asked → List ℕ
current l a = cookie_under l.keys.present (block a.own)

-- the client's memory when it has taken the SYN-ACK
abbrev pub updated : Memory → Listener → Asked → Arrival → Memory → Receipt → Memory
updated m l a h m' r = (client.step m' (returning m l a h r)).memory

-- the client takes it, with the count that the listener accepted, its MSS and, if there is one, its fresh cookie, and both are stored then. With a fresh cookie it
-- sets no ban; without one it sets one where none of the data that it sent was accepted.
pub record SynAckRead (m : Memory) (l : Listener) (a : Asked) (h : Arrival) (m' : Memory) (r : Receipt) : Type 0 where
  pub event : (client.step m' (returning m l a h r)).event ≡ Answered (accepted m l a h)
  pub mss : (options_of r.codings (reply m l a h)).mss ≡ Some l.settings.mss
  pub cookie : cookie_in r.codings (reply m l a h) ≡ cond (renewed m l a h) (current l a) []
  pub kept : renewed m l a h ≡ true → stored (updated m l a h m' r) a ≡ current l a
  pub no_ban : renewed m l a h ≡ true → (updated m l a h m' r).bans ≡ m'.bans
  pub ban : renewed m l a h ≡ false → 0 < sent m a → accepted m l a h ≡ 0 → (updated m l a h m' r).bans ≡ add_ban r.time (block a.server) a.ends.dest m'.bans
  pub size : stored_mss (stored_for (updated m l a h m' r) a.server) ≡ Some l.settings.mss

-- Three kinds of opening: a request gets a cookie, with a right cookie the data is handed over at once, and one that is right under neither key is
-- replaced.

-- Fast Open is on, pending is below the limit and that of the client's address below its share (02, Item 8), a place is free, the name is new, and the server is not banned
pub record Admits (m : Memory) (l : Listener) (a : Asked) (h : Arrival) : Type 0 where
  pub listens : Listens l h
  pub on : l.settings.on ≡ true
  pub below : pending_at h.time l.slots < l.settings.limit
  pub spare : pending_from h.time (block a.own) l.slots < l.settings.share
  pub place : free_place h.time l.slots < slot_count
  pub new : known (view_of l (arriving m a h)) ≡ false
  pub iss : h.iss < 2 ^ 32
  pub free : is_banned m a ≡ false

-- no data goes with it, and the client has the cookie then
pub record CookieRequest (m : Memory) (l : Listener) (a : Asked) (h : Arrival) (m' : Memory) (r : Receipt) : Type 0 where
  pub none : sent m a ≡ 0
  pub event : (listener.step l (arriving m a h)).event ≡ events.Regular
  pub answered : (client.step m' (returning m l a h r)).event ≡ Answered 0
  pub kept : stored (updated m l a h m' r) a ≡ current l a

-- the bytes sent, up to the early room
abbrev pub up_to_early_room : Memory → Listener → Asked → ℕ
up_to_early_room m l a = min (sent m a) l.settings.early_room

-- the listener hands over the data at once, and the client learns how much of it
pub record EarlyData (m : Memory) (l : Listener) (a : Asked) (h : Arrival) (m' : Memory) (r : Receipt) : Type 0 where
  pub event : (listener.step l (arriving m a h)).event ≡ events.FastOpened (up_to_early_room m l a)
  pub part : accepted_part (opening m a) (listener.step l (arriving m a h)).event ≡ take (up_to_early_room m l a) a.offered
  pub answered : (client.step m' (returning m l a h r)).event ≡ Answered (up_to_early_room m l a)

-- the client sends data, with a cookie that is right under neither key, as after two key changes
pub record Outdated (m : Memory) (l : Listener) (a : Asked) : Type 0 where
  pub some : 0 < sent m a
  pub neither : right l.keys (block a.own) (cookie (stored m a)) ≡ false

-- its next call, an opening (m' is its memory before the SYN-ACK, m'' after): from the same address to the same server, for which no ban from before the SYN-ACK is
-- live then; the listener has the keys that it had
pub record NextOpening (l : Listener) (a : Asked) (m' m'' : Memory) (l' : Listener) (a' : Asked) : Type 0 where
  pub ends : Ends m'' l' a'
  pub own : a'.own ≡ a.own
  pub server : a'.server ≡ a.server
  pub free : is_banned m' a' ≡ false
  pub keys : l'.keys ≡ l.keys

-- The opening is plain, and its SYN-ACK has the fresh cookie. None of the data is acknowledged, and yet the client sets no ban; it stores the fresh cookie.
-- Its next opening carries that cookie, which is right.
pub record CookieReplaced (m : Memory) (l : Listener) (a : Asked) (h : Arrival) (m' : Memory) (r : Receipt) : Type 0 where
  pub event : (listener.step l (arriving m a h)).event ≡ events.Regular
  pub fresh : cookie_in r.codings (reply m l a h) ≡ current l a
  pub answered : (client.step m' (returning m l a h r)).event ≡ Answered 0
  pub no_ban : (updated m l a h m' r).bans ≡ m'.bans
  pub kept : stored (updated m l a h m' r) a ≡ current l a
  pub next : (l' : Listener) (a' : Asked) → NextOpening l a m' (updated m l a h m' r) l' a'
      → (carried_by l'.settings.codings (opening (updated m l a h m' r) a') ≡ cookie (current l a)) × (right l'.keys (block a'.own) (carried_by l'.settings.codings (opening (updated m l a h m' r) a')) ≡ true)

-- All of it

pub record Handshake (m : Memory) (l : Listener) (a : Asked) : Type 0 where
  -- the listener reads the opening as the client meant it
  pub opened : OpeningRead m a
  -- and has no refusal for it but those of an opening, 7 and 8
  pub checked_by_kind : (h : Arrival) → Listens l h → listener-checks.call_check l (arriving m a h) ≡ refusal (kind_checks (view_of l (arriving m a h)) (fields_of (opening m a)) Syn)
  -- its cookie for the client's address is right, under the present key and under the previous one
  pub right-cookie : is_banned m a ≡ false → Issued l.keys (block a.own) (stored m a) → right l.keys (block a.own) (carried_by l.settings.codings (opening m a)) ≡ true
  -- the client reads the SYN-ACK as the listener meant it
  pub answered : (h : Arrival) → Taken m l a h → (m' : Memory) (r : Receipt) → Later m m' r → SynAckRead m l a h m' r
  -- without a cookie, and with a right one
  pub requested : (h : Arrival) → Admits m l a h → stored m a ≡ [] → (m' : Memory) (r : Receipt) → Later m m' r → CookieRequest m l a h m' r
  pub early : (h : Arrival) → Admits m l a h → Issued l.keys (block a.own) (stored m a) → (m' : Memory) (r : Receipt) → Later m m' r
      → EarlyData m l a h m' r
  -- and with one that is right under neither key
  pub replaced : (h : Arrival) → Admits m l a h → Outdated m l a → (m' : Memory) (r : Receipt) → Later m m' r → CookieReplaced m l a h m' r
