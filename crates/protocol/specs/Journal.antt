-- Document 01, "Demand 3's book", and document 02, Items 4 and 8: a record of the calls that is kept apart from the listener. It is fed the start's arguments, each call's and the number
-- returned, and nothing from the slots.
-- Assumes nothing.
use Rattle.std.specs.Prelude.{ℕ, zero, suc, ◌+◌, min, Option, None, Some, List, [], ◌∷◌, Bool, true, false, cond, ◌&&◌, ◌||◌, ltb, length, take}
use Rattle.cipher.specs.KeyExpansion.{key_expansion}
use Rattle.segment.specs.Header.{fields_of, payload_of, kind_of}
use Rattle.segment.specs.declared.options.Codings.TheVariants.{NewOnly}
use Rattle.segment.specs.declared.header.Kind.{Kind}
use Rattle.segment.specs.declared.header.Kind.TheVariants.{Syn, Rst, Ack, Other}
use Rattle.lists.specs.Bytes.{same_bytes}
use Rattle.lists.specs.Lists.{tally, amend}
use Rattle.endpoint.specs.Address.{Peer, same_peer, block}
use Rattle.protocol.specs.Cookie.{Carried, carried_by, right_under}
use Rattle.protocol.specs.Call.{fresh_mss, fresh_share, Call, segment, settings, key, abandon, resend, close, sender, time_of, Verdict, early, plain, repeat, no_verdict}
use Rattle.protocol.specs.declared.state.Settings.{Settings}

-- what is noted of a connection
pub data Mark : Type 0 where
  mark_plain mark_early mark_open : Mark
  mark_held : ℕ → Mark

-- an entry, by name
pub record Entry : Type 0 where
  pub peer : Peer
  pub mark : Mark

pub record Journal : Type 0 where
  pub time : ℕ
  pub settings : Settings
  pub present : List ℕ
  pub previous : Option (List ℕ)
  pub entries : List Entry

-- At the start: as in the fresh state.
abbrev pub fresh_journal : List ℕ → ℕ → List ℕ → Journal
fresh_journal own port k =
    record {
      time = 0;
      settings = record { on = false; limit = 0; early_room = 0; hold = 0; mss = fresh_mss; codings = NewOnly; share = fresh_share };
      present = k;
      previous = None;
      entries = [];
    }

-- Its pending: the early entries, and the held ones that end after its time.
abbrev pub pends : ℕ → Mark → Bool
pends t mark_plain = false
pends t mark_early = true
pends t mark_open = false
pends t (mark_held end) = ltb t end

abbrev pub pending_of : Journal → ℕ
pending_of j = tally (λ e. pends j.time e.mark) j.entries

-- Of these, the ones from one source address, whatever their ports.
abbrev pub pends_of_address : ℕ → List ℕ → Entry → Bool
pends_of_address t a e = pends t e.mark && same_bytes e.peer.address a

abbrev pub pending_of_address : Journal → List ℕ → ℕ
pending_of_address j a = tally (pends_of_address j.time a) j.entries

-- The settings in force.
abbrev pub settings_of : Journal → Settings
settings_of j = j.settings

-- Entries are found by name.
abbrev pub named : Peer → Entry → Bool
named p e = same_peer p e.peer

abbrev pub has : Peer → List Entry → Bool
has p entries = ltb 0 (tally (named p) entries)

-- What becomes of an entry, by rules: it stays, changes or is removed (01: struck out).

-- a held one that ends at or before the time is struck out
abbrev pub kept_mark : ℕ → Peer → Mark → List Entry
kept_mark t p mark_plain = record { peer = p; mark = mark_plain } ∷ []
kept_mark t p mark_early = record { peer = p; mark = mark_early } ∷ []
kept_mark t p mark_open = record { peer = p; mark = mark_open } ∷ []
kept_mark t p (mark_held end) = cond (ltb t end) (record { peer = p; mark = mark_held end } ∷ []) []

abbrev pub kept : ℕ → Entry → List Entry
kept t e = kept_mark t e.peer e.mark

-- a rule for the entry of one name; others stay
abbrev pub only : Peer → (Entry → List Entry) → Entry → List Entry
only p rule e = cond (named p e) (rule e) (e ∷ [])

abbrev pub removed : Entry → List Entry
removed e = []

abbrev pub completed : Entry → List Entry
completed e = record { peer = e.peer; mark = mark_open } ∷ []

-- plain is struck out, early is held until an end
abbrev pub reset_mark : ℕ → Peer → Mark → List Entry
reset_mark end p mark_plain = []
reset_mark end p mark_early = record { peer = p; mark = mark_held end } ∷ []
reset_mark end p mark_open = record { peer = p; mark = mark_open } ∷ []
reset_mark end p (mark_held e) = record { peer = p; mark = mark_held e } ∷ []

abbrev pub was_reset : ℕ → Entry → List Entry
was_reset end e = reset_mark end e.peer e.mark

abbrev pub with : Journal → List Entry → Journal
with j entries = record { time = j.time; settings = j.settings; present = j.present; previous = j.previous; entries = entries }

abbrev pub amended : Journal → Peer → (Entry → List Entry) → Journal
amended j p rule = with j (amend (only p rule) j.entries)

-- Openings

-- under the key before the present one, if there is one: the journal's own rule
abbrev pub was_right : Option (List ℕ) → List ℕ → Carried → Bool
was_right None b o = false
was_right (Some k) b o = right_under (key_expansion k) b o

-- the cookie, of the option that counts under the settings in force, is the one for the address under the present key, or under the previous one
unfoldable pub has_right : Journal → List ℕ → List ℕ → Bool
has_right j src seg =
    let o = carried_by (settings_of j).codings seg in
    right_under (key_expansion j.present) (block src) o || was_right j.previous (block src) o

-- the terms for an early opening: on, below the limit so far, its address below the share so far, a right cookie
unfoldable pub opens_early : Journal → List ℕ → List ℕ → Bool
opens_early j src seg = (settings_of j).on && (ltb (pending_of j) (settings_of j).limit && (ltb (pending_of_address j src) (settings_of j).share && has_right j src seg))

abbrev pub new_mark : Bool → Mark
new_mark true = mark_early
new_mark false = mark_plain

-- a name with an entry is a repeat; another gets one
abbrev pub opened : Bool → Journal → List ℕ → List ℕ → Journal
opened true j src seg = j
opened false j src seg = with j (record { peer = sender src seg; mark = new_mark (opens_early j src seg) } ∷ j.entries)

-- One call

-- the journal at a call's time: holds that have run out are gone
abbrev pub at_time : ℕ → Journal → Journal
at_time t j =
    record { time = t; settings = j.settings; present = j.present; previous = j.previous; entries = amend (kept t) j.entries }

unfoldable pub segment_noted : Journal → List ℕ → List ℕ → Kind → Journal
segment_noted j src seg Syn = opened (has (sender src seg) j.entries) j src seg
segment_noted j src seg Ack = amended j (sender src seg) completed
segment_noted j src seg Rst = amended j (sender src seg) (was_reset (j.time + (settings_of j).hold))
segment_noted j src seg Other = j

unfoldable pub noted : Journal → Call → Journal
noted j (segment t src seg iss out_len) = segment_noted j src seg (kind_of (fields_of seg).flags)
noted j (settings t g) = record { time = j.time; settings = g; present = j.present; previous = j.previous; entries = j.entries }
noted j (key t k) = record { time = j.time; settings = j.settings; present = k; previous = Some j.present; entries = j.entries }
noted j (abandon t a p) = amended j (record { address = a; port = p }) removed
noted j (resend t a p out_len) = j
noted j (close t a p) = amended j (record { address = a; port = p }) removed

-- a call and the number that it returned: a refused one leaves the journal as it is
unfoldable pub feed : Journal → Call → ℕ → Journal
feed j c zero = noted (at_time (time_of c) j) c
feed j c (suc n) = j

-- What it decides of a call: the verdict, the accepted count and the accepted part, that many bytes from the payload's start.
pub record Decision : Type 0 where
  pub verdict : Verdict
  pub accepted : ℕ
  pub part : List ℕ

abbrev pub no_decision : Decision
no_decision = record { verdict = no_verdict; accepted = 0; part = [] }

-- only an early one accepts bytes, up to the early room
abbrev pub new_decision : Bool → Journal → List ℕ → Decision
new_decision true j seg =
    let n = min (length (payload_of seg)) (settings_of j).early_room in
    record { verdict = early; accepted = n; part = take n (payload_of seg) }
new_decision false j seg = record { verdict = plain; accepted = 0; part = [] }

abbrev pub opening_decision : Bool → Journal → List ℕ → List ℕ → Decision
opening_decision true j src seg = record { verdict = repeat; accepted = 0; part = [] }
opening_decision false j src seg = new_decision (opens_early j src seg) j seg

unfoldable pub segment_decision : Journal → List ℕ → List ℕ → Kind → Decision
segment_decision j src seg Syn = opening_decision (has (sender src seg) j.entries) j src seg
segment_decision j src seg Ack = no_decision
segment_decision j src seg Rst = no_decision
segment_decision j src seg Other = no_decision

unfoldable pub done_decision : Journal → Call → Decision
done_decision j (segment t src seg iss out_len) = segment_decision j src seg (kind_of (fields_of seg).flags)
done_decision j (settings t g) = no_decision
done_decision j (key t k) = no_decision
done_decision j (abandon t a p) = no_decision
done_decision j (resend t a p out_len) = no_decision
done_decision j (close t a p) = no_decision

unfoldable pub journal_decision : Journal → Call → ℕ → Decision
journal_decision j c zero = done_decision (at_time (time_of c) j) c
journal_decision j c (suc n) = no_decision
