-- Document 01, "Client", and document 02, Items 4, 7 and 9: the start, and one call on a memory with its outcome: the memory next, what happened, what is written and what is remarked.
-- Assumes nothing.
use Rattle.std.specs.Prelude.{ℕ, min, List, [], ◌∷◌, Bool, true, false, cond, not, ◌&&◌, ◌||◌, eqb, length, take, replicate, Err, Ok, None, Option, is_some}
use Rattle.segment.specs.Refusal.{Checks, refusal, Check, all_clear}
use Rattle.segment.specs.Header.{fields_of, option_area}
use Rattle.segment.specs.Options.{options_of, cookie_bytes}
use Rattle.segment.specs.Remarks.{no_remarks, remarks_of}
use Rattle.segment.specs.Write.{opening_bytes}
use Rattle.segment.specs.declared.refusal.Refusal.TheVariants.{Address}
use Rattle.segment.specs.declared.options.Codings.{Codings}
use Rattle.segment.specs.declared.options.FastOpenOption.{FastOpenOption}
use Rattle.segment.specs.declared.options.FastOpenOption.TheVariants.{Absent, Request, Cookie}
use Rattle.segment.specs.declared.options.Options.{Options}
use Rattle.segment.specs.declared.options.Remarks.{Remarks}
use Rattle.segment.specs.declared.write.Opening.{Opening}
use Rattle.endpoint.specs.Address.{is_size, family_of, block}
use Rattle.endpoint.specs.declared.address.Family.{Family}
use Rattle.endpoint.specs.declared.address.Family.TheVariants.{V4}
use Rattle.client.specs.Cache.{place_count, entry_for, cookie_length, cookie_of, data_room, learned_from, remembered}
use Rattle.client.specs.Bans.{zero_ban, is_banned, add_ban}
use Rattle.client.specs.Call.{Call, connect, answer, failed}
use Rattle.client.specs.Refusals.{count_in, call_check}
use Rattle.client.specs.declared.outcome.ActiveOpen.{ActiveOpen}
use Rattle.client.specs.declared.outcome.Attempt.{Attempt}
use Rattle.client.specs.declared.outcome.Event.{Event}
use Rattle.client.specs.declared.outcome.Event.TheVariants as events
use Rattle.client.specs.declared.outcome.Outcome.{Outcome}
use Rattle.client.specs.declared.outcome.Started.{Started}
use Rattle.client.specs.declared.bans.Ban.{Ban}
use Rattle.client.specs.declared.cache.Entry.{Entry}
use Rattle.client.specs.declared.state.Memory.{Memory}

-- The start

-- nothing stored, no ban, time 0
abbrev pub blank : Bool → Family → Memory
blank started f = record { cache = replicate place_count None; bans = replicate place_count zero_ban; started = started; family = f; clock = 0 }

-- a memory that was never started: every call on it returns 13
abbrev pub never_started : Memory
never_started = blank false V4

abbrev pub start_checks : ℕ → Checks
start_checks n = (Address, not (is_size n)) ∷ []

abbrev pub started_by : ℕ → Check → Started
started_by n (Ok _) = record { memory = blank true (family_of n); check = all_clear }
started_by n (Err r) = record { memory = never_started; check = Err r }

-- a memory is started for the family whose addresses have n bytes
unfoldable pub start_of : ℕ → Started
start_of n = started_by n (refusal (start_checks n))

-- An opening

-- how many of the bytes offered are sent: none where the server is banned or no cookie is stored
abbrev pub sent_with : Family → Bool → Option Entry → ℕ → ℕ
sent_with f banned e offered = cond (banned || eqb (cookie_length e) 0) 0 (min offered (data_room f e))

-- a banned server gets no Fast Open option; without a cookie the option is a request
abbrev pub opening_for : Bool → ActiveOpen → Opening
opening_for banned o = record { source = o.source; dest = o.dest; iss = o.iss; mss = o.mss; fast = not banned }

abbrev pub opening_with : Family → Bool → Option Entry → List ℕ → List ℕ → ActiveOpen → List ℕ → ℕ → List ℕ
opening_with f banned e own server o offered out_len =
    opening_bytes own server (opening_for banned o) (cookie_of e) (take (sent_with f banned e (length offered)) offered) out_len

-- An answer

-- the options that count, under the codings given with the answer, and what they bring: a cookie, empty for none, and an MSS
abbrev pub options_in : Codings → List ℕ → Options
options_in g seg = options_of g seg

abbrev pub cookie_in : Codings → List ℕ → List ℕ
cookie_in g seg = cookie_bytes (options_in g seg).fast (option_area seg)

abbrev pub mss_in : Codings → List ℕ → Option ℕ
mss_in g seg = (options_in g seg).mss

-- a cookie that is not empty, or an MSS
abbrev pub brings : List ℕ → Option ℕ → Bool
brings cookie mss = not (eqb (length cookie) 0) || is_some mss

-- an answer that brings either makes its address the most recent
abbrev pub cache_after : List ℕ → List ℕ → Option ℕ → List (Option Entry) → List (Option Entry)
cache_after b cookie mss es = cond (brings cookie mss) (remembered (learned_from (entry_for b es) b cookie mss) es) es

-- data was sent and none acknowledged
abbrev pub is_unacknowledged : ℕ → ℕ → Bool
is_unacknowledged sent count = not (eqb sent 0) && eqb count 0

-- an answer sets a ban if it is a negative response: data was sent, none of it is acknowledged, and no cookie comes, or an empty one (02, Item 9)
abbrev pub is_negative : Codings → Attempt → List ℕ → Bool
is_negative g a seg = is_unacknowledged a.sent (count_in a (fields_of seg)) && eqb (length (cookie_in g seg)) 0

-- for the code: a cookie that is not empty comes, by the option that counts (law `cookie_told`)
abbrev pub has_cookie : FastOpenOption → Bool
has_cookie Absent = false
has_cookie (Request coding) = false
has_cookie (Cookie coding at len) = true

abbrev pub bans_after : ℕ → List ℕ → ℕ → Bool → List Ban → List Ban
bans_after t b port negative bans = cond negative (add_ban t b port bans) bans

-- A done call

-- the memory at a time, with this cache and these bans
abbrev pub moved : Memory → ℕ → List (Option Entry) → List Ban → Memory
moved m t es bans = record { cache = es; bans = bans; started = m.started; family = m.family; clock = t }

unfoldable pub after : Memory → Call → Memory
after m (connect t own server o offered out_len) = moved m t m.cache m.bans
after m (answer t own server a seg g) =
    moved m t (cache_after (block server) (cookie_in g seg) (mss_in g seg) m.cache)
    (bans_after t (block server) a.dest (is_negative g a seg) m.bans)
after m (failed t server port) = moved m t m.cache (add_ban t (block server) port m.bans)

-- whether the server of an opening is banned at its time, and what is stored for it
abbrev pub banned_for : Memory → ℕ → List ℕ → ActiveOpen → Bool
banned_for m t server o = is_banned t (block server) o.dest m.bans

abbrev pub stored_for : Memory → List ℕ → Option Entry
stored_for m server = entry_for (block server) m.cache

abbrev pub done_event : Memory → Call → Event
done_event m (connect t own server o offered out_len) = events.Opened (sent_with m.family (banned_for m t server o) (stored_for m server) (length offered))
done_event m (answer t own server a seg g) = events.Answered (count_in a (fields_of seg))
done_event m (failed t server port) = events.Reported

abbrev pub done_output : Memory → Call → List ℕ
done_output m (connect t own server o offered out_len) = opening_with m.family (banned_for m t server o) (stored_for m server) own server o offered out_len
done_output m (answer t own server a seg g) = []
done_output m (failed t server port) = []

-- what is remarked on an answer's options, under the codings given with it (02, Item 7)
abbrev pub done_remarks : Call → Remarks
done_remarks (connect t own server o offered out_len) = no_remarks
done_remarks (answer t own server a seg g) = remarks_of g seg
done_remarks (failed t server port) = no_remarks

-- A call: refused, it changes nothing

abbrev pub outcome : Memory → Event → ℕ → Remarks → Outcome
outcome m e n r = record { memory = m; event = e; written = n; remarks = r }

abbrev pub outcome_of : Memory → Call → Check → Outcome
outcome_of m c (Ok _) = outcome (after m c) (done_event m c) (length (done_output m c)) (done_remarks c)
outcome_of m c (Err r) = outcome m (events.Refused r) 0 no_remarks

unfoldable pub step : Memory → Call → Outcome
step m c = outcome_of m c (call_check m c)

abbrev pub output_if : Memory → Call → Check → List ℕ
output_if m c (Ok _) = done_output m c
output_if m c (Err r) = []

-- what a call writes at the output's start
unfoldable pub output_of : Memory → Call → List ℕ
output_of m c = output_if m c (call_check m c)
