-- From the start a comparison comes to the finding on both whole captures. Assumes nothing.
use Rattle.std.specs.Prelude.{Option, None, Some}
use Rattle.std.proofs.Common.{◌≡◌, ℕ, suc, ◌+◌, ◌-◌, ◌*◌, ◌^◌, ◌<◌, ◌≤◌, List, [], ◌∷◌, length, take, drop, sym, refl, ap, ◌∙◌, ap₂, zero-add, arith}
use lib.Seq.{sets, sets-eq}
use Rattle.std.proofs.lemmas.List.{length-take}
use Rattle.lists.specs.Bytes.{overwrite}
use Rattle.protocol.specs.Call.{Call}
use Rattle.protocol.specs.Step.{step}
use Rattle.protocol.specs.declared.state.LocalEndpoint.{LocalEndpoint}
use Rattle.protocol.specs.declared.state.Listener.{Listener}
use Rattle.pcap.specs.Records.{Recorded, capture}
use Rattle.pcap.specs.Walker.{Counts}
use Rattle.pcap.specs.Walker as walker
use Rattle.pcap.proofs.Windows.{walked, fewer}
use Rattle.walk.specs.Feed.{call_of}
use Rattle.walk.specs.Walk.{before, calls_of}
use Rattle.comparison.specs.Account.{judged, lent, Account, account_of}
use Rattle.comparison.specs.Listing.{Entry, fresh, entries, numbers_of, fitting}
use Rattle.comparison.specs.Compared.{differences, finding_of, listed_in}
use Rattle.comparison.specs.Site.{new_site}
use Rattle.comparison.specs.Lockstep.{new_comparison}
use Rattle.comparison.specs.ToCome.{rest_of, tally_all, list_all, fed_all, Ending, ending_from}
use Rattle.comparison.proofs.Rest.{at-start}
use Rattle.comparison.proofs.Closed.{closed, fed_all_lem}

-- an entry is two numbers
pub length_numbers : (es : List Entry) → length (numbers_of es) ≡ 2 * length es
length_numbers [] = refl
length_numbers (e ∷ es) = omega (arith, length_numbers es)

-- so those that fit are within the room
pub within : (es : List Entry) (n : ℕ) → length (numbers_of (take (fitting n) es)) ≤ n
within es n = omega (arith, length_numbers (take (fitting n) es), length-take (fitting n) es)

-- the finding and the room, of two accounts
abbrev pub found : Account → Account → List ℕ → Ending
found a b list = record { finding = finding_of a b (length list); list = listed_in a b list }

pub closes : (l : Listener) (list : List ℕ) (a b : Account) → length a.answers < 2 ^ 64 → length b.answers < 2 ^ 64
    → ending_from (length list) (new_comparison l) list a b ≡ found a b list
unfolding finding_of listed_in differences
closes l list a b ha hb =
    let n = length list in
    let es = entries 0 a.answers b.answers in
    let k = closed a.answers b.answers n fresh list 0 (record { size = refl; pairs = refl; remaining = omega arith }) (omega arith) (omega arith) in
    let z : fitting n - 0 ≡ fitting n = omega arith in
    let listed : (tally_all n fresh a.answers b.answers).listed ≡ length (take (fitting n) es) = k.listed ∙ rw (zero-add, z) in
    let remaining : (tally_all n fresh a.answers b.answers).remaining ≡ length (drop (fitting n) es) = k.remaining ∙ rw (zero-add, z) in
    let numbers : list_all n fresh list a.answers b.answers ≡ overwrite (numbers_of (take (fitting n) es)) list =
    k.numbers ∙ ap (λ (m : ℕ). sets list 0 (numbers_of (take m es))) z ∙ sets-eq (numbers_of (take (fitting n) es)) list 0 (omega (arith, within es n)) ∙ rw zero-add in
    let fed1 : fed_all 0 a.answers ≡ length a.answers = fed_all_lem a.answers 0 (omega arith) ∙ rw zero-add in
    let fed2 : fed_all 0 b.answers ≡ length b.answers = fed_all_lem b.answers 0 (omega arith) ∙ rw zero-add in
    rw (listed, remaining, fed1, fed2, numbers)

-- There are no more answers than bytes

length-judged : (cs : List Call) (l : Listener) → length (judged l cs) ≡ length cs
unfolding judged
length-judged [] l = refl
length-judged (c ∷ cs) l = ap suc (length-judged cs (step l c).listener)

fewer_calls : (rs : List Recorded) (local : LocalEndpoint) (place : ℕ) → length (calls_of local place rs lent) ≤ length rs
unfolding calls_of
fewer_calls [] local place = omega arith
fewer_calls (r ∷ rs) local place = go (call_of local place r.seconds r.micros r.packet lent) (fewer_calls rs local (place + 1))
  where
    go : (o : Option Call) → length (calls_of local (place + 1) rs lent) ≤ length rs → length (before o (calls_of local (place + 1) rs lent)) ≤ length (r ∷ rs)
    go None h = omega arith
    go (Some c) h = omega arith

fewer_answers : (l : Listener) (s : List ℕ) → length s < 2 ^ 64 → length (account_of l s).answers < 2 ^ 64
unfolding account_of
fewer_answers l s h =
    let rs = (capture s).records in
    let r : length (capture s).records ≤ length s = rw (sym (walked s h).0) (fewer s walker.fresh 0) in
    omega (arith, r, fewer_calls rs l.local 0, length-judged (calls_of l.local 0 rs lent) l)

-- at the start
pub whole : (l : Listener) (list first second : List ℕ) → length first < 2 ^ 64 → length second < 2 ^ 64
    → ending_from (length list) (new_comparison l) list (rest_of (new_site l) first) (rest_of (new_site l) second) ≡ found (account_of l first) (account_of l second) list
whole l list first second h1 h2 =
    ap₂ (ending_from (length list) (new_comparison l) list) (at-start l first h1) (at-start l second h2)
    ∙ closes l list (account_of l first) (account_of l second) (fewer_answers l first h1) (fewer_answers l second h2)

-- and the counts hold a capture of under 2^64 bytes
pub counts : (s : List ℕ) → length s < 2 ^ 64 → Counts walker.fresh (length s)
counts s h = record { records = omega arith; bytes = omega arith }
