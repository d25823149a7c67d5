-- An opening that is not refused can be written, and how many bytes it has. Assumes nothing.
use Rattle.std.specs.Prelude.{Option}
use Rattle.segment.specs.Refusal.{all_clear}
use Prim.Native.Nat.{ℕ, ◌+◌}
use mathlib.Core.Path.{◌≡◌, ap, ◌∙◌}
use mathlib.Core.Bool.{Bool, true, not}
use mathlib.Core.List.{List}
use native.Mathlib.Omega.{arith}
use lib.ListN.{length, take}
use lib.Seq.{length-take-le}
use borrow.Author.Tests.{ltb-false, not-false}
use Rattle.segment.specs.declared.options.Coding.TheVariants.{New}
use Rattle.segment.specs.Write.{option_allowed, option_bytes, can_write, opening_fields}
use Rattle.segment.proofs.Exchange.{opening_can, opening-length}
use Rattle.endpoint.proofs.Blocks.{one_family_lem}
use Rattle.client.specs.Cache.{stored_cookie, cookie_length, cookie_of}
use Rattle.client.specs.Call.{connect, count_of}
use Rattle.client.specs.Refusals.{call_check}
use Rattle.client.specs.Step.{sent_with, opening_for, banned_for, stored_for, step}
use Rattle.client.specs.declared.outcome.ActiveOpen.{ActiveOpen}
use Rattle.client.specs.declared.outcome.Outcome.{Outcome}
use Rattle.client.specs.declared.cache.Entry.{Entry}
use Rattle.client.specs.declared.state.Memory.{Memory}
use Rattle.client.proofs.Step.{step-done}
use Rattle.client.proofs.After.{cookie-most, length_allowed, sent-most}
use Rattle.client.proofs.Answer.{clear-passed}

-- a stored cookie may stand in a Fast Open option
cookie_allowed : (fast : Bool) (e : Option Entry) → length (stored_cookie e).bytes ≡ 16 → option_allowed fast (length (cookie_of e)) ≡ true
cookie_allowed fast e h =
    rw (length-take-le (cookie_length e) (stored_cookie e).bytes (omega (arith, cookie-most e))) (length_allowed fast e)

module _ (m : Memory) (t : ℕ) (own server : List ℕ) (o : ActiveOpen) (offered : List ℕ) (out_len : ℕ) where
  abbrev banned : Bool
  banned = banned_for m t server o

  abbrev entry : Option Entry
  entry = stored_for m server

  abbrev sent : ℕ
  sent = sent_with m.family banned entry (length offered)

  -- the count that is told is that of the data
  pub sent_told : call_check m (connect t own server o offered out_len) ≡ all_clear → count_of (step m (connect t own server o offered out_len)).event ≡ sent
  sent_told clear = ap (λ (x : Outcome). count_of x.event) (step-done m (connect t own server o offered out_len) clear)

  module _ (h : length (stored_cookie entry).bytes ≡ 16) (clear : call_check m (connect t own server o offered out_len) ≡ all_clear) where
    data_length : length (take sent offered) ≡ sent
    data_length = length-take-le sent offered (sent-most m.family banned entry (length offered)).0

    -- an opening that is not refused can be written
    pub opening_ready : can_write own server (opening_fields (opening_for banned o)) (cookie_of entry) (take sent offered) out_len ≡ true
    opening_ready =
        let p = clear-passed m (connect t own server o offered out_len) clear in
        let alike = one_family_lem m.family own server (not-false _ p.1.1.0) (not-false _ p.1.1.1.0) in
        let most = (sent-most m.family banned entry (length offered)).1 in
        opening_can own server (opening_for banned o) (cookie_of entry) (take sent offered) out_len alike (cookie_allowed (not banned) entry h)
        (omega (arith, data_length, most)) (ltb-false out_len 1504 p.1.1.1.1.0)

    -- and is written whole: the header, its options, and the data that is sent
    pub opening-written : (step m (connect t own server o offered out_len)).written ≡ 20 + length (option_bytes o.mss (not banned) New (cookie_of entry)) + sent
    opening-written =
        rw (step-done m (connect t own server o offered out_len) clear)
        (opening-length own server (opening_for banned o) (cookie_of entry) (take sent offered) out_len opening_ready ∙ rw data_length)
