-- Laws for a crate above: a call that is clear, a header that answers an attempt, what an answer stores, and when it sets a ban. Assumes nothing.
use Rattle.std.specs.Prelude.{Option, Some}
use Prim.Native.Nat.{ℕ, ◌≤◌, ◌<◌}
use mathlib.Core.Path.{◌≡◌, refl}
use mathlib.Core.Bool.{true, not, or-true, and-false}
use mathlib.Core.List.{List}
use native.Mathlib.Omega.{arith}
use lib.Dec.{leb, eqb}
use lib.ListN.{length}
use borrow.Author.Tests.{leb-true, eq-eqb, ne_eqb}
use Rattle.segment.specs.Refusal.{refusal, all_clear}
use Rattle.segment.specs.Header.{fields_of}
use Rattle.segment.specs.Options.{is_cookie_length}
use Rattle.segment.specs.declared.options.Codings.{Codings}
use Rattle.segment.specs.declared.header.Header.{Header}
use Rattle.lists.proofs.Bools.{and_true}
use Rattle.endpoint.specs.Address.{block}
use Rattle.endpoint.proofs.Clear.{Passed, every-check}
use Rattle.lists.proofs.SameBytes.{same_bytes_refl}
use Rattle.endpoint.proofs.Names.{short}
use Rattle.client.specs.Cache.{is_for, entry_for, stored_mss, cookie_of}
use Rattle.client.specs.Bans.{add_ban}
use Rattle.client.specs.Call.{Call, answer}
use Rattle.client.specs.Refusals.{is_mss, is_between, count_in, checks, call_check}
use Rattle.client.specs.Step.{cookie_in, mss_in, cache_after, is_unacknowledged, stored_for, after}
use Rattle.client.specs.declared.outcome.Attempt.{Attempt}
use Rattle.client.specs.declared.cache.Entry.{Entry}
use Rattle.client.specs.declared.state.Memory.{Memory}
use Rattle.client.proofs.After.{length_some}

module _ (m : Memory) (c : Call) where
  -- of a clear call no check applies, and a call is clear where its checks are
  pub clear-passed : call_check m c ≡ all_clear → Passed (checks m c)
  unfolding call_check
  clear-passed e = every-check (checks m c) e

  pub passed-clear : refusal (checks m c) ≡ all_clear → call_check m c ≡ all_clear
  unfolding call_check
  passed-clear e = e

-- own MSS, where it is not refused 12
pub mss-most : (mss : ℕ) → is_mss mss ≡ true → mss ≤ 1460
unfolding is_mss
mss-most mss e = leb-true mss 1460 (and_true (leb 536 mss) (leb mss 1460) e).1

-- a header with the attempt's ports, the other way round, is not refused 4
pub between : (a : Attempt) (h : Header) → h.source ≡ a.dest → h.dest ≡ a.source → is_between a h ≡ true
unfolding is_between
between a h s d = rw (eq-eqb h.source a.dest s, eq-eqb h.dest a.source d)

-- a cookie that comes is the one that is stored then for the address
cookie-learned : (b c : List ℕ) (mss : Option ℕ) (es : List (Option Entry)) → is_cookie_length (length c) ≡ true → cookie_of (entry_for b (cache_after b c mss es)) ≡ c
unfolding is_for
cookie-learned b c mss es e = rw (length_some (length c) e, same_bytes_refl b, e) (short (length c) c refl)

pub cookie-stored : (m : Memory) (t : ℕ) (own server : List ℕ) (a : Attempt) (seg : List ℕ) (g : Codings) → is_cookie_length (length (cookie_in g seg)) ≡ true
    → cookie_of (stored_for (after m (answer t own server a seg g)) server) ≡ cookie_in g seg
unfolding after
cookie-stored m t own server a seg g e = cookie-learned (block server) (cookie_in g seg) (mss_in g seg) m.cache e

-- and no ban is set, whatever is acknowledged
pub cookie_no_ban : (m : Memory) (t : ℕ) (own server : List ℕ) (a : Attempt) (seg : List ℕ) (g : Codings) → is_cookie_length (length (cookie_in g seg)) ≡ true
    → (after m (answer t own server a seg g)).bans ≡ m.bans
unfolding after
cookie_no_ban m t own server a seg g e = rw (length_some (length (cookie_in g seg)) e, and-false (is_unacknowledged a.sent (count_in a (fields_of seg))))

-- without one it is set, where data was sent and none is acknowledged
pub negative_ban : (m : Memory) (t : ℕ) (own server : List ℕ) (a : Attempt) (seg : List ℕ) (g : Codings) → 0 < a.sent → count_in a (fields_of seg) ≡ 0 → length (cookie_in g seg) ≡ 0
    → (after m (answer t own server a seg g)).bans ≡ add_ban t (block server) a.dest m.bans
unfolding after
negative_ban m t own server a seg g s z e = rw (ne_eqb a.sent 0 (λ n. omega (arith, s, n)), eq-eqb _ _ z, eq-eqb _ _ e)

-- an MSS that comes is stored, too
mss-learned : (b c : List ℕ) (v : ℕ) (es : List (Option Entry)) → stored_mss (entry_for b (cache_after b c (Some v) es)) ≡ Some v
unfolding is_for
mss-learned b c v es = rw (or-true (not (eqb (length c) 0)), same_bytes_refl b)

pub mss-stored : (m : Memory) (t : ℕ) (own server : List ℕ) (a : Attempt) (seg : List ℕ) (g : Codings) (v : ℕ) → mss_in g seg ≡ Some v
    → stored_mss (stored_for (after m (answer t own server a seg g)) server) ≡ Some v
unfolding after
mss-stored m t own server a seg g v e = rw e (mss-learned (block server) (cookie_in g seg) v m.cache)
