-- Options and data of an opening fit the server's MSS together, or no data goes. Assumes nothing.
use Rattle.std.specs.Prelude.{Option}
use Rattle.segment.specs.Refusal.{all_clear}
use Prim.Native.Nat.{ℕ, ◌-◌, ◌≤◌}
use mathlib.Core.Path.{◌≡◌, refl, ◌∙◌}
use mathlib.Core.Bool.{Bool, not}
use mathlib.Core.List.{List}
use native.Mathlib.Omega.{arith}
use lib.ListN.{length}
use lib.Seq.{length-take-le}
use Rattle.segment.specs.Options.{is_cookie_length}
use Rattle.segment.specs.declared.options.Coding.TheVariants.{New}
use Rattle.segment.specs.Write.{option_length, option_bytes}
use Rattle.segment.proofs.Writes.{options-length}
use Rattle.segment.proofs.Written.{length_most}
use Rattle.segment.proofs.Exchange.{opening_whole}
use Rattle.endpoint.specs.declared.address.Family.{Family}
use Rattle.endpoint.specs.declared.address.Family.TheVariants.{V4, V6}
use Rattle.client.specs.Cache.{stored_cookie, cookie_length, cookie_of, mss_cap, mss_for, data_room}
use Rattle.client.specs.Refusals.{call_check}
use Rattle.client.specs.Room.{opening, fields, options, sent, LeavesRoom, RoomForOptions, RoomExamples}
use Rattle.client.specs.Step.{sent_with, banned_for, stored_for}
use Rattle.client.specs.declared.outcome.ActiveOpen.{ActiveOpen}
use Rattle.client.specs.declared.cache.Entry.{Entry}
use Rattle.client.specs.declared.state.Memory.{Memory}
use Rattle.client.proofs.After.{cookie-most, length_allowed, sent-left}
use Rattle.client.proofs.Openings.{sent_told, opening_ready, opening-written}
use Rattle.client.proofs.Step.{output-done}

-- the longest options are below the cap
cap_least : (f : Family) → 24 ≤ mss_cap f
cap_least V4 = omega arith
cap_least V6 = omega arith

module _ (m : Memory) (t : ℕ) (own server : List ℕ) (o : ActiveOpen) (offered : List ℕ) (out_len : ℕ)
    (h : length (stored_cookie (stored_for m server)).bytes ≡ 16) (clear : call_check m (opening m t own server o offered out_len) ≡ all_clear) where
  abbrev banned : Bool
  banned = banned_for m t server o

  abbrev entry : Option Entry
  entry = stored_for m server

  sent_is : sent m t own server o offered out_len ≡ sent_with m.family banned entry (length offered)
  sent_is = sent_told m t own server o offered out_len clear

  options_are : length (options m t own server o offered out_len) ≡ option_length (not banned) New (cookie_length entry)
  options_are = options-length o.mss (not banned) New (cookie_of entry) ∙ rw (length-take-le (cookie_length entry) (stored_cookie entry).bytes (omega (arith, cookie-most entry)))

  left : sent m t own server o offered out_len ≤ mss_for m.family entry - length (options m t own server o offered out_len)
  left = omega (arith, sent_is, options_are, sent-left m.family banned entry (length offered))

  leaves_room : LeavesRoom m t own server o offered out_len
  leaves_room =
      let ready = opening_ready m t own server o offered out_len h clear in
      let short = length_most (not banned) New (cookie_length entry) (length_allowed (not banned) entry) in
      record {
        written =
            rw sent_is
            (output-done m (opening m t own server o offered out_len) clear ∙ opening_whole own server (fields m t own server o offered out_len) (cookie_of entry) _ out_len ready);
        beside = λ k. omega (arith, left);
        none = λ k. omega (arith, left);
        most = omega (arith, opening-written m t own server o offered out_len h clear, options_are, short, cap_least m.family, left, sent_is);
      }

pub room_for_options : RoomForOptions
room_for_options = leaves_room

-- The examples, computed

pub room_examples : RoomExamples
unfolding data_room option_length option_bytes is_cookie_length
room_examples =
    record {
      v4_stored = refl;
      v4_stored_536 = refl;
      v4_default = refl;
      v6_stored = refl;
      v6_capped = refl;
      v6_default = refl;
      shortest_cookie = refl;
      longest-cookie = refl;
      one_left = refl;
      none_left = refl;
      too_small = refl;
    }
