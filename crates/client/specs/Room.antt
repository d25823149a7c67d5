-- Document 02, Item 2: options and data of an opening fit the server's MSS together, or no data goes.
-- Assumes nothing.
use Rattle.std.specs.Prelude.{ℕ, ◌+◌, ◌≤◌, ◌<◌, ◌≡◌, List, false, length, take, replicate, None, Option, Some}
use Rattle.segment.specs.Refusal.{all_clear}
use Rattle.segment.specs.Write.{segment_bytes, options_for, opening_fields}
use Rattle.segment.specs.declared.write.Opening.{Opening}
use Rattle.endpoint.specs.declared.address.Family.TheVariants.{V4, V6}
use Rattle.client.specs.Cache.{stored_cookie, cookie_of, mss_cap, mss_for}
use Rattle.client.specs.Call.{Call, connect, count_of}
use Rattle.client.specs.Refusals.{call_check}
use Rattle.client.specs.Step.{sent_with, opening_for, banned_for, stored_for, step, output_of}
use Rattle.client.specs.declared.outcome.ActiveOpen.{ActiveOpen}
use Rattle.client.specs.declared.cache.Entry.{Entry}
use Rattle.client.specs.declared.state.Memory.{Memory}

module _ (m : Memory) (t : ℕ) (own server : List ℕ) (o : ActiveOpen) (offered : List ℕ) (out_len : ℕ) where
  abbrev pub opening : Call
  opening = connect t own server o offered out_len

  -- the fields and the options that are written, how many bytes of data are sent, and the MSS of the server
  abbrev pub fields : Opening
  fields = opening_for (banned_for m t server o) o

  abbrev pub options : List ℕ
  options = options_for (opening_fields fields) (cookie_of (stored_for m server))

  abbrev pub sent : ℕ
  sent = count_of (step m opening).event

  abbrev pub mss : ℕ
  mss = mss_for m.family (stored_for m server)

  pub record LeavesRoom : Type 0 where
    -- the options go out whole, whatever the MSS is: with the stored cookie in them, unless the server is banned
    pub written : output_of m opening ≡ segment_bytes own server (opening_fields fields) options (take sent offered)
    -- where they fit the MSS, the data does beside them
    pub beside : length options ≤ mss → sent + length options ≤ mss
    -- where they do not, there is no data
    pub none : mss < length options → sent ≡ 0
    -- so no opening is longer than a header and the cap: 1,480 bytes, 1,460 for IPv6
    pub most : (step m opening).written ≤ 20 + mss_cap m.family

-- every opening that is not refused; that 16 bytes are kept for a cookie is so by their type
abbrev pub RoomForOptions : Type 0
RoomForOptions =
    (m : Memory) (t : ℕ) (own server : List ℕ) (o : ActiveOpen) (offered : List ℕ) (out_len : ℕ)
    → length (stored_cookie (stored_for m server)).bytes ≡ 16 → call_check m (connect t own server o offered out_len) ≡ all_clear
    → LeavesRoom m t own server o offered out_len

-- Worked examples: what is sent of 1,460 bytes, by the cookie's length and the stored MSS

abbrev pub storing : ℕ → Option ℕ → Option Entry
storing n mss = Some (record { addr = replicate 16 0; cookie = record { bytes = replicate 16 0; len = n }; mss = mss })

pub record RoomExamples : Type 0 where
  pub v4_stored : sent_with V4 false (storing 8 (Some 1460)) 1460 ≡ 1444
  pub v4_stored_536 : sent_with V4 false (storing 8 (Some 536)) 1460 ≡ 520
  pub v4_default : sent_with V4 false (storing 8 None) 1460 ≡ 520
  pub v6_stored : sent_with V6 false (storing 8 (Some 1440)) 1460 ≡ 1424
  pub v6_capped : sent_with V6 false (storing 8 (Some 1460)) 1460 ≡ 1424
  pub v6_default : sent_with V6 false (storing 8 None) 1460 ≡ 1204
  pub shortest_cookie : sent_with V4 false (storing 4 (Some 1460)) 1460 ≡ 1448
  pub longest-cookie : sent_with V4 false (storing 16 (Some 1460)) 1460 ≡ 1436
  pub one_left : sent_with V4 false (storing 8 (Some 17)) 1460 ≡ 1
  pub none_left : sent_with V4 false (storing 8 (Some 16)) 1460 ≡ 0
  pub too_small : sent_with V4 false (storing 8 (Some 15)) 1460 ≡ 0
