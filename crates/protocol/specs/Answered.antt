-- Document 02, Items 4 and 7: the SYN-ACK to a new opening, as any end reads it that counts the coding of the opening's option.
-- Assumes nothing.
use Rattle.std.specs.Prelude.{ℕ, ◌+◌, ◌^◌, ◌<◌, ◌≡◌, true, false, List}
use Rattle.segment.specs.Refusal.{all_clear}
use Rattle.lists.specs.Bytes.{Bytes}
use Rattle.segment.specs.Header.{fields_of, kind_of, option_area}
use Rattle.segment.specs.Options.{prefix_length, counts_coding, options_of, cookie_bytes, coding_of}
use Rattle.segment.specs.Remarks.{no_remarks, remarks_of}
use Rattle.segment.specs.declared.header.Kind.TheVariants.{Syn}
use Rattle.segment.specs.declared.options.Coding.{Coding}
use Rattle.segment.specs.declared.options.Codings.{Codings}
use Rattle.segment.specs.declared.options.FastOpenOption.TheVariants.{Absent, Cookie}
use Rattle.endpoint.specs.Address.{block}
use Rattle.protocol.specs.Cookie.{cookie_under}
use Rattle.protocol.specs.Call.{Call, segment, sender}
use Rattle.protocol.specs.View.{known, own_address, view}
use Rattle.protocol.specs.Refusals.{call_check}
use Rattle.protocol.specs.Step.{is_fresh, step, output_of}
use Rattle.protocol.specs.declared.state.View.{View}
use Rattle.protocol.specs.declared.state.Listener.{Listener}

module _ (l : Listener) (t : ℕ) (src seg : List ℕ) (iss out_len : ℕ) where
  abbrev pub call : Call
  call = segment t src seg iss out_len

  abbrev pub seen : View
  seen = view l t (sender src seg)

  -- a new opening that is done; numbers and arrays are such as the call's types allow
  pub record DoneOpening : Type 0 where
    pub clear : call_check l call ≡ all_clear
    pub syn : kind_of (fields_of seg).flags ≡ Syn
    pub new : known seen ≡ false
    pub own-bytes : Bytes (own_address l.local)
    pub src_bytes : Bytes src
    pub key-bytes : Bytes l.keys.present
    pub port : l.local.port < 65536
    pub source : (fields_of seg).source < 65536
    pub number : iss < 2 ^ 32
    pub mss : l.settings.mss < 65536

  -- the coding of its option, and the SYN-ACK
  abbrev pub asked : Coding
  asked = coding_of (options_of l.settings.codings seg).fast

  abbrev pub reply : List ℕ
  reply = output_of l call

  pub record Answered : Type 0 where
    -- that coding counts under the listener's own setting
    pub counts : counts_coding l.settings.codings asked ≡ true
    -- with a fresh cookie: 36 bytes, and the cookie is found, in that coding
    pub size : is_fresh seen (block src) seg ≡ true → (step l call).written ≡ 36
    pub fresh : is_fresh seen (block src) seg ≡ true → (g : Codings) → counts_coding g asked ≡ true
        → ((options_of g reply).fast ≡ Cookie asked (4 + prefix_length asked) 8)
        × (cookie_bytes (options_of g reply).fast (option_area reply) ≡ cookie_under l.keys.present (block src))
    -- and nothing is remarked on its options but its place, behind the MSS
    pub place : is_fresh seen (block src) seg ≡ true → (g : Codings) → counts_coding g asked ≡ true → remarks_of g reply ≡ record { skipped = 0; used = 5; broken = 0 }
    -- without: 24 bytes, and no Fast Open option is found under either setting
    pub short : is_fresh seen (block src) seg ≡ false → (step l call).written ≡ 24
    pub none : is_fresh seen (block src) seg ≡ false → (g : Codings) → ((options_of g reply).fast ≡ Absent) × (remarks_of g reply ≡ no_remarks)
