-- The SYN-ACK and the opening, written by one end and read by the other. Assumes nothing.
use Rattle.std.proofs.Common.{◌≡◌, ℕ, ◌+◌, ◌^◌, ◌<◌, ◌≤◌, Bool, true, false, List, [], length, refl, ap, ◌∙◌, arith, ne_eqb, le-leb}
use Rattle.lists.specs.Bytes.{Bytes}
use Rattle.segment.specs.Header.{SYN, ACK, has, kind_of, is_syn_ack}
use Rattle.segment.specs.Options.{is_cookie_length, counts_coding}
use Rattle.segment.specs.Checksum.{one_family}
use Rattle.segment.specs.Sequence.{next_after, difference, acknowledged}
use Rattle.segment.specs.Write.{syn_ack_length, option_allowed, option_bytes, header_bytes, segment_with, segment_bytes, options_for, length_for, can_write, written, syn_ack_fields, syn_ack_bytes, opening_fields, opening_bytes}
use Rattle.segment.specs.declared.header.Kind.TheVariants.{Syn}
use Rattle.segment.specs.declared.options.Coding.{Coding}
use Rattle.segment.specs.declared.options.Coding.TheVariants.{New}
use Rattle.segment.specs.declared.options.Codings.{Codings}
use Rattle.segment.specs.declared.write.SynAck.{SynAck}
use Rattle.segment.specs.declared.write.Opening.{Opening}
use Rattle.segment.specs.declared.write.Outgoing.{Outgoing}
use Rattle.segment.proofs.Cookie.{Inside, cookie_length_back}
use Rattle.segment.proofs.Writes.{prefix_size, options_plain, options_fast}
use Rattle.segment.proofs.Written.{options-most, segment-length}
use Rattle.segment.proofs.ReadBack.{Fits, ReadBack, read_back}

-- Where the output is long enough

can_write_lem : (src dst : List ℕ) (f : Outgoing) (cookie payload : List ℕ) (out_len : ℕ) → one_family src dst ≡ true
    → option_allowed f.fast (length cookie) ≡ true → length_for f cookie payload ≤ 1520 → length_for f cookie payload ≤ out_len
    → can_write src dst f cookie payload out_len ≡ true
unfolding can_write
can_write_lem src dst f cookie payload out_len e s h r = rw (e, s, le-leb (length_for f cookie payload) 1520 h, le-leb (length_for f cookie payload) out_len r)

-- the options that a segment may have: a request, a cookie that was found in an area, and one of eight bytes
pub allowed_request : (fast : Bool) → option_allowed fast 0 ≡ true
unfolding option_allowed
allowed_request false = refl
allowed_request true = refl

pub allowed_found : (fast : Bool) (n at len : ℕ) → Inside n at len → option_allowed fast len ≡ true
unfolding option_allowed
allowed_found false n at len h = refl
allowed_found true n at len h =
    let c = h.size in
    rw (ne_eqb len 0 (λ e. omega arith), cookie_length_back len c)

pub allowed_eight : (fast : Bool) (n : ℕ) → n ≡ 8 → option_allowed fast n ≡ true
unfolding option_allowed is_cookie_length
allowed_eight false n e = refl
allowed_eight true n e = rw e

syn-ack-length : (a : SynAck) (cookie : List ℕ) → length cookie ≡ 8 → length_for (syn_ack_fields a) cookie [] ≡ syn_ack_length a.fresh
syn-ack-length a cookie h = go a.fresh
  where
    go : (b : Bool) → 20 + length (option_bytes a.mss b a.coding cookie) + 0 ≡ syn_ack_length b
    go false = omega (arith, options_plain a.mss a.coding cookie)
    go true = omega (arith, options_fast a.mss a.coding cookie, prefix_size a.coding)

syn-ack-most : (fresh : Bool) → syn_ack_length fresh ≤ 36
syn-ack-most false = omega arith
syn-ack-most true = omega arith

-- 36 bytes of output are enough for any SYN-ACK
pub syn_ack_can : (src dst : List ℕ) (a : SynAck) (cookie : List ℕ) (out_len : ℕ) → one_family src dst ≡ true → length cookie ≡ 8 → 36 ≤ out_len
    → can_write src dst (syn_ack_fields a) cookie [] out_len ≡ true
syn_ack_can src dst a cookie out_len e l r =
    let n = syn-ack-length a cookie l in
    let m = syn-ack-most a.fresh in
    can_write_lem src dst (syn_ack_fields a) cookie [] out_len e (allowed_eight a.fresh (length cookie) l) (omega arith) (omega arith)

-- and it has 24 or 36 of them
pub syn-ack-bytes : (src dst : List ℕ) (a : SynAck) (cookie : List ℕ) (out_len : ℕ) → one_family src dst ≡ true → length cookie ≡ 8 → 36 ≤ out_len
    → length (syn_ack_bytes src dst a cookie out_len) ≡ syn_ack_length a.fresh
unfolding syn_ack_bytes written
syn-ack-bytes src dst a cookie out_len e l r =
    rw (syn_ack_can src dst a cookie out_len e l r) (segment-length src dst (syn_ack_fields a) (options_for (syn_ack_fields a) cookie) [] ∙ syn-ack-length a cookie l)

-- where no cookie goes with it, it is the same whatever cookie and coding are at hand
abbrev pub in_coding : Coding → SynAck → SynAck
in_coding c a = record { source = a.source; dest = a.dest; iss = a.iss; irs = a.irs; accepted = a.accepted; mss = a.mss; fresh = a.fresh; coding = c }

pub syn-ack-without : (src dst : List ℕ) (a : SynAck) (x y : Coding) (c d : List ℕ) (out_len : ℕ) → a.fresh ≡ false
    → syn_ack_bytes src dst (in_coding x a) c out_len ≡ syn_ack_bytes src dst (in_coding y a) d out_len
unfolding syn_ack_bytes written can_write option_allowed option_bytes segment_bytes segment_with header_bytes
syn-ack-without src dst a x y c d out_len e = rw e

-- 1,504 are enough for any opening with a payload of up to 1,460 bytes
pub opening_can : (src dst : List ℕ) (o : Opening) (cookie payload : List ℕ) (out_len : ℕ) → one_family src dst ≡ true
    → option_allowed o.fast (length cookie) ≡ true → length payload ≤ 1460 → 1504 ≤ out_len
    → can_write src dst (opening_fields o) cookie payload out_len ≡ true
opening_can src dst o cookie payload out_len e s p r =
    let m = options-most o.mss o.fast New cookie s in
    can_write_lem src dst (opening_fields o) cookie payload out_len e s (omega arith) (omega arith)

-- and its options and payload stand in it whole
pub opening_whole : (src dst : List ℕ) (o : Opening) (cookie payload : List ℕ) (out_len : ℕ) → can_write src dst (opening_fields o) cookie payload out_len ≡ true
    → opening_bytes src dst o cookie payload out_len ≡ segment_bytes src dst (opening_fields o) (options_for (opening_fields o) cookie) payload
unfolding opening_bytes written
opening_whole src dst o cookie payload out_len can = rw can

pub opening-length : (src dst : List ℕ) (o : Opening) (cookie payload : List ℕ) (out_len : ℕ) → can_write src dst (opening_fields o) cookie payload out_len ≡ true
    → length (opening_bytes src dst o cookie payload out_len) ≡ length_for (opening_fields o) cookie payload
opening-length src dst o cookie payload out_len can =
    ap length (opening_whole src dst o cookie payload out_len can) ∙ segment-length src dst (opening_fields o) (options_for (opening_fields o) cookie) payload

-- Read by the other end

next_fits : (initial bytes : ℕ) → next_after initial bytes < 4294967296
unfolding next_after
next_fits initial bytes = omega arith

-- the fields of a SYN-ACK and of an opening fit, if their numbers do
pub syn-ack-fits : (a : SynAck) → a.source < 65536 → a.dest < 65536 → a.iss < 4294967296 → a.mss < 65536 → Fits (syn_ack_fields a)
syn-ack-fits a s d i m = record { source = s; dest = d; seq = i; ack = next_fits a.irs a.accepted; flags = omega arith; mss = m }

pub opening-fits : (o : Opening) → o.source < 65536 → o.dest < 65536 → o.iss < 4294967296 → o.mss < 65536 → Fits (opening_fields o)
opening-fits o s d i m = record { source = s; dest = d; seq = i; ack = omega arith; flags = omega arith; mss = m }

-- the client reads a SYN-ACK as it was written, if its setting counts the coding, and takes it for one
pub syn_ack_read : (g : Codings) (src dst : List ℕ) (a : SynAck) (cookie : List ℕ) (out_len : ℕ) → counts_coding g a.coding ≡ true
    → can_write src dst (syn_ack_fields a) cookie [] out_len ≡ true → Fits (syn_ack_fields a) → Bytes src → Bytes dst → Bytes cookie
    → ReadBack g src dst (syn_ack_fields a) cookie [] (syn_ack_bytes src dst a cookie out_len)
unfolding syn_ack_bytes has
syn_ack_read g src dst a cookie out_len counts can h bs bd bc = read_back g src dst (syn_ack_fields a) cookie [] out_len counts can refl h bs bd bc tt

pub syn-ack-kind : is_syn_ack (SYN + ACK) ≡ true
unfolding is_syn_ack has
syn-ack-kind = refl

-- the listener reads an opening as it was written, under any setting, and takes it for one
pub opening_read : (g : Codings) (src dst : List ℕ) (o : Opening) (cookie payload : List ℕ) (out_len : ℕ) → can_write src dst (opening_fields o) cookie payload out_len ≡ true
    → Fits (opening_fields o) → Bytes src → Bytes dst → Bytes cookie → Bytes payload
    → ReadBack g src dst (opening_fields o) cookie payload (opening_bytes src dst o cookie payload out_len)
unfolding opening_bytes has
opening_read g src dst o cookie payload out_len can h bs bd bc bp = read_back g src dst (opening_fields o) cookie payload out_len refl can refl h bs bd bc bp

pub opening-kind : kind_of SYN ≡ Syn
unfolding kind_of has
opening-kind = refl

-- the count that a client finds acknowledged is the count that was accepted
pub acknowledged-accepted : (iss accepted : ℕ) → iss < 2 ^ 32 → accepted < 2 ^ 32 → acknowledged iss (next_after iss accepted) ≡ accepted
unfolding acknowledged difference next_after
acknowledged-accepted iss accepted h k = omega arith
