-- Reading back what was written: the fields, the options and what is remarked on them, the payload, and a checksum that is right. Assumes nothing.
use Rattle.std.specs.Prelude.{Some}
use Rattle.std.proofs.Common.{◌≡◌, ℕ, zero, suc, ◌+◌, ◌-◌, ◌*◌, ◌/◌, ◌%◌, ◌<◌, ◌≤◌, Bool, true, false, cond, eqb, List, [], ◌∷◌, ◌++◌, length, drop, replicate, sym, refl, ap, ◌∙◌, subst, ap₂, append_assoc, arith, length-append, drop-drop, take_at, drop_at, le-ltb, ne_eqb, le-leb}
use Rattle.lists.specs.Bytes.{Bytes}
use Rattle.segment.specs.Bytes.{byte_at, be16, be32, word, long}
use Rattle.segment.specs.Header.{SYN, has, malformed, offset_of, header_length, fields_of, shape_of, option_area, payload_of}
use Rattle.segment.specs.Options.{nothing, is_mss_option, mss_option, cookie_at, is_in, prefix_length, option_in, counts_coding, fast_open_option, is_counted, with_option, stands, read_from, read_options, options_of, cookie_bytes}
use Rattle.segment.specs.Remarks.{no_remarks, is_fast_open, with_remark, broken_at, remarks_in, remarks_of}
use Rattle.segment.specs.Checksum.{ones_sum, complement, pseudo_header, segment_sum, checksum_right}
use Rattle.segment.specs.Write.{padding, mss_bytes, prefix_bytes, fast_open_bytes, option_bytes, header_bytes, segment_with, segment_bytes, option_allowed, options_for, length_for, can_write, written}
use Rattle.segment.specs.declared.header.Header.{Header}
use Rattle.segment.specs.declared.options.Coding.{Coding}
use Rattle.segment.specs.declared.options.Coding.TheVariants.{New, Older}
use Rattle.segment.specs.declared.options.Codings.{Codings}
use Rattle.segment.specs.declared.options.FastOpenOption.{FastOpenOption}
use Rattle.segment.specs.declared.options.FastOpenOption.TheVariants.{Absent, Request, Cookie}
use Rattle.segment.specs.declared.options.Options.{Options}
use Rattle.segment.specs.declared.options.Remarks.{Remarks}
use Rattle.segment.specs.declared.write.Outgoing.{Outgoing}
use Rattle.segment.proofs.ReadFrom.{read_at, one_step}
use Rattle.segment.proofs.Remarks.{other_remark, counted_remark}
use Rattle.segment.proofs.Folded.{sum-with-complement}
use Rattle.lists.proofs.ByteLists.{bytes-append}
use Rattle.segment.proofs.OneFamily.{family, pseudo_even, pseudo_bytes}
use Rattle.segment.proofs.Writes.{prefix_size, unpadded, options_plain, options_fast}
use Rattle.segment.proofs.Written.{Writable, writable, allowed_cookie, options-most, with-length}

-- A number written and read is the number, if it fits its bytes.
pub back16 : (x : ℕ) → x < 65536 → word (x / 256 % 256) (x % 256) ≡ x
back16 x h = omega arith

pub back32 : (x : ℕ) → x < 4294967296 → long (x / 16777216 % 256) (x / 65536 % 256) (x / 256 % 256) (x % 256) ≡ x
back32 x h =
    let e : x / 16777216 % 256 ≡ x / 16777216 = omega arith in
    rw e (omega arith)

-- Options

-- nothing is found in padding
padding_read : {A : Type 0} (on : A → ℕ → ℕ → A) (off : A → ℕ → A) (i n : ℕ) (found : A) → read_from on off i 0 (replicate n 1) found ≡ found
unfolding read_from
padding_read on off i zero found = refl
padding_read on off i (suc n) found = padding_read on off (i + 1) n found

-- the options of a written area: the MSS, and nothing, a request or a cookie by its place and length
abbrev pub fast_open_for : Bool → Coding → List ℕ → FastOpenOption
fast_open_for false c cookie = Absent
fast_open_for true c [] = Request c
fast_open_for true c (b ∷ rest) = Cookie c (4 + prefix_length c) (suc (length rest))

abbrev pub found_for : ℕ → Bool → Coding → List ℕ → Options
found_for mss fast c cookie = record { mss = Some mss; fast = fast_open_for fast c cookie }

without_fast_open : (g : Codings) (mss : ℕ) (c : Coding) (cookie : List ℕ) → mss < 65536
    → read_options g (option_bytes mss false c cookie) ≡ record { mss = Some mss; fast = Absent }
unfolding read_options read_from with_option is_mss_option mss_option fast_open_option is_in option_bytes
without_fast_open g mss c cookie h = rw (back16 mss h)

-- a prefix begins an option of its own length and the cookie's
record Begins (area : List ℕ) (i len : ℕ) : Type 0 where
  more : eqb (byte_at area i) 0 ≡ false
  long : eqb (byte_at area i) 1 ≡ false
  size : byte_at area (i + 1) ≡ len

prefix_begins : (mss : ℕ) (c : Coding) (cookie : List ℕ) → Begins (option_bytes mss true c cookie) 4 (length cookie + prefix_length c)
unfolding option_bytes
prefix_begins mss New cookie = record { more = refl; long = refl; size = refl }
prefix_begins mss Older cookie = record { more = refl; long = refl; size = refl }

-- with a Fast Open option a reading comes to it and then to the padding, whatever the cookie's length
two_options : {A : Type 0} (on : A → ℕ → ℕ → A) (off : A → ℕ → A) (mss : ℕ) (c : Coding) (cookie : List ℕ) (found : A)
    → read_from on off 0 0 (option_bytes mss true c cookie) found ≡ on (on found 0 4) 4 (length cookie + prefix_length c)
unfolding option_bytes
two_options on off mss c cookie found =
    let area = option_bytes mss true c cookie in
    let body = mss_bytes mss ++ fast_open_bytes c cookie in
    let pad = replicate {A = ℕ} (padding (length body)) 1 in
    let len = length cookie + prefix_length c in
    let l : length area ≡ length body + length pad = length-append body pad in
    let k = unpadded mss c cookie in
    let p = prefix_size c in
    let b = prefix_begins mss c cookie in
    let found₁ = on found 0 4 in
    let found₂ = on found₁ 4 len in
    let e₁ : read_at on off area 0 found ≡ read_at on off area 4 found₁ =
    one_step on off area 0 found (omega arith) ∙ rw (le-leb 4 (length area - 0) (omega arith)) in
    let e₂ : read_at on off area 4 found₁ ≡ read_at on off area (5 + (len - 1)) found₂ =
    one_step on off area 4 found₁ (omega arith) ∙ rw (b.more, b.long, b.size, le-leb 2 len (omega arith), le-leb len (length area - 4) (omega arith)) in
    let n : 5 + (len - 1) ≡ length body = omega arith in
    let d : drop (length body) area ≡ pad = drop_at body pad (length body) refl in
    let e₃ : read_at on off area (5 + (len - 1)) found₂ ≡ found₂ =
    ap (λ (j : ℕ). read_at on off area j found₂) n ∙ ap (λ (t : List ℕ). read_from on off (length body) 0 t found₂) d
    ∙ padding_read on off (length body) (padding (length body)) found₂ in
    e₁ ∙ e₂ ∙ e₃

with_fast_open : (g : Codings) (mss : ℕ) (c : Coding) (cookie : List ℕ) → mss < 65536
    → read_options g (option_bytes mss true c cookie) ≡ record { mss = Some mss; fast = fast_open_option g (option_bytes mss true c cookie) 4 (length cookie + prefix_length c) }
unfolding read_options with_option is_mss_option mss_option fast_open_option is_in option_bytes
with_fast_open g mss c cookie h =
    two_options (with_option g (option_bytes mss true c cookie)) stands mss c cookie nothing ∙ rw (back16 mss h)

-- there it is an option with that cookie, if one may have it
in_coding_lem : (c : Coding) (cookie : List ℕ) → option_allowed true (length cookie) ≡ true → option_in c 4 (length cookie + prefix_length c) ≡ fast_open_for true c cookie
unfolding option_in cookie_at
in_coding_lem c cookie e =
    let m : length cookie + prefix_length c - prefix_length c ≡ length cookie = omega arith in
    ap (cookie_at c (4 + prefix_length c)) m ∙ go cookie e
  where
    go : (given : List ℕ) → option_allowed true (length given) ≡ true → cookie_at c (4 + prefix_length c) (length given) ≡ fast_open_for true c given
    go [] k = refl
    go (b ∷ rest) k =
        let n = suc (length rest) in
        let z : eqb n 0 ≡ false = ne_eqb n 0 (λ q. omega arith) in
        rw (z, allowed_cookie (length rest) k)

-- and it counts where its coding does
counted : (g : Codings) (mss : ℕ) (c : Coding) (cookie : List ℕ) → counts_coding g c ≡ true
    → fast_open_option g (option_bytes mss true c cookie) 4 (length cookie + prefix_length c) ≡ option_in c 4 (length cookie + prefix_length c)
unfolding fast_open_option is_in option_bytes
counted g mss New cookie k = refl
counted g mss Older cookie k = rw (k, le-leb 4 (length cookie + 4) (omega arith))

-- the law: the reader finds in a written option area just what was put there, if the setting counts the coding
pub options_back : (g : Codings) (mss : ℕ) (fast : Bool) (c : Coding) (cookie : List ℕ) → counts_coding g c ≡ true → mss < 65536
    → option_allowed fast (length cookie) ≡ true → read_options g (option_bytes mss fast c cookie) ≡ found_for mss fast c cookie
options_back g mss false c cookie k h e = without_fast_open g mss c cookie h
options_back g mss true c cookie k h e =
    with_fast_open g mss c cookie h ∙ ap (λ (f : FastOpenOption). record { mss = Some mss; fast = f }) (counted g mss c cookie k ∙ in_coding_lem c cookie e)

-- and remarks nothing but the place of the option, behind the MSS
abbrev pub remarks_for : Bool → Remarks
remarks_for fast = record { skipped = 0; used = cond fast 5 0; broken = 0 }

mss_remark : (g : Codings) (mss : ℕ) (fast : Bool) (c : Coding) (cookie : List ℕ) → is_fast_open g (option_bytes mss fast c cookie) 0 4 ≡ false
unfolding is_fast_open is_in option_bytes
mss_remark g mss false c cookie = refl
mss_remark g mss true c cookie = refl

is_counted_lem : (c : Coding) (cookie : List ℕ) → is_counted (fast_open_for true c cookie) ≡ true
is_counted_lem c [] = refl
is_counted_lem c (b ∷ rest) = refl

pub remarks_back : (g : Codings) (mss : ℕ) (fast : Bool) (c : Coding) (cookie : List ℕ) → counts_coding g c ≡ true
    → option_allowed fast (length cookie) ≡ true → remarks_in g (option_bytes mss fast c cookie) ≡ remarks_for fast
unfolding remarks_in read_from option_bytes
remarks_back g mss false c cookie k e = other_remark g (option_bytes mss false c cookie) 0 4 no_remarks (mss_remark g mss false c cookie)
remarks_back g mss true c cookie k e =
    let area = option_bytes mss true c cookie in
    let len = length cookie + prefix_length c in
    two_options (with_remark g area) broken_at mss c cookie no_remarks
    ∙ ap (λ (r : Remarks). with_remark g area r 4 len) (other_remark g area 0 4 no_remarks (mss_remark g mss true c cookie))
    ∙ counted_remark g area 4 len no_remarks (ap is_counted (counted g mss c cookie k ∙ in_coding_lem c cookie e) ∙ is_counted_lem c cookie)

-- and the bytes of the cookie
cookie_back : (mss : ℕ) (c : Coding) (cookie : List ℕ) → cookie_bytes (fast_open_for true c cookie) (option_bytes mss true c cookie) ≡ cookie
unfolding option_bytes
cookie_back mss c [] = refl
cookie_back mss New (b ∷ rest) = take_at (b ∷ rest) _ (suc (length rest)) refl
cookie_back mss Older (b ∷ rest) = take_at (b ∷ rest) _ (suc (length rest)) refl

-- Segments

-- each field fits its width
pub record Fits (f : Outgoing) : Type 0 where
  pub source : f.source < 65536
  pub dest : f.dest < 65536
  pub seq : f.seq < 4294967296
  pub ack : f.ack < 4294967296
  pub flags : f.flags < 256
  pub mss : f.mss < 65536

-- the header that is read from a segment with these fields and so many bytes of options
abbrev pub header_of : Outgoing → ℕ → Header
header_of f options = record { source = f.source; dest = f.dest; seq = f.seq; ack = f.ack; offset = (20 + options) / 4; flags = f.flags }

fields_back : (f : Outgoing) (check : ℕ) (options payload : List ℕ) → Fits f → fields_of (segment_with f check options payload) ≡ header_of f (length options)
unfolding fields_of segment_with header_bytes
fields_back f check options payload h =
    let w : (20 + length options) / 4 * 16 / 16 ≡ (20 + length options) / 4 = omega arith in
    rw (back16 f.source h.source, back16 f.dest h.dest, back32 f.seq h.seq, back32 f.ack h.ack, w)

offset_back : (f : Outgoing) (check : ℕ) (options payload : List ℕ) → offset_of (segment_with f check options payload) ≡ (20 + length options) / 4
unfolding segment_with header_bytes
offset_back f check options payload = omega arith

flags_back : (f : Outgoing) (check : ℕ) (options payload : List ℕ) → byte_at (segment_with f check options payload) 13 ≡ f.flags
unfolding segment_with header_bytes
flags_back f check options payload = refl

-- the options end at a multiple of four bytes, a 32-bit word
options_words : (mss : ℕ) (fast : Bool) (c : Coding) (cookie : List ℕ) → length (option_bytes mss fast c cookie) % 4 ≡ 0
options_words mss false c cookie = ap (λ (x : ℕ). x % 4) (options_plain mss c cookie)
options_words mss true c cookie = omega (arith, options_fast mss c cookie)

-- the options are bytes
ones_bytes : (n : ℕ) → Bytes (replicate n 1)
ones_bytes zero = tt
ones_bytes (suc n) = (omega arith, ones_bytes n)

prefix_bytes_lem : (c : Coding) (n : ℕ) → n < 250 → Bytes (prefix_bytes c n)
prefix_bytes_lem New n h = (omega arith, (omega arith, tt))
prefix_bytes_lem Older n h = (omega arith, (omega arith, (omega arith, (omega arith, tt))))

options-bytes : (mss : ℕ) (fast : Bool) (c : Coding) (cookie : List ℕ) → length (option_bytes mss fast c cookie) ≤ 24 → Bytes cookie → Bytes (option_bytes mss fast c cookie)
unfolding option_bytes
options-bytes mss false c cookie h b = omega arith
options-bytes mss true c cookie h b =
    let n = padding (length (mss_bytes mss ++ fast_open_bytes c cookie)) in
    let l : length cookie < 250 = omega (arith, options_fast mss c cookie) in
    let f = bytes-append (prefix_bytes c (length cookie)) cookie (prefix_bytes_lem c (length cookie) l) b in
    (omega arith, (omega arith, (omega arith, (omega arith, bytes-append (fast_open_bytes c cookie) (replicate n 1) f (ones_bytes n)))))

-- What is read from a segment that was written, with its checksum right; the options are those that count under a setting.
pub record ReadBack (g : Codings) (src dst : List ℕ) (f : Outgoing) (cookie payload seg : List ℕ) : Type 0 where
  pub shape : shape_of seg ≡ Some (header_of f (length (options_for f cookie)))
  pub flags : byte_at seg 13 ≡ f.flags
  pub area : option_area seg ≡ options_for f cookie
  pub options : options_of g seg ≡ found_for f.mss f.fast f.coding cookie
  pub remarks : remarks_of g seg ≡ remarks_for f.fast
  pub bytes : f.fast ≡ true → cookie_bytes (options_of g seg).fast (option_area seg) ≡ cookie
  pub content : payload_of seg ≡ payload
  pub right : checksum_right src dst seg ≡ true
  pub size : length seg ≡ length_for f cookie payload

module _ (src dst : List ℕ) (f : Outgoing) (cookie payload : List ℕ) (out_len : ℕ)
    (w : Writable src dst f cookie payload out_len) where
  well_formed : (check : ℕ) → malformed (segment_with f check (options_for f cookie) payload) ≡ false
  unfolding malformed
  well_formed check =
      let o = options_for f cookie in
      let s = segment_with f check o payload in
      let l = with-length f check o payload in
      let b = offset_back f check o payload in
      rw (le-ltb (length s) 20 (omega arith), le-ltb 1520 (length s) (omega arith), le-ltb (offset_of s) 5 (omega arith))
      (le-ltb (length s) (header_length s) (omega arith))

  header-length : (check : ℕ) → header_length (segment_with f check (options_for f cookie) payload) ≡ 20 + length (options_for f cookie)
  header-length check = omega (arith, offset_back f check (options_for f cookie) payload, options_words f.mss f.fast f.coding cookie)

  area_back : (check : ℕ) → option_area (segment_with f check (options_for f cookie) payload) ≡ options_for f cookie
  unfolding option_area segment_with header_bytes
  area_back check =
      let o = options_for f cookie in
      let n : header_length (segment_with f check o payload) - 20 ≡ length o = omega (arith, header-length check) in
      rw (well_formed check, n) (take_at o payload (length o) refl)

  payload_back : (check : ℕ) → payload_of (segment_with f check (options_for f cookie) payload) ≡ payload
  unfolding payload_of segment_with header_bytes
  payload_back check =
      let o = options_for f cookie in
      let s = segment_with f check o payload in
      rw (well_formed check, header-length check) (sym (drop-drop (length o) 20 s) ∙ drop_at o payload (length o) refl)

  -- the bytes of a header before its checksum
  before : List ℕ
  before =
      be16 f.source ++ be16 f.dest ++ be32 f.seq ++ be32 f.ack
      ++ ((20 + length (options_for f cookie)) / 4 * 16 ∷ f.flags ∷ []) ++ be16 65535

  before-bytes : f.flags < 256 → Bytes before
  unfolding before
  before-bytes h = omega (arith, options-most f.mss f.fast f.coding cookie w.options)

  -- the sum over a segment with a checksum, the field set apart
  sum-apart : (check : ℕ) → segment_sum src dst (segment_with f check (options_for f cookie) payload)
      ≡ ones_sum 0 ((pseudo_header src dst (length_for f cookie payload) ++ before) ++ (be16 check ++ (0 ∷ 0 ∷ (options_for f cookie ++ payload))))
  unfolding segment_sum before segment_with header_bytes
  sum-apart check =
      let o = options_for f cookie in
      let p = pseudo_header src dst (length_for f cookie payload) in
      rw (with-length f check o payload) (ap (ones_sum 0) (sym (append_assoc p before (be16 check ++ (0 ∷ 0 ∷ (o ++ payload))))))

  sum-full : Bytes src → Bytes dst → Bytes cookie → Bytes payload → f.flags < 256
      → segment_sum src dst (segment_bytes src dst f (options_for f cookie) payload) ≡ 65535
  unfolding segment_bytes before
  sum-full bs bd bc bp hf =
      let o = options_for f cookie in
      let n = length_for f cookie payload in
      let p = pseudo_header src dst n in
      let v : length (p ++ before) % 2 ≡ 0 = omega (arith, length-append p before, pseudo_even src dst n (family src dst w.one)) in
      sum-apart (complement (segment_sum src dst (segment_with f 0 o payload)))
      ∙ ap (λ (x : ℕ). ones_sum 0 ((p ++ before) ++ (be16 (complement x) ++ (0 ∷ 0 ∷ (o ++ payload))))) (sum-apart 0)
      ∙ sum-with-complement (p ++ before) (0 ∷ 0 ∷ (o ++ payload)) v
      (bytes-append p before (pseudo_bytes src dst n bs bd) (before-bytes hf))
      (omega arith, (omega arith, bytes-append o payload (options-bytes f.mss f.fast f.coding cookie (options-most f.mss f.fast f.coding cookie w.options) bc) bp))

-- its options count as they were put there, if it has the SYN flag
options-counted : (g : Codings) (f : Outgoing) (cookie seg : List ℕ) → counts_coding g f.coding ≡ true → byte_at seg 13 ≡ f.flags → option_area seg ≡ options_for f cookie
    → f.mss < 65536 → option_allowed f.fast (length cookie) ≡ true → has f.flags SYN ≡ true → options_of g seg ≡ found_for f.mss f.fast f.coding cookie
unfolding options_of
options-counted g f cookie seg k flags area h s e = rw (flags, e, area) (options_back g f.mss f.fast f.coding cookie k h s)

options_remarked : (g : Codings) (f : Outgoing) (cookie seg : List ℕ) → counts_coding g f.coding ≡ true → byte_at seg 13 ≡ f.flags → option_area seg ≡ options_for f cookie
    → option_allowed f.fast (length cookie) ≡ true → has f.flags SYN ≡ true → remarks_of g seg ≡ remarks_for f.fast
unfolding remarks_of
options_remarked g f cookie seg k flags area s e = rw (flags, e, area) (remarks_back g f.mss f.fast f.coding cookie k s)

cookie-counted : (g : Codings) (f : Outgoing) (cookie seg : List ℕ) → option_area seg ≡ options_for f cookie → options_of g seg ≡ found_for f.mss f.fast f.coding cookie
    → f.fast ≡ true → cookie_bytes (options_of g seg).fast (option_area seg) ≡ cookie
cookie-counted g f cookie seg area options e =
    ap₂ (λ (found : Options) (bytes : List ℕ). cookie_bytes found.fast bytes) options area
    ∙ ap (λ (t : Bool). cookie_bytes (fast_open_for t f.coding cookie) (option_bytes f.mss t f.coding cookie)) e
    ∙ cookie_back f.mss f.coding cookie

-- the law: what is read from a segment with SYN that was written is what was written, and its checksum is right
pub read_back : (g : Codings) (src dst : List ℕ) (f : Outgoing) (cookie payload : List ℕ) (out_len : ℕ) → counts_coding g f.coding ≡ true
    → can_write src dst f cookie payload out_len ≡ true → has f.flags SYN ≡ true → Fits f → Bytes src → Bytes dst → Bytes cookie → Bytes payload
    → ReadBack g src dst f cookie payload (written src dst f cookie payload out_len)
unfolding written segment_bytes shape_of checksum_right
read_back g src dst f cookie payload out_len counts can syn h bs bd bc bp =
    let w = writable src dst f cookie payload out_len can in
    let o = options_for f cookie in
    let check = complement (segment_sum src dst (segment_with f 0 o payload)) in
    let seg = segment_with f check o payload in
    let e : written src dst f cookie payload out_len ≡ seg = rw can in
    let flags = flags_back f check o payload in
    let area = area_back src dst f cookie payload out_len w check in
    let options = options-counted g f cookie seg counts flags area h.mss w.options syn in
    subst (ReadBack g src dst f cookie payload) (sym e)
    (record {
      shape = rw (well_formed src dst f cookie payload out_len w check, fields_back f check o payload h);
      flags = flags;
      area = area;
      options = options;
      remarks = options_remarked g f cookie seg counts flags area w.options syn;
      bytes = cookie-counted g f cookie seg area options;
      content = payload_back src dst f cookie payload out_len w check;
      right = rw (w.one, sum-full src dst f cookie payload out_len w bs bd bc bp h.flags);
      size = with-length f check o payload;
    })
