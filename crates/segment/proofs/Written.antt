-- A segment that is written, and one that is not. Assumes nothing.
use Rattle.std.proofs.Common.{◌≡◌, ℕ, zero, suc, ◌+◌, ◌-◌, ◌*◌, ◌/◌, ◌≤◌, Bool, true, false, cond, not, eqb, leb, List, ◌++◌, length, take, drop, sym, refl, ap, ◌∙◌, true≢false, append_assoc, arith, length-append, length-take-le, take_at, drop_at, eq-eqb, ne_eqb, leb-true}
use Rattle.std.specs.Prelude.{None, Some}
use Rattle.std.specs.Bool.{then_some}
use Rattle.std.proofs.lemmas.Option.{none-some, same_Some}
use Rattle.segment.specs.declared.options.Coding.{Coding}
use Rattle.segment.specs.declared.write.Outgoing.{Outgoing}
use Rattle.segment.specs.Options.{is_cookie_length, prefix_length}
use Rattle.segment.specs.Checksum.{ones_sum, complement, one_family, pseudo_header, segment_sum}
use Rattle.segment.specs.Write.{header_bytes, segment_with, segment_bytes, option_allowed, option_bytes, option_length, options_for, length_for, can_write, written}
use Rattle.lists.specs.Bytes.{overwrite}
use Rattle.lists.proofs.Bools.{and_true}
use Rattle.segment.proofs.Cookie.{cookie-length}
use Rattle.segment.proofs.Writes.{prefix_size, length_plain, length_fast, length_least, options-length}

-- what `can_write` tests
pub record Writable (src dst : List ℕ) (f : Outgoing) (cookie payload : List ℕ) (out_len : ℕ) : Type 0 where
  pub one : one_family src dst ≡ true
  pub options : option_allowed f.fast (length cookie) ≡ true
  pub short : length_for f cookie payload ≤ 1520
  pub fits : length_for f cookie payload ≤ out_len

pub writable : (src dst : List ℕ) (f : Outgoing) (cookie payload : List ℕ) (out_len : ℕ) → can_write src dst f cookie payload out_len ≡ true
    → Writable src dst f cookie payload out_len
unfolding can_write
writable src dst f cookie payload out_len e =
    let n = length_for f cookie payload in
    let a = and_true (one_family src dst) _ e in
    let b = and_true (option_allowed f.fast (length cookie)) _ a.1 in
    let d = and_true (leb n 1520) (leb n out_len) b.1 in
    record { one = a.0; options = b.0; short = leb-true n 1520 d.0; fits = leb-true n out_len d.1 }

-- a Fast Open option that has some bytes of cookie has a cookie's length of them
pub allowed_cookie : (n : ℕ) → option_allowed true (suc n) ≡ true → is_cookie_length (suc n) ≡ true
unfolding option_allowed
allowed_cookie n e =
    let z : eqb (suc n) 0 ≡ false = ne_eqb (suc n) 0 (λ q. omega arith) in
    rw z at e

allowed_most : (n : ℕ) → option_allowed true n ≡ true → n ≤ 16
allowed_most zero e = omega arith
allowed_most (suc n) e = (cookie-length (suc n) (allowed_cookie n e)).most

-- and so few bytes
pub allowed_short : (fast : Bool) (n : ℕ) → option_allowed fast n ≡ true → fast ≡ true → n ≤ 16
allowed_short true n e k = allowed_most n e
allowed_short false n e k = absurd (true≢false (sym k))

pub length_most : (fast : Bool) (c : Coding) (n : ℕ) → option_allowed fast n ≡ true → option_length fast c n ≤ 24
length_most false c n e = omega (arith, length_plain c n)
length_most true c n e = omega (arith, length_fast c n, allowed_most n e, prefix_size c)

pub options-most : (mss : ℕ) (fast : Bool) (c : Coding) (cookie : List ℕ) → option_allowed fast (length cookie) ≡ true → length (option_bytes mss fast c cookie) ≤ 24
options-most mss fast c cookie e = omega (arith, options-length mss fast c cookie, length_most fast c (length cookie) e)

-- The length of the options, or 0: without a Fast Open option, with a request, with a cookie, and with what is none.
abbrev allowed_length : Bool → Coding → ℕ → ℕ
allowed_length fast c n = cond (option_allowed fast n) (option_length fast c n) 0

pub without-option : (fast : Bool) (c : Coding) (n : ℕ) → not fast ≡ true → 4 ≡ allowed_length fast c n
unfolding option_allowed
without-option true c n e = absurd (true≢false (sym e))
without-option false c n e = sym (length_plain c n)

pub with-request : (fast : Bool) (c : Coding) (n : ℕ) → not fast ≡ false → n ≡ 0 → 8 ≡ allowed_length fast c n
unfolding option_allowed
with-request true c n e z = rw (eq-eqb n 0 z) (omega (arith, length_fast c n, prefix_size c))
with-request false c n e z = absurd (true≢false e)

pub with-cookie : (fast : Bool) (c : Coding) (n p : ℕ) → not fast ≡ false → (n ≡ 0 → ⊥) → is_cookie_length n ≡ true → p ≡ prefix_length c
    → 4 + (n + p + 3) / 4 * 4 ≡ allowed_length fast c n
unfolding option_allowed
with-cookie true c n p e z k q = rw (ne_eqb n 0 z, k) (omega (arith, length_fast c n))
with-cookie false c n p e z k q = absurd (true≢false e)

pub with_no_cookie : (fast : Bool) (c : Coding) (n : ℕ) → not fast ≡ false → (n ≡ 0 → ⊥) → is_cookie_length n ≡ false → 0 ≡ allowed_length fast c n
unfolding option_allowed
with_no_cookie true c n e z k = rw (ne_eqb n 0 z, k)
with_no_cookie false c n e z k = absurd (true≢false e)

-- what that length tells: 0 that the options are not allowed, any other that they are
pub not_allowed : (fast : Bool) (c : Coding) (n m : ℕ) → m ≡ allowed_length fast c n → m ≡ 0 → option_allowed fast n ≡ false
not_allowed fast c n m e z = go (option_allowed fast n) (sym e ∙ z)
  where
    go : (b : Bool) → cond b (option_length fast c n) 0 ≡ 0 → b ≡ false
    go true q = absurd (omega (arith, length_least fast c n))
    go false q = refl

pub is_allowed : (mss : ℕ) (fast : Bool) (c : Coding) (cookie : List ℕ) (m : ℕ) → m ≡ allowed_length fast c (length cookie) → (m ≡ 0 → ⊥)
    → (option_allowed fast (length cookie) ≡ true) × (m ≡ length (option_bytes mss fast c cookie))
is_allowed mss fast c cookie m e z = go (option_allowed fast (length cookie)) refl e
  where
    go : (b : Bool) → option_allowed fast (length cookie) ≡ b → m ≡ cond b (option_length fast c (length cookie)) 0
        → (option_allowed fast (length cookie) ≡ true) × (m ≡ length (option_bytes mss fast c cookie))
    go true q k = (q, k ∙ sym (options-length mss fast c cookie))
    go false q k = absurd (z k)

-- what a length, or none, tells of the test
pub tested : (b : Bool) (x m : ℕ) → Some m ≡ then_some b x → (b ≡ true) × (m ≡ x)
tested true x m e = (refl, same_Some m x e)
tested false x m e = absurd (none-some m (sym e))

pub untested : (b : Bool) (x : ℕ) → None ≡ then_some b x → b ≡ false
untested true x e = absurd (none-some x e)
untested false x e = refl

-- the options of a segment that may have them have the length that was found
pub area_length : (mss : ℕ) (fast : Bool) (c : Coding) (cookie : List ℕ) (m : ℕ) → Some m ≡ then_some (option_allowed fast (length cookie)) (option_length fast c (length cookie))
    → (option_allowed fast (length cookie) ≡ true) × (m ≡ length (option_bytes mss fast c cookie))
area_length mss fast c cookie m e =
    let t = tested (option_allowed fast (length cookie)) (option_length fast c (length cookie)) m e in
    (t.0, t.1 ∙ sym (options-length mss fast c cookie))

-- what is known of a segment that can be written, and of its length
pub record Allowed (src dst : List ℕ) (f : Outgoing) (cookie payload : List ℕ) (out_len n : ℕ) : Type 0 where
  pub can : can_write src dst f cookie payload out_len ≡ true
  pub facts : Writable src dst f cookie payload out_len
  pub area : length (options_for f cookie) ≤ 24
  pub whole : n ≡ length_for f cookie payload

pub allowed : (src dst : List ℕ) (f : Outgoing) (cookie payload : List ℕ) (out_len n : ℕ)
    → Some n ≡ then_some (can_write src dst f cookie payload out_len) (length_for f cookie payload) → Allowed src dst f cookie payload out_len n
allowed src dst f cookie payload out_len n e =
    let t = tested _ _ n e in
    let w = writable src dst f cookie payload out_len t.0 in
    record { can = t.0; facts = w; area = options-most f.mss f.fast f.coding cookie w.options; whole = t.1 }

-- nothing is written
pub none_written : (src dst : List ℕ) (f : Outgoing) (cookie payload out : List ℕ)
    → can_write src dst f cookie payload (length out) ≡ false
    → (0 ≡ length (written src dst f cookie payload (length out))) × (out ≡ overwrite (written src dst f cookie payload (length out)) out)
unfolding written
none_written src dst f cookie payload out e = rw e (refl, refl)

-- a segment's length, and its sum with the length written out
pub with-length : (f : Outgoing) (check : ℕ) (options payload : List ℕ) → length (segment_with f check options payload) ≡ 20 + length options + length payload
unfolding segment_with header_bytes
with-length f check options payload = omega (arith, length-append options payload)

pub segment-length : (src dst : List ℕ) (f : Outgoing) (options payload : List ℕ) → length (segment_bytes src dst f options payload) ≡ 20 + length options + length payload
unfolding segment_bytes
segment-length src dst f options payload = with-length f _ options payload

-- the segment is written: options, of m bytes, and payload from byte 20 on, then the header before them
pub all_written : (src dst : List ℕ) (f : Outgoing) (cookie payload out middle end : List ℕ) (m n : ℕ)
    → Allowed src dst f cookie payload (length out) n → m ≡ length (options_for f cookie)
    → middle ≡ take 20 out ++ (options_for f cookie ++ (payload ++ drop (20 + m + length payload) out))
    → end ≡ header_bytes f ((20 + m) / 4) (complement (ones_sum 0 (pseudo_header src dst n ++ (header_bytes f ((20 + m) / 4) 0 ++ take (n - 20) (drop 20 middle))))) ++ drop 20 middle
    → (n ≡ length (written src dst f cookie payload (length out))) × (end ≡ overwrite (written src dst f cookie payload (length out)) out)
unfolding written segment_bytes segment_sum segment_with
all_written src dst f cookie payload out middle end m n g e em ee =
    let o = options_for f cookie in
    let w = (20 + length o) / 4 in
    let j : 20 + m + length payload ≡ n = ap (λ (x : ℕ). 20 + x + length payload) e ∙ sym g.whole in
    let d : drop 20 middle ≡ o ++ (payload ++ drop n out) = rw (em, j) (drop_at (take 20 out) (o ++ (payload ++ drop n out)) 20 (length-take-le 20 out (omega (arith, g.facts.fits)))) in
    let l : length (o ++ payload) ≡ n - 20 = omega (arith, length-append o payload, g.whole) in
    let t : take (n - 20) (drop 20 middle) ≡ o ++ payload = ap (take (n - 20)) (d ∙ sym (append_assoc o payload (drop n out))) ∙ take_at (o ++ payload) (drop n out) (n - 20) l in
    let z : length (header_bytes f w 0 ++ (o ++ payload)) ≡ n = with-length f 0 o payload ∙ sym g.whole in
    let s : end ≡ segment_bytes src dst f o payload ++ drop n out = ee ∙ rw (t, d, e) (rw (z, append_assoc, append_assoc)) in
    let k : n ≡ length (segment_bytes src dst f o payload) = g.whole ∙ sym (segment-length src dst f o payload) in
    rw g.can (k, s ∙ ap (λ (x : ℕ). segment_bytes src dst f o payload ++ drop x out) k)
