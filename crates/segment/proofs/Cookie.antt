-- What is found in an option area: a cookie lies in it and has 4 to 16 bytes, an even number; and of which segments it counts. Assumes nothing.
use Rattle.std.proofs.Common.{◌≡◌, ℕ, ◌+◌, ◌-◌, ◌%◌, ◌≤◌, Bool, true, false, cond, ◌||◌, eqb, leb, List, length, drop, refl, arith, length-drop, length-take-le, eq-eqb, eqb-true, le-leb, leb-true}
use Rattle.segment.specs.Bytes.{byte_at}
use Rattle.segment.specs.Header.{has, SYN, RST, ACK, FIN, fields_of, kind_of, option_area}
use Rattle.segment.specs.declared.header.Kind.{Kind}
use Rattle.segment.specs.declared.header.Kind.TheVariants.{Syn, Rst, Ack, Other}
use Rattle.segment.specs.declared.options.Coding.{Coding}
use Rattle.segment.specs.declared.options.Coding.TheVariants.{New, Older}
use Rattle.segment.specs.declared.options.Codings.{Codings}
use Rattle.segment.specs.declared.options.FastOpenOption.{FastOpenOption}
use Rattle.segment.specs.declared.options.FastOpenOption.TheVariants.{Absent, Request, Cookie}
use Rattle.segment.specs.Options.{is_cookie_length, cookie_at, is_in, prefix_length, option_in, counts_coding, is_fast_open_in, fast_open_option, first_fast_open, nothing, with_option, stands, read_options, if_syn, options_of, cookie_bytes, coding_of}
use Rattle.lists.proofs.Bools.{and_true, chosen}
use Rattle.segment.proofs.ReadFrom.{both_readings}

-- 4 to 16 bytes, an even number
pub record CookieLength (n : ℕ) : Type 0 where
  pub least : 4 ≤ n
  pub most : n ≤ 16
  pub even : n % 2 ≡ 0

-- a cookie at a place of an area of n bytes
pub record Inside (n at len : ℕ) : Type 0 where
  pub fits : at + len ≤ n
  pub size : CookieLength len

abbrev pub AllInside : ℕ → FastOpenOption → Type 0
AllInside n Absent = Unit {0}
AllInside n (Request c) = Unit {0}
AllInside n (Cookie c at len) = Inside n at len

pub cookie-length : (n : ℕ) → is_cookie_length n ≡ true → CookieLength n
unfolding is_cookie_length
cookie-length n e =
    let a = and_true (leb 4 n) _ e in
    let b = and_true (leb n 16) (eqb (n % 2) 0) a.1 in
    record { least = leb-true 4 n a.0; most = leb-true n 16 b.0; even = eqb-true (n % 2) 0 b.1 }

pub cookie_length_back : (n : ℕ) → CookieLength n → is_cookie_length n ≡ true
unfolding is_cookie_length
cookie_length_back n c = rw (le-leb 4 n c.least, le-leb n 16 c.most, eq-eqb (n % 2) 0 c.even)

-- what holds of none and of each option in a coding that counts holds of what is found
module _ (P : FastOpenOption → Type 0) (absent : P Absent) (g : Codings) (area : List ℕ)
    (each : (c : Coding) → counts_coding g c ≡ true → (i len : ℕ) → is_in c area i len ≡ true → 2 ≤ len → i + len ≤ length area → P (option_in c i len)) where
  first_of : (f next : FastOpenOption) → P f → P next → P (first_fast_open f next)
  first_of Absent next p q = q
  first_of (Request c) next p q = p
  first_of (Cookie c at len) next p q = p

  of_coding : (c : Coding) (i len : ℕ) → 2 ≤ len → i + len ≤ length area → is_fast_open_in g c area i len ≡ true → P (option_in c i len)
  of_coding c i len k h e =
      let t = and_true (is_in c area i len) (counts_coding g c) e in
      each c t.1 i len t.0 k h

  of_one : (i len : ℕ) → 2 ≤ len → i + len ≤ length area → P (fast_open_option g area i len)
  unfolding fast_open_option
  of_one i len k h =
      chosen P (is_fast_open_in g New area i len) _ _ (of_coding New i len k h)
      (λ _. chosen P (is_fast_open_in g Older area i len) _ _ (of_coding Older i len k h) (λ _. absent))

  of_found : P (read_options g area).fast
  unfolding read_options with_option
  of_found =
      let on = with_option g area in
      both_readings on stands on stands (λ found _. P found.fast) area
      (λ a _ i len _ k h p. first_of a.fast (fast_open_option g area i len) p (of_one i len k h)) (λ a _ i _ p. p) nothing nothing absent

  pub of_segment : (syn : Bool) → P (if_syn syn (read_options g area)).fast
  of_segment true = of_found
  of_segment false = absent

-- an option that is in a coding has its prefix
pub prefix_fits : (c : Coding) (area : List ℕ) (i len : ℕ) → is_in c area i len ≡ true → 2 ≤ len → prefix_length c ≤ len
unfolding is_in
prefix_fits New area i len e k = k
prefix_fits Older area i len e k = leb-true 4 len (and_true (leb 4 len) _ (and_true (eqb (byte_at area i) 254) _ e).1).0

option_inside : (c : Coding) (n i len : ℕ) → prefix_length c ≤ len → i + len ≤ n → AllInside n (option_in c i len)
unfolding option_in cookie_at
option_inside c n i len k h =
    chosen (AllInside n) (eqb (len - prefix_length c) 0) _ _ (λ _. tt)
    (λ _. chosen (AllInside n) (is_cookie_length (len - prefix_length c)) _ _
    (λ e. record { fits = omega arith; size = cookie-length (len - prefix_length c) e }) (λ _. tt))

option-coding : (c : Coding) (g : Codings) (i len : ℕ) → counts_coding g c ≡ true → counts_coding g (coding_of (option_in c i len)) ≡ true
unfolding option_in cookie_at
option-coding c g i len k =
    let P : FastOpenOption → Type 0 = λ f. counts_coding g (coding_of f) ≡ true in
    chosen P (eqb (len - prefix_length c) 0) _ _ (λ _. k)
    (λ _. chosen P (is_cookie_length (len - prefix_length c)) _ _ (λ _. k) (λ _. refl))

-- so it has as many bytes as its length
pub cookie-bytes : (area : List ℕ) (c : Coding) (at len : ℕ) → Inside (length area) at len → length (cookie_bytes (Cookie c at len) area) ≡ len
cookie-bytes area c at len h = length-take-le len (drop at area) (omega (arith, length-drop at area))

-- of a segment without SYN no Fast Open option counts
pub no_syn : (g : Codings) (seg : List ℕ) → has (byte_at seg 13) SYN ≡ false → (options_of g seg).fast ≡ Absent
unfolding options_of
no_syn g seg e = rw e

-- of an opening those in its area do
pub syn_flag : (flags : ℕ) → kind_of flags ≡ Syn → has flags SYN ≡ true
unfolding kind_of
syn_flag flags e = go (has flags SYN) (has flags RST) (has flags ACK) e
  where
    go : (s r a : Bool) → cond s (cond (has flags ACK || (has flags RST || has flags FIN)) Other Syn) (cond r Rst (cond a Ack Other)) ≡ Syn → s ≡ true
    go true r a k = refl
    go false true a k = absurd (let z : ◌≡◌ {A = ℕ} 0 1 = cc in omega arith)
    go false false true k = absurd (let z : ◌≡◌ {A = ℕ} 0 1 = cc in omega arith)
    go false false false k = absurd (let z : ◌≡◌ {A = ℕ} 0 1 = cc in omega arith)

-- and a segment of another kind, if it has one, has no SYN
pub later_flag : (flags : ℕ) → (kind_of flags ≡ Syn → ⊥) → (kind_of flags ≡ Other → ⊥) → has flags SYN ≡ false
unfolding kind_of
later_flag flags f h = go (has flags SYN) (has flags ACK || (has flags RST || has flags FIN)) (cond (has flags RST) Rst (cond (has flags ACK) Ack Other)) f h
  where
    go : (s other : Bool) (k : Kind) → (cond s (cond other Other Syn) k ≡ Syn → ⊥) → (cond s (cond other Other Syn) k ≡ Other → ⊥) → s ≡ false
    go true true k p q = absurd (q refl)
    go true false k p q = absurd (p refl)
    go false other k p q = refl

pub syn-options : (g : Codings) (seg : List ℕ) → kind_of (fields_of seg).flags ≡ Syn → options_of g seg ≡ read_options g (option_area seg)
unfolding options_of fields_of
syn-options g seg e = rw (syn_flag (byte_at seg 13) e)

-- and of any segment the cookie that counts lies in its option area
pub inside_segment : (g : Codings) (seg : List ℕ) → AllInside (length (option_area seg)) (options_of g seg).fast
unfolding options_of
inside_segment g seg =
    of_segment (AllInside (length (option_area seg))) tt g (option_area seg)
    (λ c _ i len e k h. option_inside c (length (option_area seg)) i len (prefix_fits c (option_area seg) i len e k) h) (has (byte_at seg 13) SYN)

-- in a coding that the setting counts
pub coding-counts : (g : Codings) (seg : List ℕ) → counts_coding g (coding_of (options_of g seg).fast) ≡ true
unfolding options_of
coding-counts g seg =
    of_segment (λ f. counts_coding g (coding_of f) ≡ true) refl g (option_area seg) (λ c k i len _ _ _. option-coding c g i len k) (has (byte_at seg 13) SYN)
