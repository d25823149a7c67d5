-- Addresses of one family, and the pseudo-header between them. Assumes nothing.
use Rattle.std.proofs.Common.{◌≡◌, ℕ, ◌%◌, ◌≤◌, Bool, true, false, ◌||◌, eqb, List, ◌++◌, length, sym, refl, ap, ◌∙◌, arith, length-append, eqb-true}
use Rattle.lists.specs.Bytes.{Bytes}
use Rattle.segment.specs.Checksum.{ones_sum, one_family, pseudo_tail, pseudo_header, segment_sum, checksum_right}
use Rattle.lists.proofs.Bools.{and_true}
use Rattle.segment.proofs.Total.{sum-append}
use Rattle.lists.proofs.ByteLists.{bytes-append}

-- an address has 4 or 16 bytes, so an even number, and the two have as many
pub record Family (src dst : List ℕ) : Type 0 where
  pub alike : length dst ≡ length src
  pub even : length src % 2 ≡ 0
  pub short : length src ≤ 16

pub family : (src dst : List ℕ) → one_family src dst ≡ true → Family src dst
family src dst e =
    let p = and_true (eqb (length src) (length dst)) _ e in
    let a : length dst ≡ length src = sym (eqb-true (length src) (length dst) p.0) in
    either (eqb (length src) 4) refl p.1 a
  where
    either : (four : Bool) → eqb (length src) 4 ≡ four → four || eqb (length src) 16 ≡ true → length dst ≡ length src → Family src dst
    either true h k a =
        let n = eqb-true (length src) 4 h in
        record { alike = a; even = ap (λ (x : ℕ). x % 2) n; short = omega arith }
    either false h k a =
        let n = eqb-true (length src) 16 k in
        record { alike = a; even = ap (λ (x : ℕ). x % 2) n; short = omega arith }

-- the other way round too
pub family_back : (src dst : List ℕ) → one_family src dst ≡ true → one_family dst src ≡ true
family_back src dst e =
    let n = (family src dst e).alike in
    rw n (rw n at e)

-- and so are those of a right checksum
pub right-family : (src dst seg : List ℕ) → checksum_right src dst seg ≡ true → one_family src dst ≡ true
unfolding checksum_right
right-family src dst seg e = (and_true (one_family src dst) (eqb (segment_sum src dst seg) 65535) e).0

tail_even : (ipv4 : Bool) (n : ℕ) → length (pseudo_tail ipv4 n) % 2 ≡ 0
tail_even true n = refl
tail_even false n = refl

tail_bytes : (ipv4 : Bool) (n : ℕ) → Bytes (pseudo_tail ipv4 n)
tail_bytes true n = omega arith
tail_bytes false n = omega arith

-- the pseudo-header is of an even number of bytes, for both lengths of an address
pub pseudo_even : (src dst : List ℕ) (n : ℕ) → Family src dst → length (pseudo_header src dst n) % 2 ≡ 0
unfolding pseudo_header
pseudo_even src dst n f =
    let t = pseudo_tail (eqb (length src) 4) n in
    omega (arith, length-append src (dst ++ t), length-append dst t, tail_even (eqb (length src) 4) n)

pub pseudo_bytes : (src dst : List ℕ) (n : ℕ) → Bytes src → Bytes dst → Bytes (pseudo_header src dst n)
unfolding pseudo_header
pseudo_bytes src dst n bs bd = bytes-append src _ bs (bytes-append dst _ bd (tail_bytes (eqb (length src) 4) n))

-- its sum, part by part
pub pseudo_parts : (src dst : List ℕ) (n : ℕ) (ipv4 : Bool) (s₁ s₂ s₃ : ℕ) → Family src dst → eqb (length src) 4 ≡ ipv4
    → s₁ ≡ ones_sum 0 src → s₂ ≡ ones_sum s₁ dst → s₃ ≡ ones_sum s₂ (pseudo_tail ipv4 n) → s₃ ≡ ones_sum 0 (pseudo_header src dst n)
unfolding pseudo_header
pseudo_parts src dst n ipv4 s₁ s₂ s₃ f k e₁ e₂ e₃ =
    let t = pseudo_tail ipv4 n in
    let e : length dst % 2 ≡ 0 = omega arith in
    e₃ ∙ rw (e₂, e₁, k) (sym (sum-append 0 src (dst ++ t) f.even ∙ sum-append (ones_sum 0 src) dst t e))

-- the sum that a segment is checked by, from the pseudo-header's
pub right_sum : (src dst seg : List ℕ) → one_family src dst ≡ true → segment_sum src dst seg ≡ ones_sum (ones_sum 0 (pseudo_header src dst (length seg))) seg
unfolding segment_sum
right_sum src dst seg e = sum-append 0 (pseudo_header src dst (length seg)) seg (pseudo_even src dst (length seg) (family src dst e))
