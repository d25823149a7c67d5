-- Blocks and lengths of addresses, and bytes copied into an array of zeros. Assumes nothing.
use Prim.Native.Nat.{ℕ, ◌≤◌}
use mathlib.Core.Path.{◌≡◌, refl, sym, ap, ◌∙◌}
use mathlib.Core.Bool.{Bool, true, false, ◌||◌}
use mathlib.Core.List.{List, ◌++◌, append-nil}
use native.Mathlib.Omega.{arith}
use borrow.Author.Tests.{eqb-true, eq-eqb}
use lib.Dec.{eqb}
use lib.ListN.{length, take, drop, replicate}
use lib.Seq.{take_all, length-take-le}
use Rattle.std.proofs.lemmas.List.{drop-replicate}
use Rattle.segment.specs.Checksum.{one_family}
use Rattle.endpoint.specs.Address.{size, is_size, is_address, block}
use Rattle.endpoint.specs.declared.address.Family.{Family}
use Rattle.endpoint.specs.declared.address.Family.TheVariants.{V4, V6}

-- the block of an IPv4 address, and of an IPv6 address
pub block-four : (a : List ℕ) → length a ≡ 4 → block a ≡ a ++ replicate 12 0
unfolding block
block-four a e = rw e

pub block_sixteen : (a : List ℕ) → length a ≡ 16 → block a ≡ a
unfolding block
block_sixteen a e = rw e (append-nil a)

-- the block of zero bytes is that of an address of zero bytes, in both families
pub zero_block : (f : Family) → replicate 16 0 ≡ block (take (size f) (replicate 16 0))
unfolding block
zero_block V4 = refl
zero_block V6 = refl

-- Lengths of addresses

pub size-most : (n : ℕ) → is_size n ≡ true → n ≤ 16
size-most n e = go (eqb n 4) refl e
  where
    go : (b : Bool) → eqb n 4 ≡ b → b || eqb n 16 ≡ true → n ≤ 16
    go true k q = omega (arith, eqb-true n 4 k)
    go false k q = omega (arith, eqb-true n 16 q)

-- every family's addresses have such a length: all that is asked of a family
pub family-size : (f : Family) → is_size (size f) ≡ true
family-size V4 = refl
family-size V6 = refl

pub family-short : (f : Family) (a : List ℕ) → is_address f a ≡ true → length a ≤ 16
family-short f a e = omega (arith, eqb-true (length a) (size f) e, size-most (size f) (family-size f))

-- two addresses of a family are of one
pub one_size : (f : Family) (a b : List ℕ) → length a ≡ size f → length b ≡ size f → one_family a b ≡ true
one_size f a b h k = rw (h, k, eq-eqb (size f) (size f) refl) (family-size f)

pub one_family_lem : (f : Family) (a b : List ℕ) → is_address f a ≡ true → is_address f b ≡ true → one_family a b ≡ true
one_family_lem f a b h k = one_size f a b (eqb-true (length a) (size f) h) (eqb-true (length b) (size f) k)

-- an address is within its block
pub own-most : (f : Family) (own : List ℕ) {n : ℕ} → n ≡ size f → length own ≡ 16 → n ≤ length own
own-most f own e l = omega (arith, size-most (size f) (family-size f))

pub own-part : (f : Family) (own : List ℕ) {n : ℕ} → n ≡ size f → length own ≡ 16 → n ≡ length (take n own)
own-part f own {n} e l = sym (length-take-le n own (own-most f own e l))

-- an address is not cut
pub kept : (a : List ℕ) {r : List ℕ} → length a ≤ 16 → r ≡ block (take 16 a) → r ≡ block a
kept a h e = e ∙ ap block (take_all 16 a h)

-- Copies

-- an array of zeros with some bytes written over its start is their block
pub block_is : (a : List ℕ) → a ++ drop (length a) (replicate 16 0) ≡ block a
unfolding block
block_is a = rw (drop-replicate {X = ℕ} (length a) 16 0)

pub copied_block : (a : List ℕ) {r : List ℕ} → r ≡ take (length a) a ++ drop (length a) (replicate 16 0) → r ≡ block a
copied_block a e = e ∙ ap (λ (x : List ℕ). x ++ drop (length a) (replicate 16 0)) (take_all (length a) a (omega arith)) ∙ block_is a
