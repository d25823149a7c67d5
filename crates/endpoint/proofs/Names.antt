-- Names of connections, and the blocks that their addresses are kept as. Assumes nothing.
use Prim.Native.Nat.{ℕ, ◌-◌}
use mathlib.Core.Path.{◌≡◌, refl, sym, ap, ap₂, ◌∙◌, subst}
use mathlib.Core.Bool.{true, ◌&&◌, and-eq-true_iff}
use mathlib.Core.List.{List}
use borrow.Author.Tests.{eqb-true, eq-eqb}
use lib.Dec.{eqb}
use lib.ListN.{length, take, replicate}
use lib.Seq.{take_at}
use Rattle.lists.specs.Bytes.{same_bytes}
use Rattle.lists.proofs.Bools.{one_test}
use Rattle.lists.proofs.SameBytes.{same_bytes_eq, same_bytes_refl}
use Rattle.endpoint.specs.Address.{Peer, same_peer, block}

-- Names

pub same_peer_eq : (m n : Peer) → same_peer m n ≡ true → m ≡ n
unfolding same_peer
same_peer_eq m n e =
    let both = (and-eq-true_iff (same_bytes m.address n.address) (eqb m.port n.port)).0 e in
    λ i. record { address = same_bytes_eq m.address n.address both.0 i; port = eqb-true m.port n.port both.1 i }

pub same_peer_refl : (m : Peer) → same_peer m m ≡ true
unfolding same_peer
same_peer_refl m = ap₂ ◌&&◌ (same_bytes_refl m.address) (eq-eqb m.port m.port refl)

-- Blocks

-- the address out of its block
pub short : (n : ℕ) (a : List ℕ) → length a ≡ n → take n (block a) ≡ a
unfolding block
short n a h = take_at a (replicate (16 - length a) 0) n h

-- addresses of one length are the same exactly if their blocks are
pub same_block : (a b : List ℕ) → length a ≡ length b → same_bytes (block a) (block b) ≡ same_bytes a b
same_block a b h = one_test _ _ back (λ e. subst (λ c. same_bytes (block a) (block c) ≡ true) (same_bytes_eq a b e) (same_bytes_refl (block a)))
  where
    back : same_bytes (block a) (block b) ≡ true → same_bytes a b ≡ true
    back e =
        let same : a ≡ b = sym (short (length b) a h) ∙ (ap (take (length b)) (same_bytes_eq (block a) (block b) e) ∙ short (length b) b refl) in
        subst (λ c. same_bytes a c ≡ true) same (same_bytes_refl a)
