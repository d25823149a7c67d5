-- A packet that is written is read as one to its destination, with the same segment, and an IPv4 header's sum is 65,535. Assumes nothing.
use Prim.Native.Nat.{ℕ, ◌+◌, ◌≤◌}
use mathlib.Core.Path.{◌≡◌, refl, sym, ap, ◌∙◌}
use mathlib.Core.Bool.{true}
use mathlib.Core.List.{List, [], ◌∷◌, ◌++◌}
use native.Mathlib.Omega.{arith}
use borrow.Author.Tests.{le-leb, eq-eqb}
use lib.Seq.{take_at}
use lib.ListN.{length, replicate}
use Rattle.lists.specs.Bytes.{Bytes}
use Rattle.lists.proofs.SameBytes.{same_bytes_refl}
use Rattle.lists.proofs.ByteLists.{bytes-append, each_byte}
use Rattle.segment.specs.Bytes.{word_at}
use Rattle.segment.specs.Checksum.{ones_sum}
use Rattle.segment.proofs.Folded.{sum-with-complement}
use Rattle.segment.proofs.ReadBack.{back16}
use Rattle.endpoint.specs.Address.{size, block}
use Rattle.endpoint.proofs.Blocks.{block-four, block_sixteen}
use Rattle.endpoint.specs.declared.address.Family.{Family}
use Rattle.endpoint.specs.declared.address.Family.TheVariants.{V4, V6}
use Rattle.packet.specs.Ip.{least_header, header_length, is_whole_v4, is_whole_v6, is_to, carried_to}
use Rattle.packet.specs.Write.{four_of, sixteen_of, before_check, header_v4, checked_v4, header_v6, packet_bytes, PacketBack, HeaderSum}
use Rattle.packet.proofs.Found.{length_v4, packet_length, byte_by_byte}

-- The header's sum

checked_sum : (own dst : List ℕ) (n : ℕ) → Bytes own → Bytes dst → ones_sum 0 (checked_v4 own dst n) ≡ 65535
unfolding checked_v4 header_v4
checked_sum own dst n p q =
    sum-with-complement (before_check n) (four_of own ++ four_of dst) refl
    (omega arith, (omega arith, (omega arith, (omega arith, (omega arith, (omega arith, (omega arith, (omega arith, (omega arith, (omega arith, tt))))))))))
    (bytes-append (four_of own) (four_of dst) (four own p) (four dst q))
  where
    four : (b : List ℕ) → Bytes b → Bytes (four_of b)
    four b h = (each_byte b h 0, (each_byte b h 1, (each_byte b h 2, (each_byte b h 3, tt))))

pub header-sum : (own dst tcp : List ℕ) → Bytes own → Bytes dst → HeaderSum own dst tcp
unfolding packet_bytes
header-sum own dst tcp p q =
    ap (ones_sum 0) (take_at (checked_v4 own dst (length tcp)) tcp 20 (length_v4 own dst (length tcp))) ∙ checked_sum own dst (length tcp) p q

-- Addresses, out of their blocks

first-four : (a : List ℕ) → length a ≡ 4 → four_of (block a) ≡ a
first-four a h = rw (block-four a h) (go a h)
  where
    go : (a : List ℕ) → length a ≡ 4 → four_of (a ++ replicate 12 0) ≡ a
    go [] h = absurd (omega arith)
    go (w ∷ []) h = absurd (omega arith)
    go (w ∷ x ∷ []) h = absurd (omega arith)
    go (w ∷ x ∷ y ∷ []) h = absurd (omega arith)
    go (w ∷ x ∷ y ∷ z ∷ []) h = refl
    go (w ∷ x ∷ y ∷ z ∷ v ∷ a) h = absurd (omega arith)

all_sixteen : (a : List ℕ) → length a ≡ 16 → sixteen_of (block a) ≡ a
all_sixteen a h = rw (block_sixteen a h) (byte_by_byte a h)

-- The packet

whole_v4 : (own dst tcp : List ℕ) → 20 + length tcp ≤ 4096 → is_whole_v4 (packet_bytes V4 own dst tcp) ≡ true
unfolding is_whole_v4 packet_bytes checked_v4 header_v4
whole_v4 own dst tcp h =
    let p = packet_bytes V4 own dst tcp in
    let l = packet_length V4 own dst tcp in
    let w : word_at p 2 ≡ length p = back16 (20 + length tcp) (omega arith) ∙ sym l in
    rw (le-leb 20 (length p) (omega arith), eq-eqb (word_at p 2) (length p) w)

whole_v6 : (own dst tcp : List ℕ) → 40 + length tcp ≤ 4096 → is_whole_v6 (packet_bytes V6 own dst tcp) ≡ true
unfolding is_whole_v6 packet_bytes header_v6
whole_v6 own dst tcp h =
    let p = packet_bytes V6 own dst tcp in
    let l = packet_length V6 own dst tcp in
    let w : word_at p 4 + 40 ≡ length p = omega (arith, back16 (length tcp) (omega arith)) in
    rw (le-leb 40 (length p) (omega arith), eq-eqb (word_at p 4 + 40) (length p) w)

pub packet_back : (f : Family) (own dst tcp : List ℕ) → length own ≡ size f → length dst ≡ size f → least_header f + length tcp ≤ 4096 → PacketBack f own dst tcp
unfolding carried_to is_to packet_bytes checked_v4 header_v4 header_v6 header_length
packet_back V4 own dst tcp p q h =
    record {
      carried = rw (whole_v4 (block own) (block dst) tcp h, first-four dst q, same_bytes_refl (block dst));
      source = first-four own p;
      segment = refl;
    }
packet_back V6 own dst tcp p q h =
    record {
      carried = rw (whole_v6 (block own) (block dst) tcp h, all_sixteen dst q, same_bytes_refl (block dst));
      source = all_sixteen own p;
      segment = refl;
    }
