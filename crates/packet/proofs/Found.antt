-- A packet's destination as a block, how many bytes are written, and an address byte by byte. Assumes nothing.
use Rattle.std.proofs.Common.{◌≡◌, ℕ, ◌+◌, ◌≤◌, List, ◌++◌, length, get_or, take, drop, refl, sym, ap, ap₂, ◌∙◌, arith, length-take, length-drop, length-append}
use lib.Seq.{get_or-drop, take-add, take_all}
use Rattle.lists.proofs.Elements.{eight}
use Rattle.endpoint.specs.Address.{block}
use Rattle.endpoint.specs.declared.address.Family.{Family}
use Rattle.endpoint.specs.declared.address.Family.TheVariants.{V4, V6}
use Rattle.packet.specs.Ip.{least_header, dest_of}
use Rattle.packet.specs.Write.{sixteen_of, header_v4, checked_v4, header_v6, packet_bytes}

-- an address has at most 16 bytes
pub dest_block : (f : Family) (p : List ℕ) → block (take 16 (dest_of f p)) ≡ block (dest_of f p)
dest_block V4 p = ap block (take_all 16 (take 4 (drop 16 p)) (omega (arith, length-take 4 (drop 16 p))))
dest_block V6 p = ap block (take_all 16 (take 16 (drop 24 p)) (omega (arith, length-take 16 (drop 24 p))))

-- how many bytes the headers have
pub length_v4 : (own dst : List ℕ) (n : ℕ) → length (checked_v4 own dst n) ≡ 20
unfolding checked_v4 header_v4
length_v4 own dst n = refl

pub length_v6 : (own dst : List ℕ) (n : ℕ) → length (header_v6 own dst n) ≡ 40
unfolding header_v6
length_v6 own dst n = refl

pub packet_length : (f : Family) (own dst tcp : List ℕ) → length (packet_bytes f own dst tcp) ≡ least_header f + length tcp
unfolding packet_bytes
packet_length V4 own dst tcp = length-append (checked_v4 own dst (length tcp)) tcp ∙ rw (length_v4 own dst (length tcp))
packet_length V6 own dst tcp = length-append (header_v6 own dst (length tcp)) tcp ∙ rw (length_v6 own dst (length tcp))

-- an address of 16 bytes, as it is written
pub byte_by_byte : (a : List ℕ) → length a ≡ 16 → sixteen_of a ≡ a
byte_by_byte a h =
    rw (later 0, later 1, later 2, later 3, later 4, later 5, later 6, later 7)
    (ap₂ (λ (x y : List ℕ). x ++ y) (eight a (omega arith)) (eight (drop 8 a) (omega (arith, length-drop 8 a)))
    ∙ sym (take-add 8 8 a) ∙ take_all 16 a (omega arith))
  where
    later : (i : ℕ) → get_or a (8 + i) 0 ≡ get_or (drop 8 a) i 0
    later i = sym (get_or-drop 8 a i 0)

-- a header has 20 or 40 bytes
pub header_bounds : (f : Family) → (20 ≤ least_header f) × (least_header f ≤ 40)
header_bounds V4 = (omega arith, omega arith)
header_bounds V6 = (omega arith, omega arith)
