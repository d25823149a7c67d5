-- Sums of four bytes, in another order.
-- Assumes nothing.
use mathlib.Core.Path.{◌≡◌, ap, ap₂, sym, ◌∙◌}
use Prim.Native.Nat.{ℕ}
use Rattle.std.specs.Int.Bits.{xor_assoc}
use Rattle.std.proofs.lemmas.Nat.{xor_comm}
use Rattle.cipher.specs.Field.{◌⊕◌}

-- the first goes last
pub xor_turn : (a b c d : ℕ) → a ⊕ b ⊕ c ⊕ d ≡ b ⊕ c ⊕ d ⊕ a
xor_turn a b c d =
    xor_assoc (a ⊕ b) c d ∙ xor_assoc a b (c ⊕ d) ∙ ap (λ (x : ℕ). a ⊕ x) (sym (xor_assoc b c d)) ∙ xor_comm a (b ⊕ c ⊕ d)

-- added in pairs, the first with the last
pub xor_pairs : (a b c d : ℕ) → (a ⊕ d) ⊕ (c ⊕ b) ≡ a ⊕ b ⊕ c ⊕ d
xor_pairs a b c d = ap₂ ◌⊕◌ (xor_comm a d) (xor_comm c b) ∙ sym (xor_assoc (d ⊕ a) b c) ∙ xor_turn d a b c
