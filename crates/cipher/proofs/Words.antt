-- Words and states: equal where each of the four parts is.
-- Assumes nothing.
use mathlib.Core.Path.{◌≡◌}
use mathlib.Core.List.{[], ◌∷◌}
use native.Mathlib.Omega.{arith}
use lib.ListN.{length}
use Rattle.std.proofs.lemmas.Grind.{common_steps}
use Rattle.cipher.specs.Cipher.{Bytes, State, column}

pub four_equal : {A : Type 0} {a b c d a' b' c' d' : A} → a ≡ a' → b ≡ b' → c ≡ c' → d ≡ d' → (a ∷ b ∷ c ∷ d ∷ []) ≡ (a' ∷ b' ∷ c' ∷ d' ∷ [])
four_equal p q r s = cc

-- a state whose four columns are these
pub columns_are : (s : State) {a b c d : Bytes} → length s ≡ 4 → column s 0 ≡ a → column s 1 ≡ b → column s 2 ≡ c → column s 3 ≡ d → s ≡ (a ∷ b ∷ c ∷ d ∷ [])
columns_are s h e f g k = grind (arith, common_steps)
