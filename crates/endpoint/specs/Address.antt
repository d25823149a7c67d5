-- Document 01, "Numbers returned" (2), "Cookie" (the block) and "Listener" (the name): addresses.
-- Assumes nothing.
use Rattle.std.specs.Prelude.{ℕ, ◌-◌, List, ◌++◌, Bool, cond, ◌&&◌, ◌||◌, eqb, length, replicate}
use Rattle.lists.specs.Bytes.{same_bytes}
use Rattle.endpoint.specs.declared.address.Family.{Family}
use Rattle.endpoint.specs.declared.address.Family.TheVariants.{V4, V6}

-- how many bytes an address of the family has
abbrev pub size : Family → ℕ
size V4 = 4
size V6 = 16

-- the lengths that addresses have
abbrev pub is_size : ℕ → Bool
is_size n = eqb n 4 || eqb n 16

-- the family of addresses of such a length; V6 for a length that no family has
abbrev pub family_of : ℕ → Family
family_of n = cond (eqb n 4) V4 V6

-- not refusal 2: the address is of the family fixed at the start
abbrev pub is_address : Family → List ℕ → Bool
is_address f a = eqb (length a) (size f)

-- the block of 16 bytes: the address, followed by zero bytes
unfoldable pub block : List ℕ → List ℕ
block a = a ++ replicate (16 - length a) 0

-- two names are the same: the ports, and the blocks of the addresses
abbrev pub same_name : ℕ → ℕ → List ℕ → List ℕ → Bool
same_name p q a b = eqb p q && same_bytes a b

-- 01's name of a connection: source address and source port
pub record Peer : Type 0 where
  pub address : List ℕ
  pub port : ℕ

unfoldable pub same_peer : Peer → Peer → Bool
same_peer m n = same_bytes m.address n.address && eqb m.port n.port
