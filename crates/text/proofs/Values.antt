-- The value of a word that was read: a number is at most the most that it may be, and a byte string has as many bytes as were counted. Assumes nothing.
use Prim.Native.Nat.{ℕ, ◌≤◌}
use mathlib.Core.Path.{◌≡◌, refl}
use mathlib.Core.Bool.{Bool, true, false, cond, ◌&&◌}
use mathlib.Core.List.{List, []}
use native.Mathlib.Omega.{arith}
use lib.Dec.{leb}
use lib.ListN.{length}
use borrow.Author.Tests.{leb-true}
use Rattle.lists.proofs.Bools.{and_true}
use Rattle.std.specs.Prelude.{Some, None}
use Rattle.text.specs.Number.{is_number, value_from, number_as, number_in}
use Rattle.text.specs.ByteString.{bytes_of, is_readable, bytes_in, bytes_read}

-- what is made of a number that was read, or of none
module _ {A : Type 0} (make : ℕ → A) (s : List ℕ) (most : ℕ) where
  pub number_made : (n : ℕ) → Some n ≡ number_in s most → Some (make n) ≡ number_as make s most
  unfolding number_as
  number_made n e = go (is_number s && leb (value_from 0 s) most) e
    where
      go : (t : Bool) → Some n ≡ cond t (Some (value_from 0 s)) None → Some (make n) ≡ cond t (Some (make (value_from 0 s))) None
      go true e = cc
      go false e = cc

  pub none_made : None ≡ number_in s most → None ≡ number_as make s most
  unfolding number_as
  none_made e = go (is_number s && leb (value_from 0 s) most) e
    where
      go : (t : Bool) → None ≡ cond t (Some (value_from 0 s)) None → None ≡ cond t (Some (make (value_from 0 s))) None
      go true e = cc
      go false e = refl

pub value_most : (s : List ℕ) (most v : ℕ) → number_in s most ≡ Some v → v ≤ most
unfolding number_as
value_most s most v e = go (is_number s && leb (value_from 0 s) most) refl e
  where
    go : (t : Bool) → is_number s && leb (value_from 0 s) most ≡ t → cond t (Some (value_from 0 s)) None ≡ Some v → v ≤ most
    go true h e =
        let k : value_from 0 s ≡ v = cc in
        omega (arith, leb-true (value_from 0 s) most (and_true (is_number s) _ h).1)
    go false h e = cc

pub bytes_counted : (s : List ℕ) (out_len n : ℕ) → bytes_read s out_len ≡ Some n → length (bytes_in s out_len) ≡ n
unfolding bytes_in bytes_read
bytes_counted s out_len n e = go (is_readable s out_len) e
  where
    go : (t : Bool) → cond t (Some (length (bytes_of s))) None ≡ Some n → length (cond t (bytes_of s) []) ≡ n
    go true e = cc
    go false e = cc
