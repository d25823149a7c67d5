-- A part of the input taken: from what is left, from a read, or none at the input's end; no byte is lost and none is taken twice. Assumes nothing.
use Prim.Native.Nat.{ℕ, ◌-◌, ◌≤◌}
use mathlib.Core.Path.{◌≡◌, sym, ◌∙◌}
use mathlib.Core.Bool.{true, false}
use mathlib.Core.List.{List, ◌++◌}
use native.Mathlib.Omega.{arith}
use lib.Dec.{eqb}
use lib.ListN.{take, drop}
use lib.Seq.{take-nil}
use borrow.Author.Tests.{ne_eqb}
use Rattle.text.specs.declared.reader.Reader.{Reader}
use Rattle.text.specs.Line.{before_feed, feed_of}
use Rattle.text.specs.Reader.{length_before, part_taken, ended, is_used_up, offered, next_taken}
use Rattle.text.specs.Put.{laid}
use Rattle.text.proofs.Lines.{parted}
use Rattle.text.proofs.Puts.{laid_none}

module _ (r : Reader) (n : ℕ) (input line line' : List ℕ) where
  -- what is due of the reader, and of the line
  abbrev Due : Reader → Type 0
  Due q = ((q ≡ next_taken r n input) × (q.left ≤ r.left - 1)) × (line' ≡ laid (length_before r) (before_feed (offered r n input)) line)

  pub from_left : (q : Reader) → is_used_up r ≡ false → q ≡ part_taken r r.next (take r.end input)
      → line' ≡ laid (length_before r) (before_feed (drop r.next (take r.end input))) line → Due q
  unfolding next_taken offered
  from_left q t e l = ((rw t e, rw e (omega arith)), rw t l)

  pub at-end : (q : Reader) → is_used_up r ≡ true → n ≡ 0 → q ≡ ended r → line' ≡ line → Due q
  unfolding next_taken offered
  at-end q t z e l = ((rw (t, z) e, rw e (omega arith)), rw (t, z, take-nil) (l ∙ sym (laid_none _ line)))

  pub from_read : (q : Reader) → is_used_up r ≡ true → (n ≡ 0 → ⊥) → q ≡ part_taken r 0 (take n input)
      → line' ≡ laid (length_before r) (before_feed (take n input)) line → Due q
  unfolding next_taken offered
  from_read q t z e l = ((rw (t, ne_eqb _ _ z) e, rw e (omega arith)), rw t l)

-- what was left, or what a read brought, is what the line got, its line feed, and what is left then
module _ (r : Reader) (n : ℕ) (input : List ℕ) where
  pub left_parted : is_used_up r ≡ false
      → offered r n input ≡ before_feed (offered r n input) ++ (feed_of (next_taken r n input).complete ++ drop (next_taken r n input).next (take r.end input))
  unfolding offered next_taken
  left_parted t = rw t (parted (length_before r) r.next (take r.end input))

  pub read_parted : is_used_up r ≡ true → eqb n 0 ≡ false
      → offered r n input ≡ before_feed (offered r n input) ++ (feed_of (next_taken r n input).complete ++ drop (next_taken r n input).next (take n input))
  unfolding offered next_taken
  read_parted t z = rw (t, z) (parted (length_before r) 0 (take n input))
