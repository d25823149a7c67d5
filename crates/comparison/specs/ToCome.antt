-- Document 02, Item 12: what a comparison will come to, with these bytes to come; and that a turn does not change it, however the bytes are cut into windows.
-- Assumes nothing.
use Rattle.std.specs.Prelude.{◌≡◌, ℕ, ◌+◌, ◌<◌, Bool, false, List, [], ◌∷◌, ◌++◌, length, drop}
use Rattle.protocol.specs.declared.state.Listener.{Listener}
use Rattle.pcap.specs.Walker.{Counts, finish_of, Drained, drain}
use Rattle.walk.specs.Walk.{calls_of}
use Rattle.comparison.specs.Account.{Judged, judged, lent, Account}
use Rattle.comparison.specs.Difference.{difference_of}
use Rattle.comparison.specs.Listing.{more, unpaired, tallied, list_then}
use Rattle.comparison.specs.Lockstep.{stay, advance_of, list_next}
use Rattle.comparison.specs.declared.list.Tally.{Tally}
use Rattle.comparison.specs.declared.site.Site.{Site}
use Rattle.comparison.specs.declared.lockstep.Comparison.{Comparison}
use Rattle.comparison.specs.declared.lockstep.Ends.{Ends}
use Rattle.comparison.specs.declared.lockstep.Turn.{Turn}
use Rattle.comparison.specs.declared.lockstep.Turn.TheVariants.{Went, NeedsFirst, NeedsSecond, Over}
use Rattle.comparison.specs.declared.lockstep.Advance.{Advance}
use Rattle.comparison.specs.declared.compare.Finding.{Finding}

-- A site's account of the bytes to come

abbrev pub account_from : Listener → ℕ → Drained → Account
account_from l place d = record { answers = judged l (calls_of l.local place d.records lent); end = finish_of d.walker d.rest }

unfoldable pub rest_of : Site → List ℕ → Account
rest_of s bytes = account_from s.listener s.walker.records (drain s.walker 0 bytes)

-- all pairs to come are tallied, and listed in a room of n numbers
unfoldable pub tally_all : ℕ → Tally → List Judged → List Judged → Tally
tally_all n t [] [] = t
tally_all n t (x ∷ xs) [] = tally_all n (tallied n t unpaired) xs []
tally_all n t [] (y ∷ ys) = tally_all n (tallied n t unpaired) [] ys
tally_all n t (x ∷ xs) (y ∷ ys) = tally_all n (tallied n t (difference_of x y)) xs ys

unfoldable pub list_all : ℕ → Tally → List ℕ → List Judged → List Judged → List ℕ
list_all n t list [] [] = list
list_all n t list (x ∷ xs) [] = list_all n (tallied n t unpaired) (list_then t unpaired list) xs []
list_all n t list [] (y ∷ ys) = list_all n (tallied n t unpaired) (list_then t unpaired list) [] ys
list_all n t list (x ∷ xs) (y ∷ ys) = list_all n (tallied n t (difference_of x y)) (list_then t (difference_of x y) list) xs ys

-- and counted
unfoldable pub fed_all : ℕ → List Judged → ℕ
fed_all k [] = k
fed_all k (x ∷ xs) = fed_all (more k) xs

-- what a comparison came to that is over
abbrev pub ended_by : Comparison → Ends → Finding
ended_by c e =
    record {
      listed = c.tally.listed;
      remaining = c.tally.remaining;
      first = record { fed = c.first.fed; end = e.first };
      second = record { fed = c.second.fed; end = e.second };
    }

-- the finding, and the lent room
pub record Ending : Type 0 where
  pub finding : Finding
  pub list : List ℕ

-- what it will come to, by the accounts to come
abbrev pub ending_from : ℕ → Comparison → List ℕ → Account → Account → Ending
ending_from n c list a b =
    record {
      finding = record {
        listed = (tally_all n c.tally a.answers b.answers).listed;
        remaining = (tally_all n c.tally a.answers b.answers).remaining;
        first = record { fed = fed_all c.first.fed a.answers; end = a.end };
        second = record { fed = fed_all c.second.fed b.answers; end = b.end };
      };
      list = list_all n c.tally list a.answers b.answers;
    }

-- A turn, at a place of each window, behind which the bytes f1 and f2 are still to come
module _ (c : Comparison) (w1 : List ℕ) (at1 : ℕ) (last1 : Bool) (f1 : List ℕ) (w2 : List ℕ) (at2 : ℕ) (last2 : Bool) (f2 : List ℕ) (list : List ℕ) where
  -- what will come of it
  abbrev pub Was : Ending
  Was = ending_from (length list) c list (rest_of c.first (drop at1 w1 ++ f1)) (rest_of c.second (drop at2 w2 ++ f2))

  abbrev pub Will : Advance → List ℕ → Ending
  Will a next =
      ending_from (length list) a.comparison next (rest_of a.comparison.first (drop a.at1 w1 ++ f1)) (rest_of a.comparison.second (drop a.at2 w2 ++ f2))

  -- bytes were taken, and the counts hold the rest
  pub record Still (a : Advance) : Type 0 where
    pub less : length (drop a.at1 w1) + length (drop a.at2 w2) < length (drop at1 w1) + length (drop at2 w2)
    pub room1 : Counts a.comparison.first.walker (length (drop a.at1 w1 ++ f1))
    pub room2 : Counts a.comparison.second.walker (length (drop a.at2 w2 ++ f2))

  -- It went on, and comes to the same; or it needs more of a window that is not the last, and changed nothing; or it is over, and has come to it.
  abbrev pub Kept : Turn → Advance → List ℕ → Type 0
  Kept Went a next = (Was ≡ Will a next) × Still a
  Kept NeedsFirst a next = (last1 ≡ false) × ((a ≡ stay c NeedsFirst at1 at2) × (next ≡ list))
  Kept NeedsSecond a next = (last2 ≡ false) × ((a ≡ stay c NeedsSecond at1 at2) × (next ≡ list))
  Kept (Over e) a next = Was ≡ record { finding = ended_by a.comparison e; list = next }

  abbrev pub TurnKeeps : Type 0
  TurnKeeps = Kept (advance_of c w1 at1 last1 w2 at2 last2 (length list)).turn (advance_of c w1 at1 last1 w2 at2 last2 (length list)) (list_next c w1 at1 last1 w2 at2 last2 list)
