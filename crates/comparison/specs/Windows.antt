-- Document 02, Item 12: captures of any size, in lockstep and in pieces: turn after turn, with a next piece of the one that needs it.
-- Assumes nothing.
use Rattle.std.specs.Prelude.{◌≡◌, ℕ, zero, suc, ◌+◌, ◌<◌, Bool, true, false, List, [], ◌∷◌, ◌++◌, length, drop}
use Rattle.segment.specs.Refusal.{all_clear}
use mathlib.Core.List.{flatten}
use Rattle.std.proofs.Math.Option.{Option, none, some}
use Rattle.protocol.specs.declared.state.Listener.{Listener}
use Rattle.pcap.specs.Record.{record_header, most_captured}
use Rattle.comparison.specs.Account.{account_of}
use Rattle.comparison.specs.Compared.{finding_of, listed_in}
use Rattle.comparison.specs.Lockstep.{new_comparison, stay, advance_of, list_next}
use Rattle.comparison.specs.ToCome.{ended_by, Ending}
use Rattle.comparison.specs.declared.lockstep.Comparison.{Comparison}
use Rattle.comparison.specs.declared.lockstep.Ends.{Ends}
use Rattle.comparison.specs.declared.lockstep.Turn.{Turn}
use Rattle.comparison.specs.declared.lockstep.Turn.TheVariants.{Went, NeedsFirst, NeedsSecond, Over}
use Rattle.comparison.specs.declared.lockstep.Advance.{Advance}

-- Two whole captures, for the loop over them: before the first turn
abbrev pub begun : Listener → Advance
begun l = stay (new_comparison l) Went 0 0

abbrev pub is_going : Turn → Bool
is_going Went = true
is_going NeedsFirst = false
is_going NeedsSecond = false
is_going (Over e) = false

abbrev pub no_ends : Ends
no_ends = record { first = all_clear; second = all_clear }

abbrev pub ends_by : Turn → Ends
ends_by Went = no_ends
ends_by NeedsFirst = no_ends
ends_by NeedsSecond = no_ends
ends_by (Over e) = e

-- no piece is to come
abbrev pub is_last : List (List ℕ) → Bool
is_last [] = true
is_last (p ∷ ps) = false

-- Captures in pieces

-- one of them: the bytes in hand, and the pieces to come
pub record Stream : Type 0 where
  pub held : List ℕ
  pub pieces : List (List ℕ)

-- with the next piece
abbrev pub fetched : List ℕ → List (List ℕ) → Stream
fetched held [] = record { held = held; pieces = [] }
fetched held (p ∷ ps) = record { held = held ++ p; pieces = ps }

abbrev pub advanced : Stream → ℕ → Stream
advanced s n = record { held = drop n s.held; pieces = s.pieces }

abbrev pub go_on : (Comparison → List ℕ → Stream → Stream → Option Ending) → Turn → Advance → List ℕ → Stream → Stream → Option Ending
go_on next Went a list s1 s2 = next a.comparison list (advanced s1 a.at1) (advanced s2 a.at2)
go_on next NeedsFirst a list s1 s2 = next a.comparison list (fetched s1.held s1.pieces) s2
go_on next NeedsSecond a list s1 s2 = next a.comparison list s1 (fetched s2.held s2.pieces)
go_on next (Over e) a list s1 s2 = some (record { finding = ended_by a.comparison e; list = list })

-- so many turns at most
unfoldable pub lockstep : ℕ → Comparison → List ℕ → Stream → Stream → Option Ending
lockstep zero c list s1 s2 = none
lockstep (suc n) c list s1 s2 =
    let a = advance_of c s1.held 0 (is_last s1.pieces) s2.held 0 (is_last s2.pieces) (length list) in
    go_on (lockstep n) a.turn a (list_next c s1.held 0 (is_last s1.pieces) s2.held 0 (is_last s2.pieces) list) s1 s2

-- how many are enough
abbrev pub turns_in : List (List ℕ) → ℕ
turns_in pieces = length (flatten pieces) + length pieces

abbrev pub starting : List (List ℕ) → Stream
starting pieces = record { held = []; pieces = pieces }

-- However each capture of under 2^64 bytes is cut, the comparison ends, and comes to what the whole captures come to. A side is read on only where it needs
-- more. A program that learns the end by a read that brings nothing has an empty last piece.
abbrev pub SameInLockstep : Listener → List ℕ → List (List ℕ) → List (List ℕ) → Type 0
SameInLockstep l list ps1 ps2 =
    (n : ℕ) → lockstep (turns_in ps1 + turns_in ps2 + 1 + n) (new_comparison l) list (starting ps1) (starting ps2)
    ≡ some (record {
      finding = finding_of (account_of l (flatten ps1)) (account_of l (flatten ps2)) (length list);
      list = listed_in (account_of l (flatten ps1)) (account_of l (flatten ps2)) list;
    })

-- And a window that needs more holds less than one record.
pub record KeepsLittle (c : Comparison) (w1 : List ℕ) (at1 : ℕ) (last1 : Bool) (w2 : List ℕ) (at2 : ℕ) (last2 : Bool) (n : ℕ) : Type 0 where
  pub first : (advance_of c w1 at1 last1 w2 at2 last2 n).turn ≡ NeedsFirst → length (drop at1 w1) < record_header + most_captured
  pub second : (advance_of c w1 at1 last1 w2 at2 last2 n).turn ≡ NeedsSecond → length (drop at2 w2) < record_header + most_captured
