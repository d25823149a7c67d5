-- However each capture is cut, turns in lockstep end with what the whole captures come to. Assumes nothing.
use Rattle.std.proofs.Common.{◌≡◌, ℕ, zero, suc, ◌+◌, ◌^◌, ◌<◌, true, false, List, [], ◌∷◌, ◌++◌, length, sym, refl, ap, ◌∙◌, true≢false, append_assoc, arith, length-append}
use mathlib.Core.Bool.{false≢true}
use mathlib.Core.List.{flatten}
use mathlib.Core.Option.{some}
use Rattle.protocol.specs.declared.state.Listener.{Listener}
use Rattle.pcap.specs.Walker.{Counts}
use Rattle.comparison.specs.Lockstep.{new_comparison, advance_of, list_next}
use Rattle.comparison.specs.ToCome.{rest_of, Ending, ending_from, Kept}
use Rattle.comparison.specs.Windows.{is_last, Stream, fetched, advanced, go_on, lockstep, turns_in, starting, SameInLockstep}
use Rattle.comparison.specs.declared.lockstep.Comparison.{Comparison}
use Rattle.comparison.specs.declared.lockstep.Turn.{Turn}
use Rattle.comparison.specs.declared.lockstep.Turn.TheVariants.{Went, NeedsFirst, NeedsSecond, Over}
use Rattle.comparison.specs.declared.lockstep.Advance.{Advance}
use Rattle.comparison.proofs.Endings.{turn}
use Rattle.comparison.proofs.Whole.{whole, counts}
use Rattle.comparison.proofs.Running.{next-size}

-- all bytes of a stream, and the turns that it may take
abbrev bytes_of : Stream → List ℕ
bytes_of s = s.held ++ flatten s.pieces

abbrev work : Stream → ℕ
work s = length s.held + (length (flatten s.pieces) + length s.pieces)

abbrev ending_of : Comparison → List ℕ → Stream → Stream → Ending
ending_of c list s1 s2 = ending_from (length list) c list (rest_of c.first (bytes_of s1)) (rest_of c.second (bytes_of s2))

last_none : (ps : List (List ℕ)) → is_last ps ≡ true → flatten ps ≡ []
unfolding flatten
last_none [] e = refl
last_none (p ∷ ps) e = absurd (false≢true e)

-- where one more piece is to come
record Fetched (held : List ℕ) (pieces : List (List ℕ)) : Type 0 where
  same : bytes_of (fetched held pieces) ≡ held ++ flatten pieces
  less : work (fetched held pieces) < length held + (length (flatten pieces) + length pieces)

fetch : (held : List ℕ) (pieces : List (List ℕ)) → is_last pieces ≡ false → Fetched held pieces
unfolding flatten
fetch held [] e = absurd (true≢false e)
fetch held (p ∷ ps) e =
    record { same = append_assoc held p (flatten ps); less = omega (arith, length-append held p, length-append p (flatten ps)) }

abbrev Ends : ℕ → Type 0
Ends n = (c : Comparison) (list : List ℕ) (s1 s2 : Stream) → Counts c.first.walker (length (bytes_of s1)) → Counts c.second.walker (length (bytes_of s2))
    → work s1 + work s2 < n → lockstep n c list s1 s2 ≡ some (ending_of c list s1 s2)

module _ (n : ℕ) (later : Ends n) (c : Comparison) (list : List ℕ) (s1 s2 : Stream)
    (room1 : Counts c.first.walker (length (bytes_of s1))) (room2 : Counts c.second.walker (length (bytes_of s2))) (h : work s1 + work s2 < suc n) where
  abbrev a : Advance
  a = advance_of c s1.held 0 (is_last s1.pieces) s2.held 0 (is_last s2.pieces) (length list)

  abbrev next : List ℕ
  next = list_next c s1.held 0 (is_last s1.pieces) s2.held 0 (is_last s2.pieces) list

  sizes : length next ≡ length list
  sizes = next-size c s1.held 0 (is_last s1.pieces) s2.held 0 (is_last s2.pieces) list

  by_turn : (t : Turn)
      → Kept c s1.held 0 (is_last s1.pieces) (flatten s1.pieces) s2.held 0 (is_last s2.pieces) (flatten s2.pieces) list t a next
      → go_on (lockstep n) t a next s1 s2 ≡ some (ending_of c list s1 s2)
  by_turn Went k =
      later a.comparison next (advanced s1 a.at1) (advanced s2 a.at2) k.1.room1 k.1.room2 (omega (arith, k.1.less))
      ∙ ap (λ (m : ℕ). some (ending_from m a.comparison next (rest_of a.comparison.first (bytes_of (advanced s1 a.at1)))
      (rest_of a.comparison.second (bytes_of (advanced s2 a.at2))))) sizes
      ∙ ap some (sym k.0)
  by_turn NeedsFirst k =
      let f = fetch s1.held s1.pieces k.0 in
      let s = fetched s1.held s1.pieces in
      rw (k.1.0, k.1.1)
      (later c list s s2 (rw f.same room1) room2 (omega (arith, f.less))
      ∙ ap (λ (x : List ℕ). some (ending_from (length list) c list (rest_of c.first x) (rest_of c.second (bytes_of s2)))) f.same)
  by_turn NeedsSecond k =
      let f = fetch s2.held s2.pieces k.0 in
      let s = fetched s2.held s2.pieces in
      rw (k.1.0, k.1.1)
      (later c list s1 s room1 (rw f.same room2) (omega (arith, f.less))
      ∙ ap (λ (x : List ℕ). some (ending_from (length list) c list (rest_of c.first (bytes_of s1)) (rest_of c.second x))) f.same)
  by_turn (Over e) k = ap some (sym k)

  one_turn : lockstep (suc n) c list s1 s2 ≡ some (ending_of c list s1 s2)
  unfolding lockstep
  one_turn =
      by_turn a.turn
      (turn c s1.held 0 (is_last s1.pieces) (flatten s1.pieces) s2.held 0 (is_last s2.pieces) (flatten s2.pieces) list room1 room2
      (last_none s1.pieces) (last_none s2.pieces))

ends : (n : ℕ) → Ends n
ends zero c list s1 s2 room1 room2 h = absurd (omega arith)
ends (suc n) c list s1 s2 room1 room2 h = one_turn n (ends n) c list s1 s2 room1 room2 h

pub same_in_lockstep : (l : Listener) (list : List ℕ) (ps1 ps2 : List (List ℕ)) → length (flatten ps1) < 2 ^ 64 → length (flatten ps2) < 2 ^ 64
    → SameInLockstep l list ps1 ps2
same_in_lockstep l list ps1 ps2 h1 h2 n =
    ends (turns_in ps1 + turns_in ps2 + 1 + n) (new_comparison l) list (starting ps1) (starting ps2) (counts (flatten ps1) h1) (counts (flatten ps2) h2) (omega arith)
    ∙ ap some (whole l list (flatten ps1) (flatten ps2) h1 h2)
