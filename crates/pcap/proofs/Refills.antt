-- A window that is refilled: what is left in it, moved to its start, and what was read behind that. Assumes nothing.
use Rattle.std.proofs.Common.{◌≡◌, ℕ, ◌+◌, ◌-◌, min, List, ◌++◌, length, take, drop, sym, ap, ◌∙◌, zero-add, arith, length-append, length-take, length-drop}
use Rattle.std.proofs.lemmas.List.{drop-take, take_min, drop_min}
use Rattle.std.specs.List.{copy_within}
use lib.Seq.{take-length, take-append-add}
use borrow.Rule.Slice.PartMut.{put_mid}
use Rattle.lists.specs.Bytes.{overwrite}
use Rattle.lists.proofs.Lent.{headed}
use Rattle.pcap.specs.Window.{left_in, refilled}

module _ (at end : ℕ) (w : List ℕ) where
  left-length : length (left_in at end w) ≡ min end (length w) - at
  left-length = simp (length-drop, length-take)

  -- the bytes from a to e, both of them within the window
  pub moved : (e a : ℕ) → e ≡ min end (length w) → a ≡ min at e → copy_within w a e 0 ≡ overwrite (left_in at end w) w
  moved e a p q =
      let b : a + (e - a) ≡ e = omega arith in
      let l : e ≡ length (take end w) = p ∙ sym (length-take end w) in
      let left : take (e - a) (drop a w) ≡ left_in at end w =
      sym (drop-take a (e - a) w) ∙ ap (λ (k : ℕ). drop a (take k w)) (b ∙ p) ∙ ap (drop a) (take_min end w)
      ∙ ap (λ (k : ℕ). drop k (take end w)) (q ∙ ap (min at) l) ∙ drop_min at (take end w)
      in
      let n : e - a ≡ length (left_in at end w) = omega (arith, left-length) in
      rw (left, n, zero-add)

  -- and behind them as much of what was read as fits
  pub behind : (read mid last : List ℕ) (n : ℕ) → n ≡ length (left_in at end w) → mid ≡ overwrite (left_in at end w) w → length mid ≡ length w
      → last ≡ overwrite (take (length (take (length mid - n) (drop n mid))) read) (take (length mid - n) (drop n mid))
      → put_mid n (length mid - n) mid last ≡ overwrite (refilled at end read w) w
  behind read mid last n count moved kept put =
      let left = left_in at end w in
      let room : length (take (length mid - n) (drop n mid)) ≡ length w - length left = simp (length-take, length-drop) (omega (arith, left-length)) in
      let fit : List ℕ = take (length w - length left) read in
      let l : length left + (length w - length left) ≡ length w = omega (arith, left-length) in
      let parts : left ++ fit ≡ refilled at end read w =
      sym (take-append-add left read (length w - length left)) ∙ ap (λ (k : ℕ). take k (left ++ read)) l
      in
      headed w left fit mid last n (sym count) (omega (arith, left-length)) (moved ∙ rw (take-length left))
      (put ∙ rw (room, take-length fit)) ∙ ap (λ (x : List ℕ). overwrite x w) parts

  -- both, by the part of what was read that fits
  module _ (read mid fit last : List ℕ) (n : ℕ)
      (count : n ≡ length (left_in at end w))
      (moved : mid ≡ overwrite (left_in at end w) w)
      (kept : length mid ≡ length w)
      (fits : fit ≡ take (length mid - n) read)
      (put : last ≡ overwrite fit (take (length mid - n) (drop n mid))) where
    in_parts : left_in at end w ++ fit ≡ refilled at end read w
    in_parts =
        let left = left_in at end w in
        let l : length w ≡ length left + (length w - length left) = omega (arith, left-length) in
        let r : length mid - n ≡ length w - length left = omega arith in
        ap (λ (x : List ℕ). left ++ x) (fits ∙ ap (λ (k : ℕ). take k read) r)
        ∙ sym (ap (λ (k : ℕ). take k (left ++ read)) l ∙ take-append-add left read (length w - length left))

    pub refill_done : (n + length fit ≡ length (refilled at end read w)) × (put_mid n (length mid - n) mid last ≡ overwrite (refilled at end read w) w)
    refill_done =
        let left = left_in at end w in (
          rw count (sym (length-append left fit)) ∙ ap length in_parts,
          headed w left fit mid last n (sym count) (omega (arith, left-length)) (moved ∙ rw (take-length left))
              (put ∙ ap (λ (x : List ℕ). x ++ drop (length fit) (take (length mid - n) (drop n mid))) (sym (take-length fit))) ∙ ap (λ (x : List ℕ). overwrite x w) in_parts,
        )
