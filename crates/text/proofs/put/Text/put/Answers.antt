-- Past the end, the front of a longer text, or all of one that fits.
use Rattle.std.proofs.Common.{◌≡◌, ℕ, ◌+◌, ◌-◌, ◌≤◌, ◌<◌, arith, ap, ◌∙◌, length-take, length-drop}
use Rattle.text.specs.Put.{place_after}
use Rattle.text.proofs.Puts.{as_text, put_past, put_front, put_whole}
use Rattle.text.proofs.put.Text.put.Goals as goal

-- the place where the room is used up
full : (at n m r : ℕ) → at ≤ m → m - at < n → r ≡ m - at → at + r ≡ place_after at n m
unfolding place_after
full at n m r h k e = omega arith

pub returns-then-self : goal.returns-then-self
returns-then-self c = let t = c.args.self.now in as_text c.args.src.now t _ _ (put_past t.out.now c.args.src.now t.at (omega arith))

pub returns-then-src-room : goal.returns-then-src-room
returns-then-src-room c =
    let t = c.args.self.now in
    let s = c.args.src.now in
    let w = c.copy.ensures.whole (simp (length-take, length-drop) (omega arith)) in
    let n = full t.at _ _ _ (omega arith) (omega arith) (w.0 ∙ simp (length-take) (omega arith)) in
    as_text s t _ _ (n, (put_front t.out.now s t.at _ (omega arith) (omega arith) w.1).1)

pub returns : goal.returns
returns c =
    let t = c.args.self.now in
    let s = c.args.src.now in
    let w = c.copy-2.ensures.whole (simp (length-take, length-drop) (omega arith)) in
    let p = put_whole t.out.now s t.at _ (omega arith) (omega arith) w.1 in
    as_text s t _ _ (ap (λ (k : ℕ). t.at + k) w.0 ∙ p.0, p.1)
