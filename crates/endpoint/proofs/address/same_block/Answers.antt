-- A byte more of each, or none.
use Rattle.std.proofs.Common.{◌≡◌, ℕ, Bool, true, false, List, [], ◌∷◌, length, eqb, sym, ap, ◌∙◌, inl, inr, arith}
use mathlib.Core.Bool.{◌&&◌}
use Rattle.std.specs.Slice.Iter.{iter_rest}
use Rattle.std.specs.Iterator.Adapters.{zip_first, zip_second}
use Rattle.lists.specs.Bytes.{same_bytes}
use Rattle.endpoint.proofs.address.same_block.Goals as goal

one_more : (same : Bool) (x y : ℕ) (a b s t : List ℕ) (whole : Bool) → s ≡ x ∷ a → t ≡ y ∷ b → same && same_bytes s t ≡ whole → (same && eqb x y) && same_bytes a b ≡ whole
unfolding same_bytes
one_more true x y a b s t whole e f h = ap (λ (u : List ℕ). same_bytes u (y ∷ b)) (sym e) ∙ ap (same_bytes s) (sym f) ∙ h
one_more false x y a b s t whole e f h = h

none_left : (same : Bool) (s t : List ℕ) (whole : Bool) → length s ≡ 0 → length t ≡ 0 → same && same_bytes s t ≡ whole → same ≡ whole
unfolding same_bytes
none_left true [] [] whole e f h = h
none_left false [] [] whole e f h = h
none_left same (x ∷ s) t whole e f h = absurd (omega arith)
none_left same [] (y ∷ t) whole e f h = absurd (omega arith)

pub loop-x-preserved : goal.loop-x-preserved
loop-x-preserved c =
    let q = c.loop-x in
    let v = c.in-Some.ensures.steps in
    let s = iter_rest (zip_first q.x-iterator) in
    let t = iter_rest (zip_second q.x-iterator) in
    record {
      level = omega (arith, ap length v.0, ap length v.1, q.invariant.level);
      whole = one_more q.same c.in-Some.x.now c.in-Some.y.now _ _ s t _ v.0 v.1 q.invariant.whole;
    }

pub returns : goal.returns
returns c =
    let q = c.loop-x in
    let s = iter_rest (zip_first q.x-iterator) in
    let t = iter_rest (zip_second q.x-iterator) in
    let n : (length s ≡ 0) × (length t ≡ 0) = elim c.in-None.ensures.steps [ inl v ↦ (v.1.0, omega (arith, v.1.0, q.invariant.level)) | inr v ↦ (omega (arith, v.1.0, q.invariant.level), v.1.0) ] in
    none_left q.same s t _ n.0 n.1 q.invariant.whole
