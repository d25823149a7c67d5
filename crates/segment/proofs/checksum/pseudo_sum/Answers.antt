-- The sum of the pseudo-header, part by part.
use Rattle.std.proofs.Common.{◌≡◌, true, false, [], ◌∷◌, get_or, eq-eqb, ne_eqb, refl, ap, ◌∙◌}
use Rattle.segment.specs.Checksum.{ones_sum, pseudo_tail}
use Rattle.segment.proofs.OneFamily.{family, pseudo_parts}
use Rattle.segment.proofs.checksum.pseudo_sum.Goals as goal

pub returns-then-src-eq4 : goal.returns-then-src-eq4
returns-then-src-eq4 c =
    let a = c.args in
    let r = c.to_be_bytes.result in
    let e : 0 ∷ 6 ∷ get_or r 6 0 ∷ get_or r 7 0 ∷ [] ≡ pseudo_tail true a.len = rw c.to_be_bytes.ensures refl in
    pseudo_parts a.src.now a.dst.now a.len true _ _ _ (family _ _ c.requires) (eq-eqb _ _ c.if-src-eq4.true) c.add_bytes.ensures c.add_bytes-sum.ensures
    (c.add_bytes-then-src-eq4.ensures ∙ ap (ones_sum c.add_bytes-sum.result) e)

pub returns-else-src-eq4 : goal.returns-else-src-eq4
returns-else-src-eq4 c =
    let a = c.args in
    let r = c.to_be_bytes.result in
    let e : get_or r 4 0 ∷ get_or r 5 0 ∷ get_or r 6 0 ∷ get_or r 7 0 ∷ 0 ∷ 0 ∷ 0 ∷ 6 ∷ [] ≡ pseudo_tail false a.len = rw c.to_be_bytes.ensures refl in
    pseudo_parts a.src.now a.dst.now a.len false _ _ _ (family _ _ c.requires) (ne_eqb _ _ c.if-src-eq4.false) c.add_bytes.ensures c.add_bytes-sum.ensures
    (c.add_bytes-else-src-eq4.ensures ∙ ap (ones_sum c.add_bytes-sum.result) e)
