-- Of what is left, of nothing, or of what was read.
use Rattle.std.proofs.Common.{refl, sym, ◌∙◌}
use Rattle.text.proofs.Reading.{from_left, at-end, from_read}
use Rattle.text.proofs.reader.take_next.Goals as goal

pub returns-then-not-is_used_up : goal.returns-then-not-is_used_up
returns-then-not-is_used_up c =
    let p = from_left _ _ _ _ _ _ (sym c.is_used_up.ensures ∙ c.if-not-is_used_up.true) (rw c.first.ensures at c.take_part.ensures.value) (rw c.first.ensures at c.take_part.ensures.line_after) in
    record { value = p.0; line_after = p.1 }

pub returns-then-n-eq0 : goal.returns-then-n-eq0
returns-then-n-eq0 c =
    let p = at-end _ _ _ _ _ _ (sym c.is_used_up.ensures ∙ c.if-not-is_used_up.false) c.if-n-eq0.true (rw c.length_before.ensures) refl in
    record { value = p.0; line_after = p.1 }

pub returns : goal.returns
returns c =
    let p = from_read _ _ _ _ _ _ (sym c.is_used_up.ensures ∙ c.if-not-is_used_up.false) c.if-n-eq0.false (rw c.first-2.ensures at c.take_part-2.ensures.value) (rw c.first-2.ensures at c.take_part-2.ensures.line_after) in
    record { value = p.0; line_after = p.1 }
