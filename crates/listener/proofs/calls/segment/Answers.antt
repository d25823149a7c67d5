-- By the checks before the segment's kind, and after; an opening by what the scan found and the count, another by the place that the search found.
use Rattle.std.proofs.Common.{◌≡◌, length, arith, sym, ◌∙◌}
use lib.ListN.{replicate}
use Rattle.protocol.proofs.Step.{segment-stopped, unwritten, written_over}
use Rattle.decisions.proofs.Parts.{was_stopped}
use Rattle.listener.proofs.Segment.{kind_refused, opening_refused, repeated, opened_plain, opened_by_option, later_refused, later-done}
use Rattle.listener.proofs.calls.segment.Goals as goal

pub returns-in-Err : goal.returns-in-Err
returns-in-Err c =
    let a = c.args in
    let q = unwritten a.out.now c.refused.ensures
    (segment-stopped a.l a.time a.src.now a.seg.now a.iss (length a.out.now) (was_stopped _ _ (sym c.in-Err.ensures))) in
    record { value = q.0; out_after = q.1 }

pub returns-then-not-has_kind : goal.returns-then-not-has_kind
returns-then-not-has_kind c =
    let a = c.args in
    let q = unwritten a.out.now c.refused-then-not-has_kind.ensures
    (kind_refused a.l a.time a.src.now a.seg.now a.iss (length a.out.now) c.in-Ok.ensures c.kind_of-kind.ensures (sym c.has_kind.ensures ∙ c.if-not-has_kind.true)) in
    record { value = q.0; out_after = q.1 }

-- A completion or a reset

pub returns-in-Err-check_later : goal.returns-in-Err-check_later
returns-in-Err-check_later c =
    let a = c.args in
    let full : length a.l.slots ≡ 64 = omega arith in
    let q = unwritten a.out.now c.refused-in-Err-check_later.ensures
    (later_refused a.l a.time a.src.now a.seg.now a.iss (length a.out.now) c.in-Ok.ensures full c.block_of-b.ensures c.kind_of-kind.ensures
    (sym c.is_opening.ensures ∙ c.if-not-is_opening.true) c.find_peer-place.ensures c.slot_at-slot.ensures (sym c.in-Err-check_later.ensures)) in
    record { value = q.0; out_after = q.1 }

pub returns-then-not-is_opening : goal.returns-then-not-is_opening
returns-then-not-is_opening c =
    let a = c.args in
    let full : length a.l.slots ≡ 64 = omega arith in
    let q = unwritten a.out.now (rw c.store.ensures at c.unremarked.ensures)
    (later-done a.l a.time a.src.now a.seg.now a.iss (length a.out.now) c.in-Ok.ensures full c.block_of-b.ensures c.kind_of-kind.ensures
    (sym c.is_opening.ensures ∙ c.if-not-is_opening.true) c.find_peer-place.ensures c.slot_at-slot.ensures (sym c.in_default.ensures) c.later_slot.ensures c.later_event.ensures) in
    record { value = q.0; out_after = q.1 }

-- An opening

pub returns-in-Err-check_opening : goal.returns-in-Err-check_opening
returns-in-Err-check_opening c =
    let a = c.args in
    let full : length a.l.slots ≡ 64 = omega arith in
    let q = unwritten a.out.now c.refused-in-Err-check_opening.ensures
    (opening_refused a.l a.time a.src.now a.seg.now a.iss (length a.out.now) c.in-Ok.ensures full c.block_of-b.ensures c.kind_of-kind.ensures
    (sym c.is_opening.ensures ∙ c.if-not-is_opening.false) c.scan_table-scan.ensures c.slot_at-slot-2.ensures (rw c.is_some.ensures at c.check_opening.ensures) c.in-Err-check_opening.is) in
    record { value = q.0; out_after = q.1 }

pub returns-in-Repeat : goal.returns-in-Repeat
returns-in-Repeat c =
    let a = c.args in
    let full : length a.l.slots ≡ 64 = omega arith in
    let q = written_over a.out.now
    (repeated a.l a.time a.src.now a.seg.now a.iss (length a.out.now) c.in-Ok.ensures full c.block_of-b.ensures c.kind_of-kind.ensures
    (sym c.is_opening.ensures ∙ c.if-not-is_opening.false) c.scan_table-scan.ensures c.slot_at-slot-2.ensures (rw c.is_some.ensures at c.check_opening.ensures)
    c.area_within-area.ensures c.read_options-report.ensures (rw c.in-Repeat.is at c.in-Ok-check_opening.is) (replicate 8 0))
    (c.write_from-written.ensures.value, c.write_from-written.ensures.out_after) c.new_outcome.ensures in
    record { value = q.0; out_after = q.1 }

pub returns-then-not-allows : goal.returns-then-not-allows
returns-then-not-allows c =
    let a = c.args in
    let full : length a.l.slots ≡ 64 = omega arith in
    let q = written_over a.out.now
    (opened_plain a.l a.time a.src.now a.seg.now a.iss (length a.out.now) c.in-Ok.ensures full c.block_of-b.ensures c.kind_of-kind.ensures
    (sym c.is_opening.ensures ∙ c.if-not-is_opening.false) c.scan_table-scan.ensures c.slot_at-slot-2.ensures (rw c.is_some.ensures at c.check_opening.ensures)
    c.area_within-area.ensures c.read_options-report.ensures (rw c.in_default-opening.is at c.in-Ok-check_opening.is) c.allows.ensures c.if-not-allows.true
    c.open_plain-new.ensures (replicate 8 0))
    (c.write_from-written-then-not-allows.ensures.value, c.write_from-written-then-not-allows.ensures.out_after)
    (rw c.store-then-not-allows.ensures at c.new_outcome-then-not-allows.ensures) in
    record { value = q.0; out_after = q.1 }

pub returns : goal.returns
returns c =
    let a = c.args in
    let full : length a.l.slots ≡ 64 = omega arith in
    let q = written_over a.out.now
    (opened_by_option a.l a.time a.src.now a.seg.now a.iss (length a.out.now) c.in-Ok.ensures full c.block_of-b.ensures c.kind_of-kind.ensures
    (sym c.is_opening.ensures ∙ c.if-not-is_opening.false) c.scan_table-scan.ensures c.slot_at-slot-2.ensures (rw c.is_some.ensures at c.check_opening.ensures)
    c.area_within-area.ensures c.read_options-report.ensures (rw c.in_default-opening.is at c.in-Ok-check_opening.is) c.allows.ensures c.if-not-allows.false
    c.payload_after-payload.ensures c.coding_of.ensures c.open_by_option-opened.ensures)
    (c.write_from-written-2.ensures.value, c.write_from-written-2.ensures.out_after)
    (rw c.store-2.ensures at c.new_outcome-2.ensures) in
    record { value = q.0; out_after = q.1 }
