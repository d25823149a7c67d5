-- A whole record ends in the window.
use Rattle.std.proofs.Common.{drop, length-drop, sym, ap, ◌∙◌, arith}
use Rattle.pcap.specs.Record.{next_of}
use Rattle.pcap.proofs.Next.{whole}
use Rattle.pcap.proofs.walker.take_record.Goals as goal

pub overflow_add-result-in-Ok-Some-2 : goal.overflow_add-result-in-Ok-Some-2
overflow_add-result-in-Ok-Some-2 c =
    let a = c.args in
    let k = c.in-Ok-Some in
    let w = whole a.order (drop a.at a.window.now) k.head (ap (next_of a.order) (sym c.rest_from.ensures) ∙ sym (rw k.field-0-is at k.ensures)) in
    omega (arith, w.fits, length-drop a.at a.window.now)
