-- By the SYN flag.
use Rattle.std.proofs.Common.{false, sym, ap, ◌∙◌, ap₂}
use Rattle.segment.specs.declared.options.Options.{Options}
use Rattle.segment.specs.declared.options.Remarks.{Remarks}
use Rattle.segment.specs.declared.options.Report.{Report}
use Rattle.segment.specs.Options.{if_syn, options_of}
use Rattle.segment.specs.Remarks.{report_in, remarks_of}
use Rattle.segment.proofs.options.segment_options.Goals as goal

pub returns-then-has_syn : goal.returns-then-has_syn
unfolding options_of remarks_of
returns-then-has_syn c = rw (sym c.if-has_syn.ensures) (c.read_options-found.ensures ∙ ap (report_in _) c.option_area.ensures)

pub returns-else-has_syn : goal.returns-else-has_syn
unfolding options_of remarks_of
returns-else-has_syn c =
    let e = c.read_options-found.ensures ∙ ap (report_in _) c.option_area.ensures in
    rw (sym c.if-has_syn.ensures)
    (ap₂ (λ (o : Options) (r : Remarks). record { options = o; remarks = r }) (ap (λ (x : Report). if_syn false x.options) e) c.no_remarks.ensures)
