-- What is found and what is remarked, each by one step of its reading.
use Rattle.std.proofs.Common.{◌≡◌, ℕ, ◌+◌, ◌≤◌, length, sym, refl, ap, ◌∙◌, ap₂, arith}
use Rattle.segment.specs.Bytes.{byte_at}
use Rattle.segment.specs.Options.{with_option, stands, read_options}
use Rattle.segment.specs.Remarks.{with_remark, broken_at, remarks_in, report_with}
use Rattle.segment.specs.RemarkSamples.{Agrees}
use Rattle.segment.specs.declared.options.Options.{Options}
use Rattle.segment.specs.declared.options.Remarks.{Remarks}
use Rattle.segment.specs.declared.options.Report.{Report}
use Rattle.segment.proofs.ReadFrom.{read_at, ends, passes_one, passes_option, breaks_off, none_left}
use Rattle.segment.proofs.Remarks.{next_agrees, skipped-most}
use Rattle.segment.proofs.options.read_options.Goals as goal

-- the report, from what is found and what is remarked
both : {o u : Options} {r v : Remarks} → o ≡ u → r ≡ v → ◌≡◌ {A = Report} (record { options = o; remarks = r }) (record { options = u; remarks = v })
both e f = ap₂ (λ (o : Options) (r : Remarks). record { options = o; remarks = r }) e f

pub loop-at-init : goal.loop-at-init
unfolding read_options remarks_in
loop-at-init c =
    let s = c.args.area.now in
    let e = c.no_remarks.ensures in
    record {
      passed = omega arith;
      skipped = rw e (omega arith);
      agrees = ap (λ (r : Remarks). r.used) e;
      found = refl;
      remarked = ap (λ (r : Remarks). read_at (with_remark c.args.codings s) broken_at s 0 r) e;
    }

pub returns-in-0 : goal.returns-in-0
returns-in-0 c =
    let q = c.loop-at in
    let s = c.args.area.now in
    let g = c.args.codings in
    both (sym (ends (with_option g s) stands s q.at q.found.options (omega arith) c.in-0.is) ∙ q.invariant.found)
    (sym (ends (with_remark g s) broken_at s q.at q.found.remarks (omega arith) c.in-0.is) ∙ q.invariant.remarked)

pub loop-at-preserved-in-1 : goal.loop-at-preserved-in-1
loop-at-preserved-in-1 c =
    let q = c.loop-at in
    let s = c.args.area.now in
    let g = c.args.codings in
    record {
      passed = omega arith;
      skipped = omega arith;
      agrees = q.invariant.agrees;
      found = sym (passes_one (with_option g s) stands s q.at q.found.options (omega arith) c.in-1.is) ∙ q.invariant.found;
      remarked = sym (passes_one (with_remark g s) broken_at s q.at q.found.remarks (omega arith) c.in-1.is) ∙ q.invariant.remarked;
    }

pub returns-in_default-option_at : goal.returns-in_default-option_at
returns-in_default-option_at c =
    let q = c.loop-at in
    let s = c.args.area.now in
    let g = c.args.codings in
    let v = sym c.in_default-option_at.ensures.variant in
    both (sym (breaks_off (with_option g s) stands s q.at q.found.options (omega arith) (λ z. omega arith) (λ z. omega arith) v) ∙ q.invariant.found)
    (sym (breaks_off (with_remark g s) broken_at s q.at q.found.remarks (omega arith) (λ z. omega arith) (λ z. omega arith) v) ∙ q.invariant.remarked)

pub loop-at-preserved : goal.loop-at-preserved
unfolding with_option with_remark
loop-at-preserved c =
    let q = c.loop-at in
    let s = c.args.area.now in
    let g = c.args.codings in
    let v = sym c.in-Some.ensures.variant in
    let o = c.in-Some.ensures.found in
    let l = byte_at s (q.at + 1) in
    let next : c.with_option-found.result ≡ report_with g s q.found q.at l = c.with_option-found.ensures ∙ (λ i. report_with g (o.0 i) q.found (o.1 i) (o.2 i)) in
    let options : c.with_option-found.result.options ≡ with_option g s q.found.options q.at l = ap (λ (r : Report). r.options) next in
    let remarks : c.with_option-found.result.remarks ≡ with_remark g s q.found.remarks q.at l = ap (λ (r : Report). r.remarks) next in
    let on : q.at + c.in-Some.option.len ≡ q.at + l = ap (λ (k : ℕ). q.at + k) o.2 in
    let fits : (2 ≤ c.in-Some.option.len) × (q.at + c.in-Some.option.len ≤ length s) = omega (arith, c.in-Some.option.fits, o.1, ap length o.0) in
    record {
      passed = fits.1;
      skipped = rw remarks (omega (arith, skipped-most g s q.at l q.found.remarks, fits));
      agrees = rw next (next_agrees g s q.at l q.found.options.fast q.found.remarks.used q.invariant.agrees);
      found =
          ap₂ (read_at (with_option g s) stands s) on options
          ∙ sym (passes_option (with_option g s) stands s q.at q.found.options (omega arith) (λ z. omega arith) (λ z. omega arith) v) ∙ q.invariant.found;
      remarked =
          ap₂ (read_at (with_remark g s) broken_at s) on remarks
          ∙ sym (passes_option (with_remark g s) broken_at s q.at q.found.remarks (omega arith) (λ z. omega arith) (λ z. omega arith) v) ∙ q.invariant.remarked;
    }

pub returns : goal.returns
returns c =
    let q = c.loop-at in
    let s = c.args.area.now in
    let g = c.args.codings in
    both (sym (none_left (with_option g s) stands s q.at q.found.options (omega arith)) ∙ q.invariant.found)
    (sym (none_left (with_remark g s) broken_at s q.at q.found.remarks (omega arith)) ∙ q.invariant.remarked)
