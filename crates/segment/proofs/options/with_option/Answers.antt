-- By whether the option is Fast Open's, whether it counts, and whether one is used already.
use Rattle.std.proofs.Common.{◌≡◌, ℕ, Option, true, false, sym, refl, ap, ◌∙◌, ap₂, ne_eqb}
use Rattle.segment.specs.Options.{fast_open_option, is_counted, first_fast_open, with_option}
use Rattle.segment.specs.Remarks.{first_at, with_remark, report_with}
use Rattle.segment.specs.declared.options.FastOpenOption.{FastOpenOption}
use Rattle.segment.specs.declared.options.Options.{Options}
use Rattle.segment.specs.declared.options.Remarks.{Remarks}
use Rattle.segment.specs.declared.options.Report.{Report}
use Rattle.segment.proofs.Remarks.{other_option, skipped_option, used_option, new_option, other_remark, counted_remark, skipped_remark}
use Rattle.segment.proofs.options.with_option.Goals as goal

-- the report, from its segment size, its Fast Open option and its remarks
parts : {m n : Option ℕ} {f h : FastOpenOption} {r v : Remarks} → m ≡ n → f ≡ h → r ≡ v
    → ◌≡◌ {A = Report} (record { options = record { mss = m; fast = f }; remarks = r }) (record { options = record { mss = n; fast = h }; remarks = v })
parts d e f = ap₂ (λ (o : Options) (r : Remarks). record { options = o; remarks = r }) (ap₂ (λ (m : Option ℕ) (h : FastOpenOption). record { mss = m; fast = h }) d e) f

pub returns-then-not-is_counted : goal.returns-then-not-is_counted
unfolding with_option
returns-then-not-is_counted c =
    let a = c.args in
    let o = a.option in
    let skipped : is_counted (fast_open_option a.codings o.area.now o.at o.len) ≡ false = ap is_counted (sym c.fast_open-fast.ensures) ∙ sym c.if-not-is_counted.ensures in
    parts c.with_mss-found.ensures
    (sym (skipped_option a.codings o.area.now o.at o.len a.found.options.fast skipped))
    (sym (skipped_remark a.codings o.area.now o.at o.len a.found.remarks (sym c.if-is_fast_open.ensures) skipped))

pub returns-then-found-eq0 : goal.returns-then-found-eq0
unfolding with_option
returns-then-found-eq0 c =
    let a = c.args in
    let o = a.option in
    let counts : is_counted (fast_open_option a.codings o.area.now o.at o.len) ≡ true = ap is_counted (sym c.fast_open-fast.ensures) ∙ sym c.if-not-is_counted.ensures in
    let none = c.if-found-eq0.true in
    parts c.with_mss-found.ensures
    (c.fast_open-fast.ensures ∙ sym (new_option a.codings o.area.now o.at o.len a.found.options.fast (rw none at c.requires.agrees)))
    (sym (counted_remark a.codings o.area.now o.at o.len a.found.remarks counts ∙ rw none refl))

pub returns-else-found-eq0 : goal.returns-else-found-eq0
unfolding with_option
returns-else-found-eq0 c =
    let a = c.args in
    let o = a.option in
    let counts : is_counted (fast_open_option a.codings o.area.now o.at o.len) ≡ true = ap is_counted (sym c.fast_open-fast.ensures) ∙ sym c.if-not-is_counted.ensures in
    let one = ne_eqb a.found.remarks.used 0 c.if-found-eq0.false in
    parts c.with_mss-found.ensures
    (sym (used_option a.codings o.area.now o.at o.len a.found.options.fast a.found.remarks.used c.requires.agrees one))
    (sym (counted_remark a.codings o.area.now o.at o.len a.found.remarks counts ∙ rw one refl))

pub returns-else-is_fast_open : goal.returns-else-is_fast_open
unfolding with_option
returns-else-is_fast_open c =
    let a = c.args in
    let o = a.option in
    let other = sym c.if-is_fast_open.ensures in
    parts c.with_mss-found.ensures
    (sym (other_option a.codings o.area.now o.at o.len a.found.options.fast other))
    (sym (other_remark a.codings o.area.now o.at o.len a.found.remarks other))
