-- Document 02, Item 7: what the reader remarks on an option area besides the options that count, and all that it reports. What counts does not depend on it.
-- Assumes nothing.
use Rattle.std.specs.Prelude.{ℕ, ◌+◌, Bool, cond, not, ◌&&◌, ◌||◌, List, ◌==◌}
use Rattle.segment.specs.Bytes.{byte_at}
use Rattle.segment.specs.Header.{option_area, has, SYN}
use Rattle.segment.specs.Options.{is_fast_open_in, fast_open_option, is_counted, with_option, read_from, read_options, options_of}
use Rattle.segment.specs.declared.options.Coding.TheVariants.{New, Older}
use Rattle.segment.specs.declared.options.Codings.{Codings}
use Rattle.segment.specs.declared.options.Remarks.{Remarks}
use Rattle.segment.specs.declared.options.Report.{Report}

-- Places are a kind byte's and count from 1; 0 is none.
abbrev pub no_remarks : Remarks
no_remarks = record { skipped = 0; used = 0; broken = 0 }

-- a Fast Open option, whatever its length
unfoldable pub is_fast_open : Codings → List ℕ → ℕ → ℕ → Bool
is_fast_open g area i len = is_fast_open_in g New area i len || is_fast_open_in g Older area i len

-- skipped for a bad length
unfoldable pub is_skipped : Codings → List ℕ → ℕ → ℕ → Bool
is_skipped g area i len = is_fast_open g area i len && not (is_counted (fast_open_option g area i len))

-- where the first option that counts began, with one at i besides
abbrev pub first_at : ℕ → Bool → ℕ → ℕ
first_at at counts i = cond (at == 0 && counts) (i + 1) at

-- the remarks so far, and the option of len bytes at i
unfoldable pub with_remark : Codings → List ℕ → Remarks → ℕ → ℕ → Remarks
with_remark g area r i len =
    record {
      skipped = cond (is_skipped g area i len) (r.skipped + 1) r.skipped;
      used = first_at r.used (is_counted (fast_open_option g area i len)) i;
      broken = r.broken;
    }

-- the reading breaks off at i
abbrev pub broken_at : Remarks → ℕ → Remarks
broken_at r i = record { skipped = r.skipped; used = r.used; broken = i + 1 }

unfoldable pub remarks_in : Codings → List ℕ → Remarks
remarks_in g area = read_from (with_remark g area) broken_at 0 0 area no_remarks

-- on a segment: nothing without SYN
unfoldable pub remarks_of : Codings → List ℕ → Remarks
remarks_of g seg = cond (has (byte_at seg 13) SYN) (remarks_in g (option_area seg)) no_remarks

-- The reader's report: so far, and the option of len bytes at i; of an area; and of a segment
abbrev pub report_with : Codings → List ℕ → Report → ℕ → ℕ → Report
report_with g area r i len = record { options = with_option g area r.options i len; remarks = with_remark g area r.remarks i len }

abbrev pub report_in : Codings → List ℕ → Report
report_in g area = record { options = read_options g area; remarks = remarks_in g area }

abbrev pub report_of : Codings → List ℕ → Report
report_of g seg = record { options = options_of g seg; remarks = remarks_of g seg }
