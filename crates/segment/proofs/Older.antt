-- Samples of the older coding, computed; and with new only, document 01's option. Assumes nothing.
use Rattle.std.proofs.Common.{◌≡◌, ℕ, ◌+◌, ◌-◌, cond, eqb, List, refl}
use mathlib.Core.Bool.{and-true, and-false}
use Rattle.segment.specs.Bytes.{byte_at}
use Rattle.segment.specs.Options.{is_mss_option, mss_option, is_cookie_length, cookie_at, is_in, option_in, fast_open_option, with_option, read_from, read_options}
use Rattle.segment.specs.Write.{option_bytes}
use Rattle.segment.specs.Older.{OlderCoding}
use Rattle.segment.specs.declared.options.Coding.TheVariants.{New}
use Rattle.segment.specs.declared.options.Codings.TheVariants.{NewOnly}
use Rattle.segment.specs.declared.options.FastOpenOption.TheVariants.{Absent}

as_before : (area : List ℕ) (i len : ℕ) → fast_open_option NewOnly area i len ≡ cond (eqb (byte_at area i) 34) (cookie_at New (i + 2) (len - 2)) Absent
unfolding fast_open_option is_in option_in
as_before area i len = simp (and-true, and-false)

pub older-coding : OlderCoding
unfolding read_options read_from with_option is_mss_option mss_option fast_open_option is_in option_in cookie_at is_cookie_length option_bytes
older-coding =
    record {
      request = refl;
      cookie = λ a b c d e f g h. (refl, refl);
      skipped = (refl, (refl, refl));
      unknown = (refl, (refl, (refl, (refl, refl))));
      misnamed = (refl, (refl, (refl, refl)));
      first = λ a b c d e f g h. (refl, (refl, refl));
      new-only = as_before;
      area = λ mss a b c d e f g h. refl;
    }
