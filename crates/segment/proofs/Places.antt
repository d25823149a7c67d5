-- The places of the options that are used: they are those of options that count, and what begins there is what the reader finds. Assumes nothing.
use Rattle.std.specs.Prelude.{None, Option, Some}
use Rattle.std.proofs.Common.{◌≡◌, ℕ, zero, suc, ◌+◌, ◌-◌, ◌<◌, ◌≤◌, Bool, true, false, cond, eqb, List, length, sym, refl, ap, ◌∙◌, ap₂, arith, ne_eqb, eqb-true}
use mathlib.Core.Bool.{false≢true}
use Rattle.lists.proofs.Bools.{and_true}
use Rattle.segment.specs.Bytes.{byte_at, word_at}
use Rattle.segment.specs.Options.{nothing, is_mss_option, mss_option, fast_open_option, is_counted, first_mss, first_fast_open, with_option, stands, read_options}
use Rattle.segment.specs.Remarks.{first_at, with_remark, broken_at, remarks_in, no_remarks}
use Rattle.segment.specs.Places.{Places, no_places, with_places, places_broken, places_in, mss_value_at, fast_at, found_at, MssFits, FastFits}
use Rattle.segment.specs.declared.options.Codings.{Codings}
use Rattle.segment.specs.declared.options.FastOpenOption.{FastOpenOption}
use Rattle.segment.specs.declared.options.FastOpenOption.TheVariants.{Absent, Request, Cookie}
use Rattle.segment.specs.declared.options.Options.{Options}
use Rattle.segment.specs.declared.options.Remarks.{Remarks}
use Rattle.segment.proofs.ReadFrom.{both_readings}

-- The first place

pub place-stays : (at : ℕ) (counts : Bool) (i : ℕ) → 0 < at → first_at at counts i ≡ at
place-stays at counts i h = rw (ne_eqb at 0 (λ z. omega (arith, h, z)))

pub place-begins : {t c : Bool} (i : ℕ) → t ≡ c → first_at 0 t i ≡ cond c (i + 1) 0
place-begins i e = rw e

-- what is at none
none-fits : (g : Codings) (area : List ℕ) → FastFits g area 0
none-fits g area = record { long = λ h. absurd (omega (arith, h)); fits = λ h. absurd (omega (arith, h)); counts = λ h. absurd (omega (arith, h)) }

none_found : (g : Codings) (area : List ℕ) → found_at g area no_places ≡ nothing
unfolding mss_value_at fast_at
none_found g area = refl

-- a place
pub mss_is : (area : List ℕ) (at : ℕ) → 0 < at → mss_value_at area at ≡ Some (word_at area (at + 1))
unfolding mss_value_at
mss_is area at h = rw (ne_eqb at 0 (λ e. omega (arith, h, e)))

pub fast_is : (g : Codings) (area : List ℕ) (at : ℕ) → 0 < at → fast_at g area at ≡ fast_open_option g area (at - 1) (byte_at area at)
unfolding fast_at
fast_is g area at h = rw (ne_eqb at 0 (λ e. omega (arith, h, e)))

fast_here : (g : Codings) (area : List ℕ) (i len : ℕ) → len ≡ byte_at area (i + 1) → fast_at g area (i + 1) ≡ fast_open_option g area i len
fast_here g area i len e =
    let m : i + 1 - 1 ≡ i = omega arith in
    fast_is g area (i + 1) (omega arith) ∙ ap₂ (fast_open_option g area) m (sym e)

-- what does not count is none, and what counts comes first
uncounted : (f : FastOpenOption) → is_counted f ≡ false → f ≡ Absent
uncounted Absent e = refl
uncounted (Request c) e = absurd (false≢true (sym e))
uncounted (Cookie c at len) e = absurd (false≢true (sym e))

counted-first : (f next : FastOpenOption) → is_counted f ≡ true → first_fast_open f next ≡ f
counted-first Absent next e = absurd (false≢true e)
counted-first (Request c) next e = refl
counted-first (Cookie c at len) next e = refl

-- The MSS
module _ (area : List ℕ) (i len : ℕ) where
  abbrev mss_next : ℕ → ℕ
  mss_next at = first_at at (is_mss_option area i len) i

  -- an MSS that counts has four bytes
  mss-four : is_mss_option area i len ≡ true → len ≡ 4
  unfolding is_mss_option
  mss-four c = eqb-true len 4 (and_true (eqb (byte_at area i) 2) _ c).1

  mss-fits : (at : ℕ) → i + len ≤ length area → MssFits area at → MssFits area (mss_next at)
  mss-fits zero f u = go (is_mss_option area i len) refl
    where
      go : (c : Bool) → is_mss_option area i len ≡ c → MssFits area (mss_next 0)
      go true c = rw (place-begins i c) (λ _. omega (arith, f, mss-four c))
      go false c = rw (place-begins i c) u
  mss-fits (suc k) f u = rw (place-stays (suc k) (is_mss_option area i len) i (omega arith)) u

  mss-option : {c : Bool} → is_mss_option area i len ≡ c → mss_option area i len ≡ cond c (Some (word_at area (i + 2))) None
  unfolding mss_option
  mss-option e = rw e

  -- the first of the two
  mss-first : (at : ℕ) → first_mss (mss_value_at area at) (mss_option area i len) ≡ mss_value_at area (mss_next at)
  unfolding mss_value_at
  mss-first zero = go (is_mss_option area i len) refl
    where
      go : (c : Bool) → is_mss_option area i len ≡ c → mss_option area i len ≡ mss_value_at area (mss_next 0)
      go true c =
          let p : i + 1 + 1 ≡ i + 2 = omega arith in
          mss-option c ∙ ap (λ (k : ℕ). Some (word_at area k)) (sym p) ∙ sym (rw (place-begins i c) (mss_is area (i + 1) (omega arith)))
      go false c = mss-option c ∙ rw (place-begins i c)
  mss-first (suc k) = rw (place-stays (suc k) (is_mss_option area i len) i (omega arith), mss_is area (suc k) (omega arith))

-- Fast Open
module _ (g : Codings) (area : List ℕ) (i len : ℕ) (e : len ≡ byte_at area (i + 1)) where
  abbrev here : FastOpenOption
  here = fast_open_option g area i len

  abbrev fast_next : ℕ → ℕ
  fast_next at = first_at at (is_counted here) i

  fast_fits : (at : ℕ) → 2 ≤ len → i + len ≤ length area → FastFits g area at → FastFits g area (fast_next at)
  fast_fits zero l f u = go (is_counted here) refl
    where
      go : (c : Bool) → is_counted here ≡ c → FastFits g area (fast_next 0)
      go true c =
          rw (place-begins i c)
          (record {
            long = λ _. omega (arith, e, l);
            fits = λ _. omega (arith, e, f);
            counts = λ _. ap is_counted (fast_here g area i len e) ∙ c;
          })
      go false c = rw (place-begins i c) u
  fast_fits (suc k) l f u = rw (place-stays (suc k) (is_counted here) i (omega arith)) u

  fast_first : (at : ℕ) → FastFits g area at → first_fast_open (fast_at g area at) here ≡ fast_at g area (fast_next at)
  unfolding fast_at
  fast_first zero u = go (is_counted here) refl
    where
      go : (c : Bool) → is_counted here ≡ c → here ≡ fast_at g area (fast_next 0)
      go true c = sym (rw (place-begins i c) (fast_here g area i len e))
      go false c = uncounted here c ∙ rw (place-begins i c)
  fast_first (suc k) u = rw (place-stays (suc k) (is_counted here) i (omega arith)) (counted-first (fast_at g area (suc k)) here (u.counts (omega arith)))

-- Both

-- the places are of options that count, and what begins there was found
record Found (g : Codings) (area : List ℕ) (found : Options) (p : Places) : Type 0 where
  mss : MssFits area p.mss_at
  fast : FastFits g area p.remarks.used
  same : found ≡ found_at g area p

module _ (g : Codings) (area : List ℕ) where
  each_found : (found : Options) (p : Places) (i len : ℕ) → len ≡ byte_at area (i + 1) → 2 ≤ len → i + len ≤ length area
      → Found g area found p → Found g area (with_option g area found i len) (with_places g area p i len)
  unfolding with_option with_remark
  each_found found p i len e l f u =
      record {
        mss = mss-fits area i len p.mss_at f u.mss;
        fast = fast_fits g area i len e p.remarks.used l f u.fast;
        same =
            ap (λ (o : Options). with_option g area o i len) u.same
            ∙ ap₂ (λ (m : Option ℕ) (o : FastOpenOption). record { mss = m; fast = o }) (mss-first area i len p.mss_at) (fast_first g area i len e p.remarks.used u.fast);
      }

  all_found : Found g area (read_options g area) (places_in g area)
  unfolding read_options places_in
  all_found =
      both_readings (with_option g area) stands (with_places g area) places_broken (Found g area) area each_found
      (λ found p i _ u. record { mss = u.mss; fast = u.fast; same = u.same }) nothing no_places
      (record { mss = λ h. absurd (omega (arith, h)); fast = none-fits g area; same = sym (none_found g area) })

  -- an MSS, and a Fast Open option that counts, stand at the places
  pub places-mss : MssFits area (places_in g area).mss_at
  places-mss = all_found.mss

  pub places_fast : FastFits g area (places_in g area).remarks.used
  places_fast = all_found.fast

  pub places-found : found_at g area (places_in g area) ≡ read_options g area
  places-found = sym all_found.same

  pub places_remarks : (places_in g area).remarks ≡ remarks_in g area
  unfolding places_in remarks_in
  places_remarks =
      both_readings (with_places g area) places_broken (with_remark g area) broken_at (λ p r. p.remarks ≡ r) area
      (λ p r i len _ _ _ e. ap (λ (x : Remarks). with_remark g area x i len) e) (λ p r i _ e. ap (λ (x : Remarks). broken_at x i) e) no_places no_remarks refl
