-- The laws of the remarks: what each option adds to them, that the place of the used option agrees with what was found, and the samples. Assumes nothing.
use Rattle.std.proofs.Common.{◌≡◌, ℕ, ◌+◌, ◌-◌, ◌≤◌, Bool, true, false, cond, eqb, List, ◌∷◌, length, sym, refl, ap, ◌∙◌, arith, le-leb, true≢false}
use mathlib.Core.Bool.{and-false}
use Rattle.lists.proofs.Bools.{or_false, chosen}
use Rattle.segment.specs.Bytes.{byte_at}
use Rattle.segment.specs.Header.{option_area, fields_of, kind_of, has, SYN}
use Rattle.segment.specs.Options.{is_mss_option, mss_option, is_cookie_length, cookie_at, is_in, prefix_length, option_in, is_fast_open_in, fast_open_option, is_counted, first_fast_open, nothing, with_option, read_from, stands, read_options, if_syn, options_of}
use Rattle.segment.specs.Remarks.{no_remarks, is_fast_open, is_skipped, first_at, with_remark, broken_at, remarks_in, remarks_of}
use Rattle.segment.specs.Places.{fast_at}
use Rattle.segment.specs.RemarkSamples.{Agrees, RemarkSamples}
use Rattle.segment.specs.declared.options.Coding.{Coding}
use Rattle.segment.specs.declared.options.Coding.TheVariants.{New, Older}
use Rattle.segment.specs.declared.options.Codings.{Codings}
use Rattle.segment.specs.declared.options.FastOpenOption.{FastOpenOption}
use Rattle.segment.specs.declared.options.FastOpenOption.TheVariants.{Absent, Request, Cookie}
use Rattle.segment.specs.declared.options.Options.{Options}
use Rattle.segment.specs.declared.options.Remarks.{Remarks}
use Rattle.segment.proofs.ReadFrom.{both_readings}
use Rattle.segment.proofs.Places.{place-stays, places-found, places_remarks}
use Rattle.segment.proofs.Cookie.{syn_flag, later_flag}
use Rattle.segment.specs.declared.header.Kind.TheVariants.{Syn, Other}

module _ (g : Codings) (area : List ℕ) (i len : ℕ) where
  -- what is no Fast Open option does not count
  not_fast_open : is_fast_open g area i len ≡ false → fast_open_option g area i len ≡ Absent
  unfolding is_fast_open fast_open_option
  not_fast_open e =
      let t = or_false (is_fast_open_in g New area i len) (is_fast_open_in g Older area i len) e in
      rw (t.0, t.1)

  -- so it changes nothing of what was found
  pub other_option : (f : FastOpenOption) → is_fast_open g area i len ≡ false → first_fast_open f (fast_open_option g area i len) ≡ f
  other_option Absent e = not_fast_open e
  other_option (Request c) e = refl
  other_option (Cookie c at n) e = refl

  -- nor does one that is skipped; and where one is used already it stays
  pub skipped_option : (f : FastOpenOption) → is_counted (fast_open_option g area i len) ≡ false → first_fast_open f (fast_open_option g area i len) ≡ f
  skipped_option f e = go f (fast_open_option g area i len) e
    where
      go : (f x : FastOpenOption) → is_counted x ≡ false → first_fast_open f x ≡ f
      go Absent Absent e = refl
      go Absent (Request c) e = absurd (true≢false e)
      go Absent (Cookie c at n) e = absurd (true≢false e)
      go (Request c) x e = refl
      go (Cookie c at n) x e = refl

  pub used_option : (f : FastOpenOption) (used : ℕ) → Agrees f used → eqb used 0 ≡ false → first_fast_open f (fast_open_option g area i len) ≡ f
  used_option Absent used a e = absurd (true≢false (rw a at e))
  used_option (Request c) used a e = refl
  used_option (Cookie c at n) used a e = refl

  pub new_option : (f : FastOpenOption) → Agrees f 0 → first_fast_open f (fast_open_option g area i len) ≡ fast_open_option g area i len
  new_option Absent a = refl
  new_option (Request c) a = absurd (omega arith)
  new_option (Cookie c at n) a = absurd (omega arith)

  -- an option that is none is not remarked, and one that counts is the used one or another
  pub other_remark : (r : Remarks) → is_fast_open g area i len ≡ false → with_remark g area r i len ≡ r
  unfolding with_remark is_skipped
  other_remark r e = rw (not_fast_open e, e, and-false (eqb r.used 0))

  pub counted_remark : (r : Remarks) → is_counted (fast_open_option g area i len) ≡ true
      → with_remark g area r i len ≡ record { skipped = r.skipped; used = first_at r.used true i; broken = r.broken }
  unfolding with_remark is_skipped
  counted_remark r c = rw (c, and-false (is_fast_open g area i len))

  pub skipped_remark : (r : Remarks) → is_fast_open g area i len ≡ true → is_counted (fast_open_option g area i len) ≡ false
      → with_remark g area r i len ≡ record { skipped = r.skipped + 1; used = r.used; broken = r.broken }
  unfolding with_remark is_skipped
  skipped_remark r e c = rw (e, c, and-false (eqb r.used 0))

  -- an option is skipped once
  pub skipped-most : (r : Remarks) → (with_remark g area r i len).skipped ≤ r.skipped + 1
  unfolding with_remark
  skipped-most r = chosen (λ n. n ≤ r.skipped + 1) (is_skipped g area i len) (r.skipped + 1) r.skipped (λ _. omega arith) (λ _. omega arith)

  -- An option that is found first begins where the used one does.
  here_agrees : Agrees (fast_open_option g area i len) (first_at 0 (is_counted (fast_open_option g area i len)) i)
  unfolding fast_open_option option_in cookie_at
  here_agrees =
      chosen Here (is_fast_open_in g New area i len) _ _ (λ _. in_coding_lem New)
      (λ _. chosen Here (is_fast_open_in g Older area i len) _ _ (λ _. in_coding_lem Older) (λ _. refl))
    where
      Here : FastOpenOption → Type 0
      Here f = Agrees f (first_at 0 (is_counted f) i)

      in_coding_lem : (c : Coding) → Here (option_in c i len)
      in_coding_lem c =
          chosen Here (eqb (len - prefix_length c) 0) _ _ (λ _. omega arith)
          (λ _. chosen Here (is_cookie_length (len - prefix_length c)) _ _ (λ _. (omega arith, omega arith)) (λ _. refl))

  -- and the first that was found stays
  pub next_agrees : (f : FastOpenOption) (used : ℕ) → Agrees f used → Agrees (first_fast_open f (fast_open_option g area i len)) (first_at used (is_counted (fast_open_option g area i len)) i)
  next_agrees Absent used e = rw e here_agrees
  next_agrees (Request c) used e = rw (place-stays used (is_counted (fast_open_option g area i len)) i e) e
  next_agrees (Cookie c at n) used e = rw (place-stays used (is_counted (fast_open_option g area i len)) i e.0) e

-- what is found begins at the used place
begins : (g : Codings) (area : List ℕ) → fast_at g area (remarks_in g area).used ≡ (read_options g area).fast
begins g area = ap (λ (r : Remarks). fast_at g area r.used) (sym (places_remarks g area)) ∙ ap (λ (o : Options). o.fast) (places-found g area)

pub agrees_in : (g : Codings) (area : List ℕ) → Agrees (read_options g area).fast (remarks_in g area).used
unfolding read_options remarks_in with_option with_remark
agrees_in g area =
    both_readings (with_option g area) stands (with_remark g area) broken_at (λ found r. Agrees found.fast r.used) area
    (λ found r i len _ _ _ e. next_agrees g area i len found.fast r.used e) (λ found r i _ e. e) nothing no_remarks refl

pub agrees_of : (g : Codings) (seg : List ℕ) → Agrees (options_of g seg).fast (remarks_of g seg).used
unfolding options_of remarks_of
agrees_of g seg = go (has (byte_at seg 13) SYN)
  where
    go : (syn : Bool) → Agrees (if_syn syn (read_options g (option_area seg))).fast (cond syn (remarks_in g (option_area seg)) no_remarks).used
    go true = agrees_in g (option_area seg)
    go false = refl

-- on an opening the remarks are those on its area, and on a later segment there are none
pub syn_remarks : (g : Codings) (seg : List ℕ) → kind_of (fields_of seg).flags ≡ Syn → remarks_of g seg ≡ remarks_in g (option_area seg)
unfolding remarks_of fields_of
syn_remarks g seg e = rw (syn_flag (byte_at seg 13) e)

pub later_remarks : (g : Codings) (seg : List ℕ) → (kind_of (fields_of seg).flags ≡ Syn → ⊥) → (kind_of (fields_of seg).flags ≡ Other → ⊥) → remarks_of g seg ≡ no_remarks
unfolding remarks_of fields_of
later_remarks g seg f h = rw (later_flag (byte_at seg 13) f h)

-- The samples, computed
pub remark_samples : RemarkSamples
unfolding read_options remarks_in read_from with_option is_mss_option mss_option with_remark is_skipped is_fast_open fast_open_option is_in option_in cookie_at is_cookie_length
remark_samples =
    record {
      begins = begins;
      agrees_in = agrees_in;
      agrees_of = agrees_of;
      skipped = λ g. (refl, (refl, refl));
      older = (refl, (refl, (refl, (refl, refl))));
      broken = λ g. (refl, (refl, (refl, (refl, (refl, refl)))));
      ended = λ g rest. (refl, rw (le-leb 3 (length (3 ∷ 0 ∷ 0 ∷ rest) + 1) (omega arith)));
      unknown = λ g. refl;
      apart = λ g. (refl, (refl, refl));
    }
