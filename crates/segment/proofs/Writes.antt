-- Writes that follow one another, and parts of an output that were lent. Assumes nothing.
use Rattle.std.proofs.Common.{◌≡◌, ℕ, zero, suc, ◌+◌, ◌-◌, ◌%◌, ◌<◌, ◌≤◌, Bool, true, false, not, List, [], ◌∷◌, ◌++◌, map, length, take, drop, replicate, sym, refl, ap, ◌∙◌, subst, true≢false, append_assoc, arith, length-append, length-take-le, drop-drop, take_at, drop_at}
use lib.ListN.{length-replicate}
use borrow.Rule.Slice.PartMut.{put_mid}
use Rattle.segment.specs.declared.options.Coding.{Coding}
use Rattle.segment.specs.declared.options.Coding.TheVariants.{New, Older}
use Rattle.segment.specs.declared.write.Outgoing.{Outgoing}
use Rattle.segment.specs.Options.{prefix_length}
use Rattle.segment.specs.Checksum.{ones_sum, complement}
use Rattle.segment.specs.Write.{padding, padded, mss_bytes, prefix_bytes, fast_open_bytes, option_bytes, option_length, header_bytes}
use Rattle.lists.specs.Bytes.{overwrite}
use Rattle.lists.proofs.Lent.{lent, lent_out, copied}
use Rattle.segment.proofs.Total.{sum-append}

-- the first n bytes of the output o are those of a, and the later ones stay
abbrev pub Wrote : List ℕ → List ℕ → ℕ → List ℕ → Type 0
Wrote o a n out = (n ≡ length a) × (out ≡ a ++ drop n o)

-- one more write at the end of what was written
pub more : (o a src out end : List ℕ) (at n : ℕ) → Wrote o a at out → n ≡ at + length src
    → end ≡ take at out ++ (src ++ drop (at + length src) out) → Wrote o (a ++ src) n end
more o a src out end at n w k e =
    let t : take at out ≡ a = ap (take at) w.1 ∙ take_at a (drop at o) at (sym w.0) in
    let d : drop (at + length src) out ≡ drop (at + length src) o =
    ap (drop (at + length src)) w.1 ∙ sym (drop-drop (length src) at (a ++ drop at o)) ∙ ap (drop (length src)) (drop_at a (drop at o) at (sym w.0)) ∙ drop-drop (length src) at o in (
      k ∙ ap (λ (x : ℕ). x + length src) w.0 ∙ sym (length-append a src),
      e ∙ rw (t, d, k, append_assoc),
    )

-- kind 1 up to a multiple of four
pub padded_out : (o a out end : List ℕ) (at n : ℕ) → Wrote o a at out → n ≡ at + padding at
    → end ≡ take at out ++ (replicate (padding at) 1 ++ drop (at + padding at) out) → Wrote o (padded a) n end
padded_out o a out end at n w k e =
    let l = length-replicate {A = ℕ} (padding at) 1 in
    subst (λ (x : ℕ). Wrote o (a ++ replicate (padding x) 1) n end) w.0
    (more o a (replicate (padding at) 1) out end at n w (k ∙ ap (λ (x : ℕ). at + x) (sym l))
    (e ∙ ap (λ (x : ℕ). take at out ++ (replicate (padding at) 1 ++ drop (at + x) out)) (sym l)))

-- the prefix of a coding: two bytes or four
pub prefix_length_lem : (c : Coding) (n : ℕ) → length (prefix_bytes c n) ≡ prefix_length c
prefix_length_lem New n = refl
prefix_length_lem Older n = refl

pub prefix_size : (c : Coding) → (2 ≤ prefix_length c) × (prefix_length c ≤ 4)
prefix_size New = (omega arith, omega arith)
prefix_size Older = (omega arith, omega arith)

-- the options' length
pub options_plain : (mss : ℕ) (c : Coding) (ck : List ℕ) → length (option_bytes mss false c ck) ≡ 4
unfolding option_bytes
options_plain mss c ck = refl

pub unpadded : (mss : ℕ) (c : Coding) (ck : List ℕ) → length (mss_bytes mss ++ fast_open_bytes c ck) ≡ 4 + prefix_length c + length ck
unpadded mss c ck = omega (arith, length-append (prefix_bytes c (length ck)) ck, prefix_length_lem c (length ck))

pub options_fast : (mss : ℕ) (c : Coding) (ck : List ℕ) → length (option_bytes mss true c ck) ≡ 4 + prefix_length c + length ck + padding (4 + prefix_length c + length ck)
unfolding option_bytes
options_fast mss c ck =
    let a = mss_bytes mss ++ fast_open_bytes c ck in
    let n = padding (length a) in
    length-append a (replicate {A = ℕ} n 1) ∙ rw (length-replicate {A = ℕ} n 1, unpadded mss c ck)

-- by the cookie's length, on which, and on the coding, it depends
pub length_plain : (c : Coding) (n : ℕ) → option_length false c n ≡ 4
unfolding option_length
length_plain c n = options_plain 0 c (replicate n 0)

pub length_fast : (c : Coding) (n : ℕ) → option_length true c n ≡ 4 + prefix_length c + n + padding (4 + prefix_length c + n)
unfolding option_length
length_fast c n = options_fast 0 c (replicate n 0) ∙ rw (length-replicate {A = ℕ} n 0)

pub options-length : (mss : ℕ) (fast : Bool) (c : Coding) (ck : List ℕ) → length (option_bytes mss fast c ck) ≡ option_length fast c (length ck)
options-length mss false c ck = options_plain mss c ck ∙ sym (length_plain c (length ck))
options-length mss true c ck = options_fast mss c ck ∙ sym (length_fast c (length ck))

pub length_least : (fast : Bool) (c : Coding) (n : ℕ) → 4 ≤ option_length fast c n
length_least false c n = omega (arith, length_plain c n)
length_least true c n = omega (arith, length_fast c n)

-- of a request, and with a cookie of 4, 6, 8, 10, 12, 14 and 16 bytes
pub option_lengths : map (option_length true New) (0 ∷ 4 ∷ 6 ∷ 8 ∷ 10 ∷ 12 ∷ 14 ∷ 16 ∷ []) ≡ 8 ∷ 12 ∷ 12 ∷ 16 ∷ 16 ∷ 20 ∷ 20 ∷ 24 ∷ []
unfolding option_length option_bytes
option_lengths = refl

pub older_lengths : map (option_length true Older) (0 ∷ 4 ∷ 6 ∷ 8 ∷ 10 ∷ 12 ∷ 14 ∷ 16 ∷ []) ≡ 8 ∷ 12 ∷ 16 ∷ 16 ∷ 20 ∷ 20 ∷ 24 ∷ 24 ∷ []
unfolding option_length option_bytes
older_lengths = refl

-- an output that is long enough for them is so for each of their parts
pub cookie-fits : (mss : ℕ) (fast : Bool) (c : Coding) (ck : List ℕ) (n : ℕ) → not fast ≡ false → length (option_bytes mss fast c ck) ≤ n → 4 + prefix_length c + length ck ≤ n
cookie-fits mss true c ck n e h = omega (arith, options_fast mss c ck)
cookie-fits mss false c ck n e h = absurd (true≢false e)

pub padding-fits : (mss : ℕ) (fast : Bool) (c : Coding) (ck : List ℕ) (n at : ℕ) → not fast ≡ false → length (option_bytes mss fast c ck) ≤ n
    → at ≡ 4 + prefix_length c + length ck → at + padding at ≤ n
padding-fits mss true c ck n at e h k = subst (λ (x : ℕ). x + padding x ≤ n) (sym k) (omega (arith, options_fast mss c ck))
padding-fits mss false c ck n at e h k = absurd (true≢false e)

-- up to three bytes of kind 1
pub ones : (n : ℕ) → n < 4 → take {A = ℕ} n (1 ∷ 1 ∷ 1 ∷ []) ≡ replicate n 1
ones zero h = refl
ones (suc zero) h = refl
ones (suc (suc zero)) h = refl
ones (suc (suc (suc zero))) h = refl
ones (suc (suc (suc (suc n)))) h = absurd (omega arith)

-- what the option writer leaves, without a Fast Open option and with one
pub wrote_plain : (o : List ℕ) (mss : ℕ) (fast : Bool) (c : Coding) (ck : List ℕ) (n : ℕ) (end : List ℕ) → not fast ≡ true
    → Wrote o (mss_bytes mss) n end → Wrote o (option_bytes mss fast c ck) n end
unfolding option_bytes
wrote_plain o mss true c ck n end e w = absurd (true≢false (sym e))
wrote_plain o mss false c ck n end e w = w

pub wrote_fast : (o : List ℕ) (mss : ℕ) (fast : Bool) (c : Coding) (ck : List ℕ) (n : ℕ) (end : List ℕ) → not fast ≡ false
    → Wrote o (padded (mss_bytes mss ++ fast_open_bytes c ck)) n end → Wrote o (option_bytes mss fast c ck) n end
unfolding option_bytes
wrote_fast o mss true c ck n end e w = w
wrote_fast o mss false c ck n end e w = absurd (true≢false e)

-- a write's count and its output, as the contracts have them
pub overwrote : (o a : List ℕ) (n : ℕ) (end : List ℕ) → Wrote o a n end → (n ≡ length a) × (end ≡ overwrite a o)
overwrote o a n end w = (w.0, w.1 ∙ ap (λ (k : ℕ). a ++ drop k o) w.0)

-- options and payload, from byte 20 on: two parts lent one after the other
pub body : (out options last₁ payload last₂ : List ℕ) (m : ℕ) → 20 + m ≤ length out → m ≡ length options
    → last₁ ≡ overwrite options (take (length out - 20) (drop 20 out))
    → 20 + m ≤ length (put_mid 20 (length out - 20) out last₁)
    → last₂ ≡ take (length payload) payload ++ drop (length payload) (take (length (put_mid 20 (length out - 20) out last₁) - (20 + m)) (drop (20 + m) (put_mid 20 (length out - 20) out last₁)))
    → put_mid (20 + m) (length (put_mid 20 (length out - 20) out last₁) - (20 + m)) (put_mid 20 (length out - 20) out last₁) last₂
    ≡ take 20 out ++ (options ++ (payload ++ drop (20 + m + length payload) out))
body out options last₁ payload last₂ m h em e₁ k e₂ =
    let out₁ = put_mid 20 (length out - 20) out last₁ in
    let a = take 20 out ++ options in
    let l : last₁ ≡ options ++ drop (20 + m) out =
    e₁ ∙ rw (lent_out out 20, drop-drop (length options) 20 out, ← em) in
    let p : out₁ ≡ a ++ drop (20 + m) out = lent out last₁ 20 (omega arith) ∙ rw (l, append_assoc) in
    let n : 20 + m ≡ length a = sym (length-append (take 20 out) options ∙ rw (length-take-le 20 out (omega arith), ← em)) in
    let w = more out a payload out₁ _ (20 + m) _ (n, p) refl (copied out₁ payload last₂ (20 + m) k e₂) in
    w.1 ∙ simp append_assoc

-- the header with its checksum, from the sums over the pseudo-header, over itself without one, and over what follows it
pub header-written : (f : Outgoing) (words s₁ s₂ s₃ : ℕ) (pseudo rest h₀ h out end : List ℕ) → length pseudo % 2 ≡ 0
    → h₀ ≡ header_bytes f words 0 → s₁ ≡ ones_sum 0 pseudo → s₂ ≡ ones_sum s₁ h₀ → s₃ ≡ ones_sum s₂ rest
    → h ≡ header_bytes f words (complement s₃)
    → end ≡ take (length h) h ++ drop (length h) out
    → end ≡ header_bytes f words (complement (ones_sum 0 (pseudo ++ (header_bytes f words 0 ++ rest)))) ++ drop 20 out
unfolding header_bytes
header-written f words s₁ s₂ s₃ pseudo rest h₀ h out end ev e₀ e₁ e₂ e₃ eh ee =
    let s : s₃ ≡ ones_sum 0 (pseudo ++ (header_bytes f words 0 ++ rest)) =
    e₃ ∙ rw (e₂, e₁, e₀) (sym (sum-append 0 pseudo (header_bytes f words 0 ++ rest) ev ∙ sum-append (ones_sum 0 pseudo) (header_bytes f words 0) rest refl)) in
    ee ∙ ap (λ (x : List ℕ). take (length x) x ++ drop (length x) out) eh ∙ ap (λ (x : ℕ). header_bytes f words (complement x) ++ drop 20 out) s
