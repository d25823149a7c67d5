-- A comparison is complete, lists the first differences, and does not depend on the order of the captures. Assumes nothing.
use Rattle.std.specs.Prelude.{Err, Ok, None, Some}
use Rattle.std.proofs.Common.{◌≡◌, ℕ, zero, suc, ◌+◌, ◌*◌, Bool, true, false, cond, ◌&&◌, eqb, List, [], ◌∷◌, length, take, drop, sym, refl, ap, ◌∙◌, subst, ap₂, arith, length-append, length-drop, take-append-drop, take_at, drop_at, eq-eqb, eqb-true}
use mathlib.Core.Bool.{false≢true}
use lib.Seq.{take-nil, drop-nil}
use Rattle.std.proofs.lemmas.List.{length-take, nil_from_length, take_min}
use Rattle.lists.specs.Bytes.{same_bytes, overwrite}
use Rattle.lists.proofs.Bools.{and_true, one_test}
use Rattle.lists.proofs.SameBytes.{same_bytes_eq, same_bytes_refl}
use Rattle.segment.specs.Refusal.{Check}
use Rattle.protocol.specs.Call.{number_of_event, SegmentKind, opening, reset, completion, none, kind_of_event, Verdict, early, plain, repeat, no_verdict, verdict_of}
use Rattle.protocol.specs.declared.outcome.Started.{Started}
use Rattle.comparison.specs.Account.{Judged, Account, account_of}
use Rattle.comparison.specs.Difference.{kind_rank, verdict_rank, same_event, same, parting, difference_of}
use Rattle.comparison.specs.Listing.{Entry, unpaired, before, entries, numbers_of, fitting}
use Rattle.comparison.specs.Compared.{differences, finding_of, listed_in, compared_by, compared_of, room_by, room_of}
use Rattle.comparison.specs.Laws.{Seen, seen_of, seen, Complete, FirstOnes, swapped, swapped_by, Swaps}
use Rattle.comparison.proofs.Whole.{length_numbers}

-- Two records are the same exactly where what is seen of them is

-- the one of four at a place
abbrev pick : {A : Type 0} → A → A → A → A → ℕ → A
pick a b c d zero = a
pick a b c d (suc zero) = b
pick a b c d (suc (suc zero)) = c
pick a b c d (suc (suc (suc n))) = d

kind_back : (k : SegmentKind) → pick opening reset completion none (kind_rank k) ≡ k
kind_back opening = refl
kind_back reset = refl
kind_back completion = refl
kind_back none = refl

verdict_back : (v : Verdict) → pick early plain repeat no_verdict (verdict_rank v) ≡ v
verdict_back early = refl
verdict_back plain = refl
verdict_back repeat = refl
verdict_back no_verdict = refl

one_kind : (j k : SegmentKind) → kind_rank j ≡ kind_rank k → j ≡ k
one_kind j k e = sym (kind_back j) ∙ ap (pick opening reset completion none) e ∙ kind_back k

one_verdict : (v w : Verdict) → verdict_rank v ≡ verdict_rank w → v ≡ w
one_verdict v w e = sym (verdict_back v) ∙ ap (pick early plain repeat no_verdict) e ∙ verdict_back w

same_seen : (a b : Judged) → same a b ≡ true → seen_of a ≡ seen_of b
unfolding same same_event
same_seen a b e =
    let both = and_true (same_event a.event b.event) (same_bytes a.part b.part && same_bytes a.output b.output) e in
    let bytes = and_true (same_bytes a.part b.part) (same_bytes a.output b.output) both.1 in
    let words = and_true (eqb (number_of_event a.event) (number_of_event b.event)) (eqb (kind_rank (kind_of_event a.event)) (kind_rank (kind_of_event b.event)) && eqb (verdict_rank (verdict_of a.event)) (verdict_rank (verdict_of b.event))) both.0 in
    let kinds = and_true (eqb (kind_rank (kind_of_event a.event)) (kind_rank (kind_of_event b.event))) (eqb (verdict_rank (verdict_of a.event)) (verdict_rank (verdict_of b.event))) words.1 in
    let number = eqb-true (number_of_event a.event) (number_of_event b.event) words.0 in
    let kind = one_kind (kind_of_event a.event) (kind_of_event b.event) (eqb-true (kind_rank (kind_of_event a.event)) (kind_rank (kind_of_event b.event)) kinds.0) in
    let verdict = one_verdict (verdict_of a.event) (verdict_of b.event) (eqb-true (verdict_rank (verdict_of a.event)) (verdict_rank (verdict_of b.event)) kinds.1) in
    let part = same_bytes_eq a.part b.part bytes.0 in
    let output = same_bytes_eq a.output b.output bytes.1 in
    rw (number, kind, verdict, part, output)

seen_same : (a b : Judged) → seen_of a ≡ seen_of b → same a b ≡ true
unfolding same same_event
seen_same a b e =
    rw (
      eq-eqb (number_of_event a.event) (number_of_event b.event) (ap (λ (s : Seen). s.number) e),
      eq-eqb (kind_rank (kind_of_event a.event)) (kind_rank (kind_of_event b.event)) (ap (λ (s : Seen). kind_rank s.kind) e),
      eq-eqb (verdict_rank (verdict_of a.event)) (verdict_rank (verdict_of b.event)) (ap (λ (s : Seen). verdict_rank s.verdict) e),
      ap (λ (s : Seen). same_bytes a.part s.part) (sym e) ∙ same_bytes_refl a.part,
      ap (λ (s : Seen). same_bytes a.output s.output) (sym e) ∙ same_bytes_refl a.output,
    )

-- No entry exactly where all are the same

abbrev Filled : List Entry → Type 0
Filled [] = ⊥
Filled (e ∷ es) = Unit {0}

abbrev Held : List Seen → Type 0
Held [] = ⊥
Held (s ∷ ss) = Unit {0}

abbrev head_seen : Seen → List Seen → Seen
head_seen d [] = d
head_seen d (s ∷ ss) = s

abbrev tail_seen : List Seen → List Seen
tail_seen [] = []
tail_seen (s ∷ ss) = ss

none_alike : (xs ys : List Judged) (k : ℕ) → entries k xs ys ≡ [] → seen xs ≡ seen ys
unfolding entries difference_of
none_alike [] [] k e = refl
none_alike (x ∷ xs) [] k e = absurd (subst Filled e tt)
none_alike [] (y ∷ ys) k e = absurd (subst Filled e tt)
none_alike (x ∷ xs) (y ∷ ys) k e = go (same x y) refl (none_alike xs ys (k + 1)) e
  where
    go : (t : Bool) → same x y ≡ t → (entries (k + 1) xs ys ≡ [] → seen xs ≡ seen ys) → before k (cond t None (Some (parting x.output y.output))) (entries (k + 1) xs ys) ≡ [] → seen (x ∷ xs) ≡ seen (y ∷ ys)
    go true s later q = ap₂ (λ (h : Seen) (t : List Seen). h ∷ t) (same_seen x y s) (later q)
    go false s later q = absurd (subst Filled q tt)

alike-none : (xs ys : List Judged) (k : ℕ) → seen xs ≡ seen ys → entries k xs ys ≡ []
unfolding entries difference_of
alike-none [] [] k e = refl
alike-none (x ∷ xs) [] k e = absurd (subst Held e tt)
alike-none [] (y ∷ ys) k e = absurd (subst Held (sym e) tt)
alike-none (x ∷ xs) (y ∷ ys) k e =
    let s : same x y ≡ true = seen_same x y (ap (head_seen (seen_of x)) e) in
    go (same x y) s (alike-none xs ys (k + 1) (ap tail_seen e))
  where
    go : (t : Bool) → t ≡ true → entries (k + 1) xs ys ≡ [] → before k (cond t None (Some (parting x.output y.output))) (entries (k + 1) xs ys) ≡ []
    go true s i = i
    go false s i = absurd (false≢true s)

pub complete : (a b : Account) (n : ℕ) → Complete a b n
unfolding finding_of differences
complete a b n =
    let es = entries 0 a.answers b.answers in
    record {
      alike = λ l r.
          let sum = ap length (take-append-drop (fitting n) es) in
          none_alike a.answers b.answers 0 (nil_from_length es (omega (arith, l, r, sum, length-append (take (fitting n) es) (drop (fitting n) es))));
      nothing = λ s.
          let e = alike-none a.answers b.answers 0 s in (
            ap (λ (x : List Entry). length (take (fitting n) x)) e ∙ rw (take-nil {A = Entry} (fitting n)),
            ap (λ (x : List Entry). length (drop (fitting n) x)) e ∙ rw (drop-nil {A = Entry} (fitting n)),
          );
    }

-- The first of the list

take_own : (m : ℕ) (es : List Entry) → take (length (take m es)) es ≡ take m es
take_own m es = rw (length-take m es) (take_min m es)

room-full : (m : ℕ) (es : List Entry) → (length (drop m es) ≡ 0 → ⊥) → length (take m es) ≡ m
room-full m es n = omega (arith, n, length-take m es, length-drop m es)

pub first_ones : (a b : Account) (list : List ℕ) → FirstOnes a b list
unfolding finding_of listed_in
first_ones a b list =
    let es = differences a b in
    let m = fitting (length list) in
    let ns = numbers_of (take m es) in
    record {
      listed = take_at ns (drop (length ns) list) (2 * length (take m es)) (length_numbers (take m es)) ∙ ap numbers_of (sym (take_own m es));
      sum = sym (length-append (take m es) (drop m es)) ∙ ap length (take-append-drop m es);
      full = room-full m es;
      stays = drop_at ns (drop (length ns) list) (2 * length (take m es)) (length_numbers (take m es)) ∙ rw (length_numbers (take m es));
    }

-- The order of the captures

eqb_turned : (m n : ℕ) → eqb m n ≡ eqb n m
eqb_turned m n = one_test (eqb m n) (eqb n m) (λ e. eq-eqb n m (sym (eqb-true m n e))) (λ e. eq-eqb m n (sym (eqb-true n m e)))

parting_turned : (xs ys : List ℕ) → parting xs ys ≡ parting ys xs
unfolding parting
parting_turned [] [] = refl
parting_turned [] (y ∷ ys) = refl
parting_turned (x ∷ xs) [] = refl
parting_turned (x ∷ xs) (y ∷ ys) = ap₂ (λ (t : Bool) (n : ℕ). cond t (suc n) 0) (eqb_turned x y) (parting_turned xs ys)

same_turned : (a b : Judged) → same a b ≡ same b a
same_turned a b =
    one_test (same a b) (same b a) (λ e. seen_same b a (sym (same_seen a b e))) (λ e. seen_same a b (sym (same_seen b a e)))

difference_turned : (a b : Judged) → difference_of a b ≡ difference_of b a
unfolding difference_of
difference_turned a b = ap₂ (λ (t : Bool) (n : ℕ). cond t None (Some n)) (same_turned a b) (parting_turned a.output b.output)

entries_turned : (xs ys : List Judged) (k : ℕ) → entries k xs ys ≡ entries k ys xs
unfolding entries
entries_turned [] [] k = refl
entries_turned (x ∷ xs) [] k = ap (before k unpaired) (entries_turned xs [] (k + 1))
entries_turned [] (y ∷ ys) k = ap (before k unpaired) (entries_turned [] ys (k + 1))
entries_turned (x ∷ xs) (y ∷ ys) k = ap₂ (before k) (difference_turned x y) (entries_turned xs ys (k + 1))

finding_turned : (a b : Account) (n : ℕ) → finding_of b a n ≡ swapped (finding_of a b n)
unfolding finding_of differences
finding_turned a b n =
    ap (λ (es : List Entry). record {
      listed = length (take (fitting n) es);
      remaining = length (drop (fitting n) es);
      first = record { fed = length b.answers; end = b.end };
      second = record { fed = length a.answers; end = a.end };
    }) (entries_turned b.answers a.answers 0)

list_turned : (a b : Account) (list : List ℕ) → listed_in b a list ≡ listed_in a b list
unfolding listed_in differences
list_turned a b list = ap (λ (es : List Entry). overwrite (numbers_of (take (fitting (length list)) es)) list) (entries_turned b.answers a.answers 0)

pub swaps : (s : Started) (first second list : List ℕ) → Swaps s first second list
unfolding compared_of room_of
swaps s first second list = record { finding = go s.check; room = also s.check }
  where
    go : (k : Check) → compared_by s.listener second first (length list) k ≡ swapped_by (compared_by s.listener first second (length list) k)
    go (Err r) = refl
    go (Ok _) = ap Ok (finding_turned (account_of s.listener first) (account_of s.listener second) (length list))

    also : (k : Check) → room_by s.listener second first list k ≡ room_by s.listener first second list k
    also (Err r) = refl
    also (Ok _) = list_turned (account_of s.listener first) (account_of s.listener second) list
