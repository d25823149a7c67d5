-- The laws of `read_from`: skipping is dropping, one step in terms of the area and a place in it, and two readings of one area side by side. Assumes nothing.
use Rattle.std.proofs.Common.{◌≡◌, ℕ, zero, suc, ◌+◌, ◌-◌, ◌<◌, ◌≤◌, Bool, true, false, cond, ◌&&◌, eqb, leb, List, [], ◌∷◌, length, drop, sym, refl, ap, ◌∙◌, add-zero, add-one, arith, length-drop, get_or-drop, drop-cons, drop-drop, leb-true, eq-eqb, ne_eqb, drop_of_length-le}
use Rattle.lists.proofs.Bools.{and_true}
use Rattle.segment.specs.Bytes.{byte_at}
use Rattle.segment.specs.Options.{read_from, by_kind}

module _ {A : Type 0} (each : A → ℕ → ℕ → A) (broken : A → ℕ → A) where
  -- skipping k bytes is reading from k further on
  skipped : (i k : ℕ) (rest : List ℕ) (found : A) → read_from each broken i k rest found ≡ read_from each broken (i + k) 0 (drop k rest) found
  unfolding read_from
  skipped i zero rest found = ap (λ (j : ℕ). read_from each broken j 0 rest found) (sym (add-zero i))
  skipped i (suc k) [] found = refl
  skipped i (suc k) (b ∷ rest) found =
      let e : i + 1 + k ≡ i + suc k = omega arith in
      skipped (i + 1) k rest found ∙ ap (λ (j : ℕ). read_from each broken j 0 (drop k rest) found) e

  -- reading an area from place i on
  abbrev pub read_at : List ℕ → ℕ → A → A
  read_at area i found = read_from each broken i 0 (drop i area) found

  -- one step at a place: what stands there, its length byte, and the bytes left
  pub one_step : (area : List ℕ) (i : ℕ) (found : A) → i < length area →
      read_at area i found
      ≡ by_kind (byte_at area i) (byte_at area (i + 1)) (length area - i) found
      (read_at area (i + 1) found)
      (read_at area (i + 1 + (byte_at area (i + 1) - 1)) (each found i (byte_at area (i + 1))))
      (broken found i)
  unfolding read_from
  one_step area i found h =
      let n = i + 1 in
      let k = byte_at area i in
      let l = byte_at area n in
      let d : drop (suc i) area ≡ drop n area = ap (λ (j : ℕ). drop j area) (sym (add-one i)) in
      let e : byte_at (drop n area) 0 ≡ l = get_or-drop n area 0 0 ∙ ap (byte_at area) (add-zero n) in
      let r : length (drop n area) + 1 ≡ length area - i = omega (arith, length-drop n area) in
      ap (λ (t : List ℕ). read_from each broken i 0 t found) (drop-cons area i 0 h ∙ ap (λ (t : List ℕ). k ∷ t) d)
      ∙ ap (λ (x : ℕ). by_kind k x (length (drop n area) + 1) found (read_at area n found) (read_from each broken n (x - 1) (drop n area) (each found i x)) (broken found i)) e
      ∙ ap (λ (x : ℕ). by_kind k l x found (read_at area n found) (read_from each broken n (l - 1) (drop n area) (each found i l)) (broken found i)) r
      ∙ ap (λ (z : A). by_kind k l (length area - i) found (read_at area n found) z (broken found i))
      (skipped n (l - 1) (drop n area) (each found i l)
      ∙ ap (λ (t : List ℕ). read_from each broken (n + (l - 1)) 0 t (each found i l)) (drop-drop (l - 1) n area))

  -- so at a place the reading ends, goes on behind one byte, goes on behind an option, or breaks off; and at the end of the area it ends
  pub ends : (area : List ℕ) (i : ℕ) (found : A) → i < length area → byte_at area i ≡ 0 → read_at area i found ≡ found
  ends area i found h k = simp (eq-eqb (byte_at area i) 0 k) at (one_step area i found h)

  pub passes_one : (area : List ℕ) (i : ℕ) (found : A) → i < length area → byte_at area i ≡ 1 → read_at area i found ≡ read_at area (i + 1) found
  passes_one area i found h k =
      simp (ne_eqb (byte_at area i) 0 (λ z. omega arith), eq-eqb (byte_at area i) 1 k) at (one_step area i found h)

  pub passes_option : (area : List ℕ) (i : ℕ) (found : A) → i < length area → (byte_at area i ≡ 0 → ⊥) → (byte_at area i ≡ 1 → ⊥)
      → leb 2 (byte_at area (i + 1)) && leb (byte_at area (i + 1)) (length area - i) ≡ true
      → read_at area i found ≡ read_at area (i + byte_at area (i + 1)) (each found i (byte_at area (i + 1)))
  passes_option area i found h k m e =
      let l = byte_at area (i + 1) in
      let least = leb-true 2 l (and_true (leb 2 l) (leb l (length area - i)) e).0 in
      let p : i + 1 + (l - 1) ≡ i + l = omega arith in
      simp (ne_eqb (byte_at area i) 0 k, ne_eqb (byte_at area i) 1 m, e) at (one_step area i found h) ∙ ap (λ (j : ℕ). read_at area j (each found i l)) p

  pub breaks_off : (area : List ℕ) (i : ℕ) (found : A) → i < length area → (byte_at area i ≡ 0 → ⊥) → (byte_at area i ≡ 1 → ⊥)
      → leb 2 (byte_at area (i + 1)) && leb (byte_at area (i + 1)) (length area - i) ≡ false → read_at area i found ≡ broken found i
  breaks_off area i found h k m e = simp (ne_eqb (byte_at area i) 0 k, ne_eqb (byte_at area i) 1 m, e) at (one_step area i found h)

  pub none_left : (area : List ℕ) (i : ℕ) (found : A) → length area ≤ i → read_at area i found ≡ found
  unfolding read_from
  none_left area i found h = ap (λ (t : List ℕ). read_from each broken i 0 t found) (drop_of_length-le area h)

-- What holds of two readings of one area at their start, and stays with each option and where they break off, holds at their end.
module _ {A B : Type 0} (each : A → ℕ → ℕ → A) (broken : A → ℕ → A) (each' : B → ℕ → ℕ → B) (broken' : B → ℕ → B) (R : A → B → Type 0) (area : List ℕ)
    (stays : (a : A) (b : B) (i len : ℕ) → len ≡ byte_at area (i + 1) → 2 ≤ len → i + len ≤ length area → R a b → R (each a i len) (each' b i len))
    (stays-broken : (a : A) (b : B) (i : ℕ) → i < length area → R a b → R (broken a i) (broken' b i)) where
  either : (c : Bool) {x y : A} {x' y' : B} → (c ≡ true → R x x') → (c ≡ false → R y y') → R (cond c x y) (cond c x' y')
  either true f h = f refl
  either false f h = h refl

  -- where the rest of an area begins, the next place begins behind
  next : (i : ℕ) (b : ℕ) (rest : List ℕ) → b ∷ rest ≡ drop i area → rest ≡ drop (i + 1) area
  next i b rest e = ap (drop 1) e ∙ drop-drop 1 i area

  together : (i skip : ℕ) (rest : List ℕ) (a : A) (b : B) → rest ≡ drop i area → R a b → R (read_from each broken i skip rest a) (read_from each' broken' i skip rest b)
  unfolding read_from
  together i skip [] a b e r = r
  together i (suc skip) (x ∷ rest) a b e r = together (i + 1) skip rest a b (next i x rest e) r
  together i zero (kind ∷ rest) a b e r =
      let len = byte_at rest 0 in
      let e₁ = next i kind rest e in
      let size : suc (length rest) ≡ length area - i = ap length e ∙ length-drop i area in
      let here : len ≡ byte_at area (i + 1) = ap (λ (t : List ℕ). byte_at t 0) e₁ ∙ get_or-drop (i + 1) area 0 0 ∙ ap (byte_at area) (add-zero (i + 1)) in
      either (eqb kind 0) (λ _. r)
      (λ _. either (eqb kind 1) (λ _. together (i + 1) 0 rest a b e₁ r)
      (λ _. either (leb 2 len && leb len (length rest + 1))
      (λ f.
      let t = and_true (leb 2 len) (leb len (length rest + 1)) f in
      let least = leb-true 2 len t.0 in
      let most = leb-true len (length rest + 1) t.1 in
      together (i + 1) (len - 1) rest (each a i len) (each' b i len) e₁ (stays a b i len here least (omega arith) r))
      (λ _. stays-broken a b i (omega arith) r)))

  pub both_readings : (a : A) (b : B) → R a b → R (read_from each broken 0 0 area a) (read_from each' broken' 0 0 area b)
  both_readings a b r = together 0 0 area a b refl r
