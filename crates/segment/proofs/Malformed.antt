-- What holds of a segment that is well formed, and of its parts. Assumes nothing.
use Rattle.std.specs.Prelude.{None, Some}
use Rattle.std.proofs.Common.{◌≡◌, ℕ, ◌+◌, ◌-◌, ◌*◌, ◌<◌, ◌≤◌, Bool, true, false, cond, ltb, List, [], ◌++◌, length, take, drop, sym, refl, ap, ◌∙◌, arith, take-append-drop, length-take, drop-drop, ltb-false}
use Rattle.segment.specs.Bytes.{byte_at}
use Rattle.segment.specs.Header.{malformed, offset_of, header_length, fields_of, shape_of, shape_check, option_area, payload_of}
use Rattle.segment.specs.Refusal.{check_number}
use Rattle.segment.specs.declared.header.Header.{Header}
use Rattle.lists.proofs.Bools.{or_false}

-- none of the four reasons for refusal 1
pub record Formed (s : List ℕ) : Type 0 where
  pub long : 20 ≤ length s
  pub short : length s ≤ 1520
  pub offset : 5 ≤ offset_of s
  pub inside : header_length s ≤ length s

pub formed : (s : List ℕ) → malformed s ≡ false → Formed s
unfolding malformed
formed s e =
    let a = or_false (ltb (length s) 20) _ e in
    let b = or_false (ltb 1520 (length s)) _ a.1 in
    let c = or_false (ltb (offset_of s) 5) (ltb (length s) (header_length s)) b.1 in
    record {
      long = ltb-false (length s) 20 a.0;
      short = ltb-false 1520 (length s) b.0;
      offset = ltb-false (offset_of s) 5 c.0;
      inside = ltb-false (length s) (header_length s) c.1;
    }

-- a malformed segment has no parts
pub no_area : (s : List ℕ) → malformed s ≡ true → option_area s ≡ []
unfolding option_area
no_area s e = rw e

pub no_payload : (s : List ℕ) → malformed s ≡ true → payload_of s ≡ []
unfolding payload_of
no_payload s e = rw e

-- a well-formed segment's parts, by its data offset
module _ (s : List ℕ) (e : malformed s ≡ false) where
  pub area_is : take (4 * offset_of s - 20) (drop 20 s) ≡ option_area s
  unfolding option_area
  area_is = rw e

  pub payload_is : drop (4 * offset_of s) s ≡ payload_of s
  unfolding payload_of
  payload_is = rw e

-- and its header has that offset
pub offset_is : (s : List ℕ) → (fields_of s).offset ≡ offset_of s
unfolding fields_of
offset_is s = refl

-- the first 20 bytes, the option area and the payload are the segment
pub parts : (s : List ℕ) → malformed s ≡ false → take 20 s ++ (option_area s ++ payload_of s) ≡ s
unfolding option_area payload_of
parts s e =
    let f = formed s e in
    let h = header_length s in
    let n : 20 + (h - 20) ≡ h = omega arith in
    let d : drop h s ≡ drop (h - 20) (drop 20 s) = sym (drop-drop (h - 20) 20 s ∙ ap (λ (k : ℕ). drop k s) n) in
    rw (e, d, take-append-drop (h - 20) (drop 20 s), take-append-drop 20 s)

-- the option area has at most 40 bytes: the offset is half a byte
pub area-most : (s : List ℕ) → byte_at s 12 < 256 → length (option_area s) ≤ 40
unfolding option_area
area-most s h = go (malformed s)
  where
    go : (b : Bool) → length (cond b [] (take (header_length s - 20) (drop 20 s))) ≤ 40
    go true = omega arith
    go false = omega (arith, length-take (header_length s - 20) (drop 20 s))

-- the number of a shape is 1 where the segment is malformed, else 0
pub shape-number : (s : List ℕ) → check_number (shape_check (shape_of s)) ≡ cond (malformed s) 1 0
unfolding shape_of
shape-number s = go (malformed s)
  where
    go : (b : Bool) → check_number (shape_check (cond b None (Some (fields_of s)))) ≡ cond b 1 0
    go true = refl
    go false = refl

-- what follows for the segment from its shape
pub ill_shaped : (s : List ℕ) → shape_of s ≡ None → malformed s ≡ true
unfolding shape_of
ill_shaped s e = go (malformed s) e
  where
    go : (b : Bool) → cond b None (Some (fields_of s)) ≡ None → b ≡ true
    go true k = refl
    go false k = absurd (let z : ◌≡◌ {A = ℕ} 0 1 = cc in omega arith)

pub well_shaped : (s : List ℕ) (h : Header) → shape_of s ≡ Some h → (malformed s ≡ false) × (h ≡ fields_of s)
unfolding shape_of
well_shaped s h e = go (malformed s) e
  where
    go : (b : Bool) → cond b None (Some (fields_of s)) ≡ Some h → (b ≡ false) × (h ≡ fields_of s)
    go true k = absurd (let z : ◌≡◌ {A = ℕ} 0 1 = cc in omega arith)
    go false k = (refl, cc)
