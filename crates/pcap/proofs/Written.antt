-- How long the headers are that are written, the check of a record that is, and a header with bytes put behind it. Assumes nothing.
use Rattle.std.proofs.Common.{◌≡◌, ℕ, ◌+◌, ◌-◌, ◌≤◌, List, ◌++◌, length, take, drop, sym, refl, ap, ◌∙◌, append_assoc, length-append, take_at, drop_at, drop-drop, le-ltb}
use lib.Seq.{take-length}
use borrow.Rule.Slice.PartMut.{put_mid}
use Rattle.lists.specs.Bytes.{overwrite}
use Rattle.lists.proofs.Lent.{headed}
use Rattle.segment.specs.Refusal.{all_clear}
use Rattle.pcap.specs.Write.{head_in, file_header_in, record_check}
use Rattle.pcap.specs.declared.file.ByteOrder.{ByteOrder}
use Rattle.pcap.specs.declared.file.ByteOrder.TheVariants.{LowFirst, HighFirst}

pub record_clear : (n room : ℕ) → n ≤ 4096 → 16 + n ≤ room → record_check n room ≡ all_clear
record_clear n room h k = rw (le-ltb 4096 n h, le-ltb room (16 + n) k)

-- how many bytes the headers have
pub head_length : (o : ByteOrder) (s m n k : ℕ) → length (head_in o s m n k) ≡ 16
unfolding head_in
head_length LowFirst s m n k = refl
head_length HighFirst s m n k = refl

pub file_length : (o : ByteOrder) → length (file_header_in o) ≡ 24
unfolding file_header_in
file_length LowFirst = refl
file_length HighFirst = refl

-- a header at the output's start, and bytes put whole behind it
pub put_whole : (out h src : List ℕ) (n k : ℕ) → length h ≡ n → k ≡ length src → put_mid n k (h ++ drop n out) src ≡ overwrite (h ++ src) out
put_whole out h src n k e f =
    let later : drop k (drop n (h ++ drop n out)) ≡ drop (length h + length src) out =
    ap (drop k) (drop_at h (drop n out) n e) ∙ drop-drop k n out ∙ rw (e, f)
    in
    rw (take_at h (drop n out) n e, later, length-append, append_assoc)

-- a header put at the output's start, and then bytes behind it, as many as fit
pub put_headed : (out h src mid last : List ℕ) (n : ℕ) → length h ≡ n → n ≤ length out
    → mid ≡ overwrite h out
    → last ≡ overwrite src (take (length mid - n) (drop n mid))
    → put_mid n (length mid - n) mid last ≡ overwrite (h ++ src) out
put_headed out h src mid last n e k m l =
    headed out h src mid last n e k
    (m ∙ ap (λ (x : List ℕ). x ++ drop (length h) out) (sym (take-length h)))
    (l ∙ ap (λ (x : List ℕ). x ++ drop (length src) (take (length mid - n) (drop n mid))) (sym (take-length src)))
