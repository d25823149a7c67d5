-- The value of a sum of swapped words whose carries are put off, and a checksum that is right by its making. Assumes nothing.
use Rattle.std.proofs.Common.{◌≡◌, ℕ, ◌+◌, ◌*◌, ◌/◌, ◌%◌, ◌^◌, ◌<◌, ◌≤◌, List, [], ◌∷◌, ◌++◌, length, take, drop, sym, ap, ◌∙◌, add-zero, zero-add, arith, take-append-drop, length-take-le}
use Rattle.lists.specs.Bytes.{Bytes}
use Rattle.segment.specs.Bytes.{be16, word}
use Rattle.segment.specs.Checksum.{ones_add, ones_sum, complement}
use Rattle.segment.specs.Totals.{swapped, total, pass_total, folded}
use Rattle.lists.proofs.ByteLists.{bytes-append, bytes_take}
use Rattle.segment.proofs.Total.{total_pass}

fold16 : (x t : ℕ) → folded (x % 65536 + x / 65536 + t) ≡ folded (x + t)
unfolding folded
fold16 x t = omega arith

small : (x : ℕ) → x < 65536 → folded x ≡ x
unfolding folded
small x h = omega arith

full : (t : ℕ) → folded (t + complement (folded t)) ≡ 65535
unfolding folded
full t = omega arith

-- A word and 256 times the swapped one fold to the same: 256 * 256 is 1 more than 65535.
swap_word : (t a b : ℕ) → folded (t + word a b) ≡ folded (t + 256 * word b a)
unfolding folded
swap_word t a b = omega arith

swap_folded : (t : ℕ) → swapped (folded t) ≡ folded (256 * t)
unfolding folded swapped
swap_folded t = omega arith

swap_added : (sum t : ℕ) → sum < 65536 → folded (256 * (swapped sum + t)) ≡ folded (sum + 256 * t)
unfolding folded swapped
swap_added sum t h = omega arith

sum-total : (sum : ℕ) (s : List ℕ) → folded (ones_sum sum s) ≡ folded (sum + 256 * total s)
unfolding ones_sum total ones_add folded
sum-total sum [] = ap folded (sym (add-zero sum))
sum-total sum (a ∷ []) = omega arith
sum-total sum (a ∷ b ∷ rest) =
    let t = total rest in
    let e : sum + word a b + 256 * t ≡ sum + 256 * t + word a b = omega arith in
    let g : sum + 256 * t + 256 * word b a ≡ sum + 256 * (word b a + t) = omega arith in
    sum-total (ones_add sum (word a b)) rest ∙ fold16 (sum + word a b) (256 * t) ∙ ap folded e ∙ swap_word (sum + 256 * t) a b ∙ ap folded g

-- the sum of bytes, from a word, is a word
sum_small : (sum : ℕ) (s : List ℕ) → sum < 65536 → Bytes s → ones_sum sum s < 65536
unfolding ones_sum ones_add
sum_small sum [] h b = h
sum_small sum (x ∷ []) h b = omega arith
sum_small sum (x ∷ y ∷ rest) h b = sum_small (ones_add sum (word x y)) rest (omega arith) b.1.1

sum_folded : (s : List ℕ) → Bytes s → ones_sum 0 s ≡ folded (256 * total s)
sum_folded s b =
    let e : 0 + 256 * total s ≡ 256 * total s = omega arith in
    sym (small (ones_sum 0 s) (sum_small 0 s (omega arith) b)) ∙ sum-total 0 s ∙ ap folded e

-- a sum and a total of words, all of them swapped, folded and swapped again are the sum
pub run-sum : (sum : ℕ) (s : List ℕ) → sum < 65536 → Bytes s → swapped (folded (swapped sum + total s)) ≡ ones_sum sum s
run-sum sum s h b =
    swap_folded (swapped sum + total s) ∙ swap_added sum (total s) h ∙ sym (sum-total sum s) ∙ small (ones_sum sum s) (sum_small sum s h b)

total-append : (a b : List ℕ) → length a % 2 ≡ 0 → total (a ++ b) ≡ total a + total b
unfolding total
total-append [] b h = omega arith
total-append (x ∷ []) b h = absurd (omega arith)
total-append (x ∷ y ∷ rest) b h = omega (arith, total-append rest b (omega arith))

-- A pass of n words adds what n steps of the word-by-word sum add.
pub pass_sum : (n sum : ℕ) (s : List ℕ) → sum < 65536 → Bytes s → 2 * n ≤ length s
    → swapped (folded (swapped sum + pass_total n s 0)) ≡ ones_sum sum (take (2 * n) s)
pass_sum n sum s h b m =
    let t = take (2 * n) s in
    let l : length t ≡ 2 * n = length-take-le (2 * n) s m in
    let p : total s ≡ pass_total n s 0 + total (drop (2 * n) s) = rw (zero-add (2 * n)) at (total_pass n s 0 (omega arith)) in
    let a : total s ≡ total t + total (drop (2 * n) s) = rw (take-append-drop (2 * n) s) at (total-append t (drop (2 * n) s) (omega arith)) in
    let e : total t ≡ pass_total n s 0 = omega arith in
    rw (sym e) (run-sum sum t h (bytes_take (2 * n) s b))

-- two steps fold a number of 32 bits
pub two_steps : (x t : ℕ) → x < 2 ^ 32 → t ≡ x % 65536 + x / 65536 → t % 65536 + t / 65536 ≡ folded x
unfolding folded
two_steps x t h e = omega arith

word_back : (x : ℕ) → x < 65536 → word (x / 256 % 256) (x % 256) ≡ x
word_back x h = omega arith

-- where a word of zeros gives way to the complement of the sum, the sum is 65535
pub sum-with-complement : (a b : List ℕ) → length a % 2 ≡ 0 → Bytes a → Bytes b →
    ones_sum 0 (a ++ (be16 (complement (ones_sum 0 (a ++ (be16 0 ++ b)))) ++ b)) ≡ 65535
unfolding total
sum-with-complement a b h p q =
    let z = ones_sum 0 (a ++ (0 ∷ 0 ∷ b)) in
    let x = complement z / 256 % 256 in
    let y = complement z % 256 in
    let n = 256 * (total a + total b) in
    let t : 256 * total (a ++ (0 ∷ 0 ∷ b)) ≡ n = omega (arith, total-append a (0 ∷ 0 ∷ b) h) in
    let u : 256 * total (a ++ (x ∷ y ∷ b)) ≡ n + 256 * word y x = omega (arith, total-append a (x ∷ y ∷ b) h) in
    let w = word_back (complement z) (omega arith) in
    let j : z ≡ folded n = sum_folded (a ++ (0 ∷ 0 ∷ b)) (bytes-append a (0 ∷ 0 ∷ b) p (omega arith, (omega arith, q))) ∙ ap folded t in
    sum_folded (a ++ (x ∷ y ∷ b)) (bytes-append a (x ∷ y ∷ b) p (omega arith, (omega arith, q))) ∙ ap folded u ∙ sym (swap_word n x y)
    ∙ ap (λ (k : ℕ). folded (n + k)) w ∙ ap (λ (k : ℕ). folded (n + complement k)) j ∙ full n
