-- Lines, words, numbers and byte strings by example, computed by the definitions. Assumes nothing.
use mathlib.Core.Path.{◌≡◌, refl}
use mathlib.Core.Bool.{true, false}
use mathlib.Core.List.{[], ◌∷◌}
use Rattle.lists.specs.Bytes.{same_bytes}
use Rattle.std.specs.Prelude.{Some, None}
use Rattle.text.specs.Line.{is_silent}
use Rattle.text.specs.Word.{spaces, first_word, after_word, word_at}
use Rattle.text.specs.Number.{value_from, number_as, number_in, digits_of, decimal}
use Rattle.text.specs.ByteString.{nibble, pair_bytes, bytes_of, is_readable, bytes_in, bytes_read}

-- an empty line and `#a` print nothing; ` #` is no comment
pub line_empty : is_silent [] ≡ true
unfolding is_silent
line_empty = refl

pub line_comment : is_silent (35 ∷ 97 ∷ []) ≡ true
unfolding is_silent
line_comment = refl

pub line_indented : is_silent (32 ∷ 35 ∷ []) ≡ false
unfolding is_silent
line_indented = refl

-- `a  b` has two spaces and three words, the second empty
pub two_spaces : spaces (97 ∷ 32 ∷ 32 ∷ 98 ∷ []) ≡ 2
two_spaces = refl

pub word_first : word_at 0 (97 ∷ 32 ∷ 32 ∷ 98 ∷ []) ≡ 97 ∷ []
unfolding word_at first_word after_word
word_first = refl

pub word-empty : word_at 1 (97 ∷ 32 ∷ 32 ∷ 98 ∷ []) ≡ []
unfolding word_at first_word after_word
word-empty = refl

pub word-last : word_at 2 (97 ∷ 32 ∷ 32 ∷ 98 ∷ []) ≡ 98 ∷ []
unfolding word_at first_word after_word
word-last = refl

pub word_past : word_at 3 (97 ∷ 32 ∷ 32 ∷ 98 ∷ []) ≡ []
unfolding word_at first_word after_word
word_past = refl

-- `007` where 7 is the most; `8` there; no digits; `1a`
pub number_zeros : number_in (48 ∷ 48 ∷ 55 ∷ []) 7 ≡ Some 7
unfolding number_as value_from
number_zeros = refl

pub number_more : number_in (56 ∷ []) 7 ≡ None
unfolding number_as value_from
number_more = refl

pub number-none : number_in [] 7 ≡ None
unfolding number_as value_from
number-none = refl

pub number_mixed : number_in (49 ∷ 97 ∷ []) 100 ≡ None
unfolding number_as value_from
number_mixed = refl

-- 2^64 − 1 and 2^64
pub number-most : number_in (decimal 18446744073709551615) 18446744073709551615 ≡ Some 18446744073709551615
unfolding number_as value_from decimal digits_of
number-most = refl

pub number_past : number_in (decimal 18446744073709551616) 18446744073709551615 ≡ None
unfolding number_as value_from decimal digits_of
number_past = refl

-- `-`; `0aF3`, and into a buffer of one byte; `abc`; an empty word; `0g`
pub bytes-none : bytes_read (45 ∷ []) 0 ≡ Some 0
unfolding bytes_read is_readable bytes_of same_bytes
bytes-none = refl

pub bytes_two : bytes_read (48 ∷ 97 ∷ 70 ∷ 51 ∷ []) 2 ≡ Some 2
unfolding bytes_read is_readable bytes_of same_bytes pair_bytes nibble
bytes_two = refl

pub bytes_two_are : bytes_in (48 ∷ 97 ∷ 70 ∷ 51 ∷ []) 2 ≡ 10 ∷ 243 ∷ []
unfolding bytes_in is_readable bytes_of same_bytes pair_bytes nibble
bytes_two_are = refl

pub bytes-long : bytes_read (48 ∷ 97 ∷ 70 ∷ 51 ∷ []) 1 ≡ None
unfolding bytes_read is_readable bytes_of same_bytes pair_bytes nibble
bytes-long = refl

pub bytes_odd : bytes_read (97 ∷ 98 ∷ 99 ∷ []) 8 ≡ None
unfolding bytes_read is_readable bytes_of same_bytes pair_bytes nibble
bytes_odd = refl

pub bytes-empty : bytes_read [] 8 ≡ None
unfolding bytes_read is_readable bytes_of same_bytes
bytes-empty = refl

pub bytes_other : bytes_read (48 ∷ 103 ∷ []) 8 ≡ None
unfolding bytes_read is_readable bytes_of same_bytes pair_bytes nibble
bytes_other = refl
