-- Machine words: the unsigned numbers below 2^64. Every result is taken modulo 2^64.
use Rattle.std.specs.Prelude.{ℕ, ◌-◌, ◌%◌, ◌^◌, cond, ℤ, pos, negsuc, nat_lt}

abbrev pub size : ℕ
size = 2 ^ 64

-- MAX of the papers: the greatest word
abbrev pub max_word : ℕ
max_word = size - 1

abbrev pub word : ℕ → ℕ
word n = n % size

-- a number of `width` bits, read in two's complement
unfoldable pub signed : ℕ → ℕ → ℤ
signed width n = cond (nat_lt n (2 ^ (width - 1))) (pos n) (negsuc (2 ^ width - 1 - n))

-- a signed number as a word, in two's complement
unfoldable pub widen : ℤ → ℕ
widen (pos n) = word n
widen (negsuc n) = max_word - n
