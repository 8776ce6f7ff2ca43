-- How much the machine has: code is 1 to 1,024 words, memory is 512 words.
use Rattle.std.specs.Prelude.{ℕ}

abbrev pub code_words : ℕ
code_words = 1024

abbrev pub memory_words : ℕ
memory_words = 512
