-- Blocks of 512 bytes: 64 little-endian words of 64 bits, the last of which checks the others.
use Rattle.std.specs.Prelude.{ℕ, zero, suc, ◌+◌, ◌-◌, ◌*◌, ◌/◌, ◌%◌, ◌^◌, Bool, true, ◌&&◌, List, [], ◌∷◌, ◌++◌, map, length, take, drop, replicate, ◌==◌}
use mathlib.Core.List.{flat_map}
use Rattle.boxes.specs.Boxes.{from}

abbrev pub word_bytes : ℕ
word_bytes = 8

abbrev pub block_words : ℕ
block_words = 64

abbrev pub block_bytes : ℕ
block_bytes = block_words * word_bytes

-- words 0 to 62, which word 63 checks
abbrev pub payload_words : ℕ
payload_words = block_words - 1

-- the n lowest bytes of a number, lowest first, and the number that bytes hold
unfoldable pub bytes_of : ℕ → ℕ → List ℕ
bytes_of zero w = []
bytes_of (suc n) w = w % 256 ∷ bytes_of n (w / 256)

unfoldable pub number_of : List ℕ → ℕ
number_of [] = 0
number_of (b ∷ bs) = b + 256 * number_of bs

-- word k of some bytes
abbrev pub word_at : List ℕ → ℕ → ℕ
word_at bytes k = number_of (take word_bytes (drop (k * word_bytes) bytes))

-- The check starts at 1; for each word in turn the running sum is turned left by one bit and the word is added modulo 2^64.

abbrev pub turned : ℕ → ℕ
turned s = s * 2 % 2 ^ 64 + s / 2 ^ 63

unfoldable pub check_from : ℕ → List ℕ → ℕ
check_from s [] = s
check_from s (w ∷ ws) = check_from ((turned s + w) % 2 ^ 64) ws

abbrev pub check : List ℕ → ℕ
check ws = check_from 1 ws

-- the given words, of which there are at most 63, and then 0
abbrev pub payload : List ℕ → List ℕ
payload ws = ws ++ replicate (payload_words - length ws) 0

-- the bytes of a block with this payload
unfoldable pub block : List ℕ → List ℕ
block ws = flat_map (bytes_of word_bytes) (payload ws ++ (check (payload ws) ∷ []))

-- whether word 63 of a block checks words 0 to 62
abbrev pub agrees : List ℕ → Bool
agrees bytes = check (map (word_at bytes) (from 0 payload_words)) == word_at bytes payload_words

-- Blocks, one behind the other.

abbrev pub block_count : List ℕ → ℕ
block_count bytes = length bytes / block_bytes

-- whether a test holds of the n numbers k, k + 1, ..
unfoldable pub each : (ℕ → Bool) → ℕ → ℕ → Bool
each p k zero = true
each p k (suc n) = p k && each p (suc k) n

-- whether every check agrees
abbrev pub block_agrees : List ℕ → ℕ → Bool
block_agrees bytes k = agrees (drop (k * block_bytes) bytes)

unfoldable pub checks_agree : List ℕ → Bool
checks_agree bytes = each (block_agrees bytes) 0 (block_count bytes)
