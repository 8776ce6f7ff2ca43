-- A path's two blocks as they are read.
use Rattle.std.specs.Prelude.{◌≡◌, ℕ, ◌-◌, ◌*◌, ◌<◌, ◌≤◌, true, List, length, drop}
use Rattle.boxes.specs.Boxes.{at, lows, highs}
use Rattle.listing.specs.Listing.{Path}
use Rattle.listing.specs.Numbers.{kind_number, reason_word}
use Rattle.blocks.specs.Block.{block_bytes, payload_words, word_at, agrees}
use Rattle.blocks.specs.Layout as place
use Rattle.blocks.specs.Record.{register_of, exit_of, record_bytes}

abbrev pub second : List ℕ → List ℕ
second bytes = drop block_bytes bytes

-- The bytes tell of path n that it is p. An input that p has not is 0.
pub record Tells (bytes : List ℕ) (n : ℕ) (p : Path) : Type 0 where
  pub size : length bytes ≡ record_bytes (length p.box)
  pub number : word_at bytes place.number ≡ n
  pub kind : word_at bytes place.kind ≡ kind_number p.end
  pub pc : word_at bytes place.pc ≡ p.pc
  pub steps : word_at bytes place.steps ≡ p.steps
  pub inputs : word_at bytes place.inputs ≡ length p.box
  pub low : (i : ℕ) → i < place.input_places (length p.box) → word_at bytes (place.low_at (length p.box) i) ≡ at (lows p.box) i
  pub high : (i : ℕ) → i < place.input_places (length p.box) → word_at bytes (place.high_at (length p.box) i) ≡ at (highs p.box) i
  pub exit_low : word_at bytes place.exit_low ≡ (exit_of p).low
  pub exit_high : word_at bytes place.exit_high ≡ (exit_of p).high
  pub reason : word_at bytes place.reason ≡ reason_word p.end
  pub reads : word_at bytes place.reads ≡ p.reads
  pub rest : (k : ℕ) → place.rest ≤ k → k < payload_words → word_at bytes k ≡ 0
  pub checks : agrees bytes ≡ true
  pub number_again : word_at (second bytes) 0 ≡ n
  pub register_low : (r : ℕ) → 1 ≤ r → r ≤ 31 → word_at (second bytes) (2 * r - 1) ≡ (register_of p r).low
  pub register_high : (r : ℕ) → 1 ≤ r → r ≤ 31 → word_at (second bytes) (2 * r) ≡ (register_of p r).high
  pub checks_again : agrees (second bytes) ≡ true
