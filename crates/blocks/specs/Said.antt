-- What a record says of a path, but for its registers: from the bytes, and from the path.
use Rattle.std.specs.Prelude.{ℕ, ◌+◌, List, [], ◌∷◌, map}
use Rattle.boxes.specs.Boxes.{Box, Interval, ◌⋯◌, from}
use Rattle.listing.specs.Listing.{Path}
use Rattle.listing.specs.Numbers.{kind_number, reason_word}
use Rattle.blocks.specs.Block.{word_at}
use Rattle.blocks.specs.Layout as place
use Rattle.blocks.specs.Record.{exit_of}
use Rattle.blocks.specs.Report.{record_at}

pub record Said : Type 0 where
  pub number : ℕ
  pub kind : ℕ
  pub pc : ℕ
  pub steps : ℕ
  pub box : Box
  pub exit : Interval
  pub reason : ℕ
  pub reads : ℕ

-- From the bytes of a record of n inputs.

-- the interval of input i
abbrev pub input_in : ℕ → List ℕ → ℕ → Interval
input_in n bytes i = word_at bytes (place.low_at n i) ⋯ word_at bytes (place.high_at n i)

abbrev pub said_in : ℕ → List ℕ → Said
said_in n bytes =
    record {
      number = word_at bytes place.number;
      kind = word_at bytes place.kind;
      pc = word_at bytes place.pc;
      steps = word_at bytes place.steps;
      box = map (input_in n bytes) (from 0 n);
      exit = word_at bytes place.exit_low ⋯ word_at bytes place.exit_high;
      reason = word_at bytes place.reason;
      reads = word_at bytes place.reads;
    }

-- record k of a report, and its first records
abbrev pub said_at : ℕ → List ℕ → ℕ → Said
said_at n report k = said_in n (record_at n report k)

abbrev pub first_said : ℕ → ℕ → List ℕ → List Said
first_said n count report = map (said_at n report) (from 0 count)

-- From the path, which has this number in its listing.

abbrev pub said_of : ℕ → Path → Said
said_of n p =
    record {
      number = n;
      kind = kind_number p.end;
      pc = p.pc;
      steps = p.steps;
      box = p.box;
      exit = exit_of p;
      reason = reason_word p.end;
      reads = p.reads;
    }

-- paths numbered from n on
unfoldable pub said_of_all : ℕ → List Path → List Said
said_of_all n [] = []
said_of_all n (p ∷ ps) = said_of n p ∷ said_of_all (n + 1) ps
