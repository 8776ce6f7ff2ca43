-- The explorer's numbers: the box in two lists, and the stack of forks in the trace table; the latest fork is the last entry in use.
use Rattle.std.specs.Prelude.{◌≡◌, ℕ, zero, suc, ◌+◌, ◌*◌, ◌≤◌, not, cond, List, [], ◌∷◌, eqb, length, get_or}
use Rattle.boxes.specs.Working.Cuts.{box_in}
use Rattle.listing.specs.Group.{Group}
use Rattle.calls.specs.Limits.{entry_words}
use Rattle.forks.specs.Working.Stack.{Fork}

abbrev pub group_in : List ℕ → List ℕ → ℕ → ℕ → Group
group_in ls hs s u = record { box = box_in ls hs; steps = s; used = u }

abbrev pub word_at : List ℕ → ℕ → ℕ → ℕ
word_at t k w = get_or t (entry_words * k + w) 0

-- the table has an entry n
abbrev pub HasEntry : List ℕ → ℕ → Type 0
HasEntry t n = entry_words * n + entry_words ≤ length t

unfoldable pub fork_in : List ℕ → ℕ → Fork
fork_in t k =
    record {
      input = word_at t k 0;
      low = word_at t k 1;
      high = word_at t k 2;
      rest = word_at t k 3;
      steps = word_at t k 4;
      used = word_at t k 5;
      spent = not (eqb (word_at t k 6) 0);
    }

-- the first n entries, the last one first
unfoldable pub forks_in : List ℕ → ℕ → List Fork
forks_in t zero = []
forks_in t (suc n) = fork_in t n ∷ forks_in t n

-- table u has fork f on top of the first n forks of table t
abbrev pub OnTop : Fork → List ℕ → ℕ → List ℕ → Type 0
OnTop f t n u = forks_in u (suc n) ≡ f ∷ forks_in t n

-- the words of a fork
abbrev pub entry_of : Fork → List ℕ
entry_of f = f.input ∷ f.low ∷ f.high ∷ f.rest ∷ f.steps ∷ f.used ∷ cond f.spent 1 0 ∷ []
