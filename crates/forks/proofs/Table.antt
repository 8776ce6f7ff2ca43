-- The stack of forks in the trace table: a word written above the entries in use changes none of them, and a fork written into the
-- next entry is the new top.
-- Assumes nothing.
use mathlib.Core.Path.{◌≡◌, refl, ap}
use mathlib.Core.Logic.{◌≢◌}
use mathlib.Core.Bool.{Bool, true, false, cond, not}
use mathlib.Core.List.{List}
use Prim.Native.Nat.{ℕ, zero, suc, ◌+◌, ◌*◌, ◌≤◌, ◌<◌}
use native.Mathlib.Omega.{arith}
use lib.ListN.{length, get_or, set}
use lib.Dec.{eqb}
use lib.Seq.{sets, get_or-set_same, get_or-set_other}
use Rattle.boxes.proofs.Places.{sets_before, sets_at}
use Rattle.forks.specs.Working.Stack.{Fork, with_rest, spend}
use Rattle.calls.specs.Limits.{entry_words}
use Rattle.forks.specs.Working.Table.{word_at, HasEntry, fork_in, forks_in, OnTop, entry_of}

-- an entry goes by its seven words
pub fork_cong : (t v : List ℕ) (k : ℕ) → ((w : ℕ) → w < 7 → word_at v k w ≡ word_at t k w) → fork_in v k ≡ fork_in t k
unfolding fork_in
fork_cong t v k h =
    rw (h 0 (omega arith), h 1 (omega arith), h 2 (omega arith), h 3 (omega arith), h 4 (omega arith), h 5 (omega arith), h 6 (omega arith))

pub forks_count : (t : List ℕ) (n : ℕ) → length (forks_in t n) ≡ n
unfolding forks_in
forks_count t zero = refl
forks_count t (suc n) = ap suc (forks_count t n)

-- two tables that agree on the entries in use
pub forks_cong : (t v : List ℕ) (n : ℕ) → ((i : ℕ) → i < entry_words * n → get_or v i 0 ≡ get_or t i 0) → forks_in v n ≡ forks_in t n
unfolding forks_in
forks_cong t v zero h = refl
forks_cong t v (suc n) h =
    cc (fork_cong t v n (λ w l. h (entry_words * n + w) (omega arith)), forks_cong t v n (λ i l. h i (omega arith)))

pub forks_set : (t : List ℕ) (n i v : ℕ) → entry_words * n ≤ i → forks_in (set t i v) n ≡ forks_in t n
forks_set t n i v l = forks_cong t (set t i v) n (λ k h. get_or-set_other t i k v 0 (omega arith))

spent_bit : (t : Bool) → not (eqb (cond t 1 0) 0) ≡ t
spent_bit true = refl
spent_bit false = refl

-- an entry that holds a fork's words
pub fork_is : (t : List ℕ) (k : ℕ) (f : Fork) → ((w : ℕ) → w < 7 → word_at t k w ≡ get_or (entry_of f) w 0) → fork_in t k ≡ f
unfolding fork_in
fork_is t k f e =
    rw (
      e 0 (omega arith),
      e 1 (omega arith),
      e 2 (omega arith),
      e 3 (omega arith),
      e 4 (omega arith),
      e 5 (omega arith),
      e 6 (omega arith),
      spent_bit f.spent,
    )

-- a fork in the next entry is the new top; so where its words are written in a row
pub forks_top : (t v : List ℕ) (n : ℕ) (f : Fork) → ((w : ℕ) → w < 7 → word_at v n w ≡ get_or (entry_of f) w 0)
    → ((i : ℕ) → i < entry_words * n → get_or v i 0 ≡ get_or t i 0) → OnTop f t n v
unfolding forks_in
forks_top t v n f e h = rw (fork_is v n f e, forks_cong t v n h)

pub forks_push : (t : List ℕ) (n : ℕ) (f : Fork) → HasEntry t n → OnTop f t n (sets t (entry_words * n) (entry_of f))
forks_push t n f h =
    forks_top t (sets t (entry_words * n) (entry_of f)) n f (λ w l. sets_at (entry_of f) t (entry_words * n) w l (omega arith)) (λ i l. sets_before (entry_of f) t (entry_words * n) i l)

-- one word of the top entry written: another rest, and the mark that nothing is left

word_set : (t : List ℕ) (n w x k : ℕ) → k ≢ w → word_at (set t (entry_words * n + w) x) n k ≡ word_at t n k
word_set t n w x k d = get_or-set_other t (entry_words * n + w) (entry_words * n + k) x 0 (omega arith)

pub forks_rest : (t : List ℕ) (n x : ℕ) → HasEntry t n
    → OnTop (with_rest (fork_in t n) x) t n (set t (entry_words * n + 3) x)
unfolding forks_in fork_in
forks_rest t n x h =
    let o = word_set t n 3 x in
    rw (
      forks_set t n (entry_words * n + 3) x (omega arith),
      get_or-set_same t (entry_words * n + 3) x 0 (omega arith),
      o 0 (omega arith),
      o 1 (omega arith),
      o 2 (omega arith),
      o 4 (omega arith),
      o 5 (omega arith),
      o 6 (omega arith),
    )

pub forks_spend : (t : List ℕ) (n : ℕ) → HasEntry t n
    → OnTop (spend (fork_in t n)) t n (set t (entry_words * n + 6) 1)
unfolding forks_in fork_in
forks_spend t n h =
    let o = word_set t n 6 1 in
    rw (
      forks_set t n (entry_words * n + 6) 1 (omega arith),
      get_or-set_same t (entry_words * n + 6) 1 0 (omega arith),
      o 0 (omega arith),
      o 1 (omega arith),
      o 2 (omega arith),
      o 3 (omega arith),
      o 4 (omega arith),
      o 5 (omega arith),
    )
