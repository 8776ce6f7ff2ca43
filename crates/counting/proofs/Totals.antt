-- Every result is an exit with a fixed value, one that varies, or another kind: so the counts add up to all the choices.
-- Assumes nothing.
use mathlib.Core.Path.{◌≡◌, refl, ap, ◌∙◌}
use mathlib.Core.Bool.{Bool, cond, not}
use mathlib.Core.List.Memᴰ.{head as here}
use mathlib.Core.List.Memᴰ.{tail as there}
use mathlib.Core.List.{List, [], ◌∷◌, ◌++◌, map}
use Prim.Native.Nat.{ℕ, zero, suc, ◌+◌, ◌-◌, ◌≤◌, ◌<◌}
use native.Mathlib.Omega.{arith}
use native.Mathlib.Decide.{ℕ_discrete}
use borrow.Author.Tests.{eq-eqb, ne_eqb}
use lib.Dec.{eqb}
use lib.ListN.{length, replicate}
use Rattle.boxes.specs.Boxes.{from, ◌∈◌}
use Rattle.boxes.proofs.Lists.{by_test}
use Rattle.counting.specs.Counting.{Result, is_exit, is_fixed, exit_varies, exits_with, other_kind, exit_values, most_paths, kind_places, counts_by}
use Rattle.counting.specs.Working.Adding.{Part, results_of, sum_on, sum_all, added_up}
use Rattle.counting.specs.Promised.{add_all}
use Rattle.counting.proofs.Gathered.{fixed_sum}

-- sums of lists of numbers

zeros_add : (n : ℕ) → add_all (replicate n 0) ≡ 0
unfolding add_all
zeros_add zero = refl
zeros_add (suc n) = omega (arith, zeros_add n)

padded_adds : (l : List ℕ) (n : ℕ) → add_all (l ++ replicate n 0) ≡ add_all l
unfolding add_all
padded_adds [] n = zeros_add n
padded_adds (x ∷ l) n = ap (λ (k : ℕ). x + k) (padded_adds l n)

both_add : (f g : ℕ → ℕ) (l : List ℕ) → add_all (map (λ (k : ℕ). f k + g k) l) ≡ add_all (map f l) + add_all (map g l)
unfolding add_all
both_add f g [] = refl
both_add f g (k ∷ l) = omega (arith, both_add f g l)

-- a number that stands at one place alone
zero_add_all : (l : List ℕ) → add_all (map (λ (k : ℕ). 0) l) ≡ 0
unfolding add_all
zero_add_all [] = refl
zero_add_all (x ∷ l) = omega (arith, zero_add_all l)

before_all : (k n a m : ℕ) → k < a → add_all (map (λ (x : ℕ). cond (eqb k x) n 0) (from a m)) ≡ 0
unfolding add_all from
before_all k n a zero h = refl
before_all k n a (suc m) h = rw (ne_eqb k a (λ e. omega arith)) (omega (arith, before_all k n (suc a) m (omega arith)))

at_one : (k n a m : ℕ) → a ≤ k → k < a + m → add_all (map (λ (x : ℕ). cond (eqb k x) n 0) (from a m)) ≡ n
unfolding add_all from
at_one k n a zero l h = absurd (omega arith)
at_one k n a (suc m) l h =
    elim (ℕ_discrete k a) [
      | yes e ↦ rw (eq-eqb k a e) (omega (arith, before_all k n (suc a) m (omega arith)))
      | no e ↦ rw (ne_eqb k a e) (omega (arith, at_one k n (suc a) m (omega arith) (omega arith)))
    ]

-- the kinds of all ends but exit
is_other : Result → Bool
is_other r = not (is_exit r)

kind_adds : (r : Result) (n : ℕ) → r.kind < kind_places → add_all (map (λ (k : ℕ). cond (other_kind k r) n 0) (from 0 kind_places)) ≡ cond (is_other r) n 0
unfolding other_kind is_other
kind_adds r n h =
    by_test (is_exit r)
    (λ e. rw e (zero_add_all (from 0 kind_places)))
    (λ e. rw e (at_one r.kind n 0 kind_places (omega arith) (omega arith)))

kinds_add : (ps : List Part) → ((p : Part) → p ∈ ps → p.result.kind < kind_places)
    → add_all (map (λ (k : ℕ). sum_on (other_kind k) ps) (from 0 kind_places)) ≡ sum_on is_other ps
unfolding sum_on
kinds_add [] h = zero_add_all (from 0 kind_places)
kinds_add (p ∷ ps) h =
    both_add (λ (k : ℕ). cond (other_kind k p.result) p.choices 0) (λ (k : ℕ). sum_on (other_kind k) ps) (from 0 kind_places)
    ∙ omega (arith, kind_adds p.result p.choices (h p (here refl)), kinds_add ps (λ q m. h q (there m)))

-- one of the three
three_add : (ps : List Part) → sum_on is_fixed ps + (sum_on exit_varies ps + sum_on is_other ps) ≡ sum_all ps
unfolding sum_on sum_all is_fixed exit_varies is_other
three_add [] = refl
three_add (p ∷ ps) =
    let ih = three_add ps in
    let r = p.result in
    by_test (is_exit r)
    (λ e. by_test (eqb r.low r.high) (λ f. rw (e, f) (omega (arith, ih))) (λ f. rw (e, f) (omega (arith, ih))))
    (λ e. rw e (omega (arith, ih)))

pub counts_add : (ps : List Part) (total : ℕ) → ((p : Part) → p ∈ ps → p.result.kind < kind_places) → let r = added_up ps total in
    add_all r.choices + (r.varying + add_all r.kinds) ≡ sum_all ps
unfolding added_up counts_by
counts_add ps total h =
    let ns = map (λ (x : ℕ). sum_on (exits_with x) ps) (exit_values (results_of ps)) in
    omega (arith, three_add ps, kinds_add ps h, padded_adds ns (most_paths - length ns), fixed_sum ps)
