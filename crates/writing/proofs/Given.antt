-- The memory words given: the words up to the last that is not 0.
-- Assumes nothing.
use mathlib.Core.Path.{◌≡◌, refl, sym, ap, ◌∙◌}
use mathlib.Core.Logic.{◌≢◌}
use mathlib.Core.Bool.{Bool, true, false, ◌&&◌, and-eq-true_iff}
use mathlib.Core.List.{List, [], ◌∷◌, ◌++◌, reverse}
use Prim.Native.Nat.{ℕ, zero, zero-le, suc, ◌+◌, ◌-◌, ◌<◌, ◌≤◌}
use native.Mathlib.Nat.{sub-zero}
use native.Mathlib.Omega.{arith}
use denote.Param.Members.{Mut}
use denote.Ref.{Bor}
use Rattle.std.specs.declared.slice.Iter.{Iter}
use Rattle.std.specs.declared.option.Option.{Option}
use Rattle.std.specs.declared.option.Option.TheVariants.{Some, None}
use Rattle.std.specs.Fn.{Called}
use Rattle.std.specs.Iterator.{FindsPositionBack}
use Rattle.std.specs.Option.{MatchOption, IsSomeAnd, unwrap_or}
use Rattle.std.specs.List.{AllWithin, HoldsAt}
use Rattle.std.specs.Slice.Iter.{iter_rest, iter_steps_back}
use Rattle.std.proofs.lemmas.Iterator.{YieldsList, IsFirst-from_position, index_from_first}
use Rattle.std.proofs.lemmas.Iterator.Consumers.{YieldsList-from_shown}
use Rattle.std.proofs.lemmas.List.{length-reverse, reverse-append, reverse-reverse}
use borrow.Author.Tests.{eqb-true, ne_eqb}
use lib.Dec.{eqb}
use lib.ListN.{length, get_or, drop, replicate, take-append-drop, get_or-eq_default}
use lib.Seq.{length-take-le}
use Rattle.boxes.proofs.Lists.{by_test, not_both}
use Rattle.blocks.proofs.Bytes.{get_d_padded}
use Rattle.writing.specs.Form.{given_of, given_words}

-- no word is given of these: they are all 0
abbrev none_given : ℕ → List ℕ → Bool
none_given w ws = eqb (given_of ws) 0 && eqb w 0

pub given_few : (ws : List ℕ) → given_of ws ≤ length ws
unfolding given_of
given_few [] = zero-le
given_few (w ∷ ws) = by_test (none_given w ws) (λ e. rw e (omega (arith, given_few ws))) (λ e. rw e (omega (arith, given_few ws)))

pub given_length : (ws : List ℕ) → length (given_words ws) ≡ given_of ws
given_length ws = length-take-le (given_of ws) ws (given_few ws)

-- the last word given is not 0
pub given_last : (ws : List ℕ) (n : ℕ) → given_of ws ≡ suc n → get_or ws n 0 ≢ 0
unfolding given_of
given_last [] n e z = absurd (omega arith)
given_last (w ∷ ws) zero e z =
    by_test (none_given w ws)
    (λ t. absurd (omega (arith, rw t at e)))
    (λ t. let none : given_of ws ≡ 0 = omega (arith, rw t at e) in not_both t (rw (none, z)))
given_last (w ∷ ws) (suc n) e z =
    by_test (none_given w ws) (λ t. absurd (omega (arith, rw t at e))) (λ t. given_last ws n (omega (arith, rw t at e)) z)

-- one word more at the end, and zero words

pub given_zero : (ws : List ℕ) → given_of (ws ++ (0 ∷ [])) ≡ given_of ws
unfolding given_of
given_zero [] = refl
given_zero (w ∷ ws) = rw (given_zero ws)

pub given_padded : (ws : List ℕ) (n : ℕ) → given_of (ws ++ replicate n 0) ≡ given_of ws
unfolding given_of
given_padded [] zero = refl
given_padded [] (suc n) = rw (given_padded [] n)
given_padded (w ∷ ws) n = rw (given_padded ws n)

pub given_more : (ws : List ℕ) (w : ℕ) → (w ≡ 0 → ⊥) → given_of (ws ++ (w ∷ [])) ≡ suc (length ws)
unfolding given_of
given_more [] w d = rw (ne_eqb w 0 d)
given_more (v ∷ ws) w d = rw (given_more ws w d, ne_eqb (suc (length ws)) 0 (λ e. absurd (omega arith)))

-- behind the last word given all are 0
zeros_behind : (ws : List ℕ) → drop (given_of ws) ws ≡ replicate (length ws - given_of ws) 0
unfolding given_of
zeros_behind [] = refl
zeros_behind (w ∷ ws) =
    by_test (none_given w ws)
    (λ e.
    let (a, b) = (and-eq-true_iff (eqb (given_of ws) 0) (eqb w 0)).0 e in
    let n : given_of ws ≡ 0 = eqb-true _ _ a in
    let rest : ws ≡ replicate (length ws) 0 = rw (n, sub-zero) at (zeros_behind ws) in
    rw (e, eqb-true w 0 b, sub-zero) (ap (λ (l : List ℕ). 0 ∷ l) rest))
    (λ e. let m : suc (length ws) - suc (given_of ws) ≡ length ws - given_of ws = omega arith in rw (e, m) (zeros_behind ws))

pub given_whole : (ws : List ℕ) → given_words ws ++ replicate (length ws - given_of ws) 0 ≡ ws
given_whole ws = ap (λ (l : List ℕ). given_words ws ++ l) (sym (zeros_behind ws)) ∙ take-append-drop (given_of ws) ws

pub given_behind : (ws : List ℕ) (i : ℕ) → given_of ws ≤ i → get_or ws i 0 ≡ 0
given_behind ws i l =
    ap (λ (v : List ℕ). get_or v i 0) (sym (given_whole ws))
    ∙ get_d_padded (given_words ws) (length ws - given_of ws) i
    ∙ get_or-eq_default (given_words ws) 0 {n = i} (omega (arith, given_length ws))

-- of the words given all are given
pub given_again : (ws : List ℕ) → given_of (given_words ws) ≡ given_of ws
unfolding given_of
given_again [] = refl
given_again (w ∷ ws) = by_test (none_given w ws) (λ e. rw e) (λ e. rw e (rw (given_again ws, e)))

-- the last word that is not 0, as a search from the back finds it

abbrev not_given : List ℕ → ℕ
not_given back = length back - given_of (reverse back)

back_more : (w : ℕ) (back : List ℕ) → reverse (w ∷ back) ≡ reverse back ++ (w ∷ [])
back_more w back = reverse-append (w ∷ []) back

hit : (w : ℕ) (back : List ℕ) → (w ≡ 0 → ⊥) → not_given (w ∷ back) ≡ 0
hit w back d = omega (arith, ap given_of (back_more w back), given_more (reverse back) w d, length-reverse back)

miss : (w : ℕ) (back : List ℕ) → w ≡ 0 → not_given (w ∷ back) ≡ not_given back + 1
miss w back e = omega (arith, ap given_of (back_more w back), ap (λ (v : ℕ). given_of (reverse back ++ (v ∷ []))) e, given_zero (reverse back), given_few (reverse back), length-reverse back)

backwards : (s : Iter ℕ) → YieldsList iter_steps_back (λ y. y.now) s (reverse (iter_rest s))
backwards s =
    YieldsList-from_shown iter_steps_back (λ y. y.now) (λ s. reverse (iter_rest s)) (λ s t p. length-reverse _ ∙ p.0)
    (λ s x t p. ap reverse p ∙ reverse-append (iter_rest t) (x.now ∷ [])) s

some_told : (r : Option ℕ) (k n given : ℕ) → IsSomeAnd r (λ i. i + 1 + k ≡ n) → given + k ≡ n → MatchOption r (given ≡ 0) (λ i. given ≡ i + 1)
some_told None k n given m e = absurd m
some_told (Some i) k n given m e = omega arith

module _ (s : Iter ℕ) where
  abbrev ws : List ℕ
  ws = iter_rest s

  -- how many words stand behind it
  counted : (r : Option ℕ) → MatchOption r (AllWithin (λ w. w ≡ 0) (reverse ws) 0 (length (reverse ws)))
      (λ i. (i < length (reverse ws)) × HoldsAt (λ w. w ≡ 0 → ⊥) (reverse ws) i × AllWithin (λ w. w ≡ 0) (reverse ws) 0 i)
      → given_of ws + unwrap_or r (length (reverse ws)) ≡ length ws
  unfolding given_of
  counted r m =
      let e : not_given (reverse ws) ≡ unwrap_or r (length (reverse ws)) = index_from_first not_given (λ w. w ≡ 0 → ⊥) (λ w. w ≡ 0) refl hit miss (reverse ws) r m in
      omega (arith, e, ap given_of (reverse-reverse ws), length-reverse ws, given_few ws)

  pub last_given : {F : Type 0} {g : Mut F (Bor ℕ × Unit {0}) Bool} (u : Iter ℕ) (f : F) (r : Option ℕ) → FindsPositionBack iter_steps_back g s f (length ws) r u
      → ((x : Bor ℕ) (q : F) → Called g f (x, tt) true q → x.now ≡ 0 → ⊥) → ((x : Bor ℕ) (q : F) → Called g f (x, tt) false q → (q ≡ f) × (x.now ≡ 0))
      → MatchOption r (given_of ws ≡ 0) (λ i. given_of ws ≡ i + 1)
  last_given {g = g} u f r (xs, None, j, y, k, m) at_hit at_miss =
      let e = counted None (IsFirst-from_position {g = g} u f None _ _ (xs, None, j, y, k, refl) (backwards s) at_hit at_miss) in
      rw m (omega (arith, e, length-reverse ws))
  last_given {g = g} u f r (xs, Some x, j, y, k, m) at_hit at_miss =
      some_told r (length xs) (length ws) (given_of ws) m.0
      (counted (Some (length xs)) (IsFirst-from_position {g = g} u f (Some (length xs)) _ _ (xs, Some x, j, y, k, (refl, m.1)) (backwards s) at_hit at_miss))

-- an answer that is one more than the place, or 0
pub counted_back : {x n : ℕ} (r : Option ℕ) (post : ℕ → Type 0) → MatchOption r (x ≡ 0) post → ((i : ℕ) → post i → x ≡ i + 1) → MatchOption r (n ≡ 0) (λ i. n ≡ i + 1) → x ≡ n
counted_back None post m h e = m ∙ sym e
counted_back (Some i) post m h e = h i m ∙ sym e
