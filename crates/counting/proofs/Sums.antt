-- Each choice lies on one path, so the choices counted one by one are the sizes of the paths' boxes, added.
-- Assumes nothing.
use mathlib.Core.Path.{◌≡◌, refl, sym, ap, ◌∙◌}
use mathlib.Core.Bool.{Bool, true, false, ◌&&◌, ◌||◌, cond, false≢true, and-eq-true_iff, or-true}
use mathlib.Core.List.Memᴰ
use mathlib.Core.List.Memᴰ.{head as here}
use mathlib.Core.List.Memᴰ.{tail as there}
use mathlib.Core.List.{List, [], ◌∷◌, map}
use Prim.Native.Nat.{ℕ, ◌+◌}
use native.Mathlib.Omega.{arith}
use lib.ListN.{length}
use Rattle.boxes.specs.Boxes.{Choice, Box, choices, size, keep, lows, Inside, Within, ◌∈◌}
use Rattle.boxes.specs.Working.Cuts.{Proper}
use Rattle.boxes.proofs.Lists.{by_test, keep_all, keep_none}
use Rattle.boxes.proofs.Places.{Pairwise}
use Rattle.boxes.proofs.Choices.{mem_choices}
use Rattle.boxes.proofs.Divides.{Disjoint}
use Rattle.listing.specs.Group.{Job}
use Rattle.listing.specs.Listing.{Path, listing}
use Rattle.corners.specs.Working.Good.{Sound}
use Rattle.paths.proofs.Paths.{path_boxes, listing_divides}
use Rattle.demands.proofs.Faithful.{listing_faithful}
use Rattle.counting.specs.Counting.{Result, result_of, is_on, choices_on}
use Rattle.counting.specs.Working.Adding.{Part, part_of, sum_on, sum_all}
use Rattle.reports.specs.Placing.{is_inside}
use Rattle.reports.proofs.Records.{inside_test}
use Rattle.counting.proofs.Widths.{inside_proper, choices_inside}

-- two tests that nothing passes both of
keep_either : {A : Type 0} (s t : A → Bool) (l : List A) → ((x : A) → s x ≡ true → t x ≡ true → ⊥)
    → length (keep (λ x. s x || t x) l) ≡ length (keep s l) + length (keep t l)
unfolding keep
keep_either s t [] h = refl
keep_either s t (x ∷ l) h =
    let ih = keep_either s t l h in
    by_test (s x)
    (λ e. by_test (t x) (λ f. absurd (h x e f)) (λ f. rw (e, f) (omega arith)))
    (λ e. by_test (t x) (λ f. rw (e, f) (omega arith)) (λ f. rw (e, f) (omega arith)))

-- the choices of one path
choices_path : (t : Bool) (B b : Box) → Proper b → Within b B → length (keep (λ c. t && is_inside c b) (choices B)) ≡ cond t (size b) 0
unfolding size
choices_path true B b p w = ap length (choices_inside B b p w)
choices_path false B b p w = ap length (keep_none (λ c. false) (choices B) (λ c m. refl))

module _ (test : Result → Bool) where
  pub on_path : (ps : List Path) (c : Choice) → is_on test ps c ≡ true → (p : Path) × (p ∈ ps) × (test (result_of p) ≡ true) × Inside c p.box
  unfolding is_on
  on_path [] c e = absurd (false≢true e)
  on_path (p ∷ ps) c e =
      by_test (test (result_of p) && is_inside c p.box)
      (λ a. let (t, i) = (and-eq-true_iff _ _).0 a in (p, here refl, t, (inside_test c p.box).0 i))
      (λ a. let (q, m, t, i) = on_path ps c (rw a at e) in (q, there m, t, i))

  pub path_on : {p : Path} {ps : List Path} (c : Choice) → p ∈ ps → test (result_of p) ≡ true → Inside c p.box → is_on test ps c ≡ true
  unfolding is_on
  path_on {p} c (here e) t i = rw (← e, t, (inside_test c p.box).1 i)
  path_on c (there m) t i = rw (path_on c m t i, or-true)

  paths_sum : (B : Box) (ps : List Path) → Pairwise Disjoint (path_boxes ps)
      → ((p : Path) → p ∈ ps → Proper p.box × Within p.box B)
      → length (keep (is_on test ps) (choices B)) ≡ sum_on test (map part_of ps)
  unfolding is_on sum_on
  paths_sum B [] a h = ap length (keep_none (λ c. false) (choices B) (λ c m. refl))
  paths_sum B (p ∷ ps) a h =
      let (o, w) = h p (here refl) in
      let k = choices_path (test (result_of p)) B p.box o w in
      let ih = paths_sum B ps a.1 (λ q m. h q (there m)) in
      keep_either (λ c. test (result_of p) && is_inside c p.box) (is_on test ps) (choices B)
      (λ c s t.
      let (q, m, _, i) = on_path ps c t in
      let (_, e) = (and-eq-true_iff (test (result_of p)) (is_inside c p.box)).0 s in
      a.0 q.box (Memᴰ.map (λ (r : Path). r.box) m) c ((inside_test c p.box).0 e) i)
      ∙ rw (k, ih)

-- every result passes: the sum over all the parts
abbrev always : Result → Bool
always r = true

sum_each : (ps : List Part) → sum_on always ps ≡ sum_all ps
unfolding sum_on sum_all
sum_each [] = refl
sum_each (p ∷ ps) = ap (λ (n : ℕ). p.choices + n) (sum_each ps)

module _ (j : Job) (sound : Sound j j.box) where
  pub path_proper : (p : Path) → p ∈ listing j → Proper p.box
  path_proper p m = inside_proper p.box (lows p.box) (listing_faithful j sound p m).lowest

  pub choices_sum : (test : Result → Bool) → choices_on j test ≡ sum_on test (map part_of (listing j))
  unfolding choices_on
  choices_sum test =
      paths_sum test j.box (listing j) (listing_divides j sound).apart
      (λ p m. (path_proper p m, (listing_faithful j sound p m).inputs))

  any_path : (c : Choice) → Inside c j.box → is_on always (listing j) c ≡ true
  any_path c i =
      let (b, m, k) = (listing_divides j sound).cover c i in
      let (p, n, e) = Memᴰ.of_map (λ (r : Path). r.box) (listing j) m in
      path_on always c n refl (rw e k)

  pub sum_all_lem : sum_all (map part_of (listing j)) ≡ size j.box
  unfolding choices_on size
  sum_all_lem =
      sym (choices_sum always ∙ sum_each (map part_of (listing j)))
      ∙ ap length (keep_all (is_on always (listing j)) (choices j.box) (λ c m. any_path c ((mem_choices j.box c).0 m)))
