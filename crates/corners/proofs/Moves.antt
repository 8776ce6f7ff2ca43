-- Induction along the moves. The groups that ever wait in the plain listing are good: all their earlier steps are smooth on their box.
-- Assumes nothing.
use mathlib.Core.Path.{◌≡◌, refl, sym, subst}
use mathlib.Core.Logic.{⊎_elim}
use mathlib.Core.Bool.{Bool, true, false, cond}
use mathlib.Core.List.Memᴰ
use mathlib.Core.List.Memᴰ.{head as here}
use mathlib.Core.List.{List, [], ◌∷◌, ◌++◌}
use mathlib.Core.List.Memᴰ.{tail as there}
use mathlib.Core.Option.{Option, none, some}
use Prim.Native.Nat.{ℕ, zero, suc, ◌-◌, ◌≤◌}
use native.Mathlib.Omega.{arith}
use native.Mathlib.Decide.{dec_lt}
use lib.Dec.{eqb}
use borrow.Author.Tests.{eqb-false, ltb-false}
use Rattle.boxes.specs.Boxes.{Box, lows, highs, Within, ◌∈◌}
use Rattle.boxes.specs.Working.Cuts.{Proper}
use Rattle.boxes.proofs.Choices.{lows_inside, highs_inside, inside_at}
use Rattle.boxes.proofs.OneInput.{one_input_convex}
use Rattle.boxes.proofs.Partition.{Partition, pieces_partition}
use Rattle.riscu.specs.Machine.{bad_pc, fetch}
use Rattle.riscu.specs.declared.Instruction.{Instruction}
use Rattle.std.specs.Prelude.{Option as Maybe, Some, None}
use Rattle.listing.specs.Group.{Job, Group, after, class_of, View, view_of}
use Rattle.listing.specs.Ending.{Point, first, points, needs, end_at, end_by, end_of}
use Rattle.listing.specs.Listing.{Path, Progress, progress, whole, later, path_of, split_by, move_by, move_from, moves, begin}
use Rattle.listing.specs.declared.End.{End}
use Rattle.corners.proofs.Smooth.{followed_within, smooth_within}
use Rattle.listing.proofs.First.{first_none, first_none_append}
use Rattle.corners.proofs.Followed.{points_followed}
use Rattle.corners.proofs.Corner.{good_uniform, class_one}
use Rattle.corners.specs.Working.Smooth.{Same, Followed}
use Rattle.corners.specs.Working.Good.{Sound, Good, input_of}

-- a group that goes on: it has an instruction, and none of the points 4 to 10 applies
pub record Continues (j : Job) (g : Group) : Type 0 where
  pub goes_on : end_of j g ≡ none
  pub instruction : Instruction
  pub fetched : fetch j.code (view_of j g).pc ≡ Some instruction
  pub below_limit : ¬ (g.steps ≡ j.limit)
  pub no_point : first (points (view_of j g) instruction) ≡ none
  pub entries_fit : needs g (view_of j g) instruction ≤ j.entries - g.used

-- the last point does not apply
last_none : (ps : List Point) (p : Point) → first (ps ++ (p ∷ [])) ≡ none → p.applies ≡ false
last_none [] p e = (first_none p [] e).0
last_none (q ∷ ps) p e = last_none ps p (first_none q (ps ++ (p ∷ [])) e).1

cond_none : (x : End) (t : Bool) (o : Option End) → cond t (some x) o ≡ none → (t ≡ false) × (o ≡ none)
cond_none x true o e = (cc, cc)
cond_none x false o e = (refl, e)

pub continues : (j : Job) (g : Group) → end_of j g ≡ none → Continues j g
unfolding end_by end_at
continues j g e =
    let pc = (view_of j g).pc in
    let (p, d) = cond_none _ (eqb g.steps j.limit) _ e in
    go (fetch j.code pc) refl (eqb-false _ _ p) (cond_none _ (bad_pc j.code pc) _ d).1
  where
    go : (d : Maybe Instruction) → fetch j.code (view_of j g).pc ≡ d → ¬ (g.steps ≡ j.limit) → end_at j g (view_of j g) d ≡ none → Continues j g
    go None f l e = let z : ◌≡◌ {A = ℕ} 0 1 = cc in absurd (omega arith)
    go (Some i) f l d =
        record {
          goes_on = e;
          instruction = i;
          fetched = f;
          below_limit = l;
          no_point = (first_none_append (points (view_of j g) i) _ d).0;
          entries_fit = ltb-false _ _ (last_none (points (view_of j g) i) _ d);
        }

pub split_mem : {h : Group} (g : Group) (v : View) (i : Instruction) → h ∈ split_by g v (Some i)
    → (q : Box) × (q ∈ v.pieces_of i) × (later g (needs g v i) q ≡ h)
unfolding split_by
split_mem g v i m = Memᴰ.of_map (later g (needs g v i)) (v.pieces_of i) m

-- a part of a good group's box
module _ (j : Job) (g : Group) (good : Good j g) (q : Box) (w : Within q g.box) (p : Proper q) where
  pub sound_part : Sound j q
  sound_part = record {
    code = good.sound.code;
    memory = good.sound.memory;
    proper = p;
    inputs = λ x. omega (arith, good.sound.inputs x, inside_at g.box (highs q) (w (highs q) (highs_inside q p)) x);
  }

  -- a part of one class, a step later
  pub good_later : {i : Instruction} → Followed j g.box g.steps i → Same q (λ c. class_of i (after j g.steps c)) → (n : ℕ)
      → Good j (later g n q)
  good_later {i} f s n = record {
    sound = sound_part;
    smooth = λ x l. elim (dec_lt x g.steps) [
      | yes h ↦ smooth_within q g.box w j x (good.smooth x h)
      | no h ↦ (let e : x ≡ g.steps = omega arith in rw e
          (record { instruction = i; followed = followed_within q g.box w j g.steps f; class = s }))
    ];
  }

module _ (j : Job) (g : Group) (good : Good j g) (k : Continues j g) where
  pub followed : Followed j g.box g.steps k.instruction
  followed =
      let (s, c) = points_followed j g k.instruction k.no_point in
      record {
        fetched = λ c m. rw ((good_uniform j g good).pc c (lows g.box) m (lows_inside g.box good.sound.proper)) k.fetched;
        completes = c;
        settled = s;
      }

  -- the class hangs on one input, so the pieces divide the box by class
  pub partition : Partition (λ c. class_of k.instruction (after j g.steps c)) (input_of j g k.instruction) g.box
      ((view_of j g).pieces_of k.instruction)
  partition =
      pieces_partition g.box good.sound.proper (one_input_convex g.box (class_one j g good k.instruction followed.settled))

  -- a piece, one step later, is good
  split_good : (h : Group) → h ∈ split_by g (view_of j g) (Some k.instruction) → Good j h
  split_good h m =
      let (q, r, e) = split_mem g (view_of j g) k.instruction m in
      subst (Good j) e
      (good_later j g good q (partition.within q r) (partition.proper q r) followed (λ c d a b. (partition.alike q q r r c d a b).0 refl) _)

-- What holds at first, and is kept where a good group ends and where one splits, holds after any number of moves; and all the
-- groups that wait then are good.
module _ (j : Job) (sound : Sound j j.box) (P : List Path → List Group → Type 0)
    (ends : (ps : List Path) (g : Group) (gs : List Group) (e : End) → Good j g → end_of j g ≡ some e → P ps (g ∷ gs)
    → P (ps ++ (path_of g (view_of j g) e ∷ [])) gs)
    (splits : (ps : List Path) (g : Group) (gs : List Group) (good : Good j g) (k : Continues j g) → P ps (g ∷ gs)
    → P ps (split_by g (view_of j g) (Some k.instruction) ++ gs)) where
  abbrev Holds : Progress → Type 0
  Holds s = P s.ended s.waiting × ((g : Group) → g ∈ s.waiting → Good j g)

  move_holds : (ps : List Path) (gs : List Group) → Holds (progress ps gs) → Holds (move_from view_of j ps gs)
  unfolding move_from move_by
  move_holds ps [] h = h
  move_holds ps (g ∷ gs) h = go (end_of j g) refl
    where
      good : Good j g
      good = h.1 g (here refl)

      go : (o : Option End) → end_of j g ≡ o → Holds (move_by view_of j ps g gs o)
      go (some e) d = (ends ps g gs e good d h.0, λ x m. h.1 x (there m))
      go none d =
          let k = continues j g d in
          rw k.fetched (
            splits ps g gs good k h.0,
            λ x m. ⊎_elim (λ n. split_good j g good k x n) (λ n. h.1 x (there n)) (Memᴰ.append_cases _ m),
          )

  pub moves_hold : P [] (whole j ∷ []) → (n : ℕ) → Holds (moves view_of j n)
  unfolding moves begin
  moves_hold p zero = (p, λ g m. rw (Memᴰ.eq_of_singleton m) (record { sound = sound; smooth = λ x l. absurd (omega arith) }))
  moves_hold p (suc n) = let s = moves view_of j n in move_holds s.ended s.waiting (moves_hold p n)

pub waiting_good : (j : Job) → Sound j j.box → (n : ℕ) (g : Group) → g ∈ (moves view_of j n).waiting → Good j g
waiting_good j s n = (moves_hold j s (λ ps gs. Unit {0}) (λ ps g gs e good d h. tt) (λ ps g gs good k h. tt) tt n).1

-- What holds of the first group and passes from a group to those that it splits into holds of every group that waits; and what a
-- group that ends gives its path holds of every path.
module _ (j : Job) (sound : Sound j j.box) (P : Path → Type 0) (Q : Group → Type 0)
    (ends : (g : Group) (e : End) → Good j g → end_of j g ≡ some e → Q g → P (path_of g (view_of j g) e))
    (splits : (g : Group) (good : Good j g) (k : Continues j g) → Q g
    → (h : Group) → h ∈ split_by g (view_of j g) (Some k.instruction) → Q h) where
  pub moves_each : Q (whole j) → (n : ℕ)
      → ((p : Path) → p ∈ (moves view_of j n).ended → P p) × ((g : Group) → g ∈ (moves view_of j n).waiting → Q g)
  moves_each q n =
      (moves_hold j sound (λ ps gs. ((p : Path) → p ∈ ps → P p) × ((g : Group) → g ∈ gs → Q g))
      (λ ps g gs e good d h. (
        λ p m. ⊎_elim (h.0 p) (λ o. subst P (sym (Memᴰ.eq_of_singleton o)) (ends g e good d (h.1 g (here refl))))
            (Memᴰ.append_cases ps m),
        λ x m. h.1 x (there m),
      ))
      (λ ps g gs good k h. (
        h.0,
        λ x m. ⊎_elim (splits g good k (h.1 g (here refl)) x) (λ o. h.1 x (there o)) (Memᴰ.append_cases _ m),
      ))
      (λ p m. absurd (Memᴰ.not-nil m), λ g m. rw (Memᴰ.eq_of_singleton m) q)
      n).0
