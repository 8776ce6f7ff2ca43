-- The search for where a function leaves a value: one probe narrows it. Assumes nothing.
use mathlib.Core.Path.{◌≡◌, sym, ap, ◌∙◌}
use mathlib.Core.Logic.{◌≢◌}
use Prim.Native.Nat.{ℕ, zero, suc, ◌+◌, ◌-◌, ◌*◌, ◌^◌, ◌≤◌, ◌<◌}
use native.Mathlib.Omega.{arith}
use lib.Pow.{pow-add}
use native.Mathlib.Decide.{dec_le}
use mathlib.Core.Path.{subst}
use Rattle.cuts.specs.Working.Cutting.{Starts, Turning}

-- 71 probes: seven at the guesses and further and further away from them, and 64 that halve
near_power : (w k : ℕ) → 1 < w → w ≤ 2 ^ k → 0 < k
near_power w zero h l = absurd (omega arith)
near_power w (suc k) h l = omega arith

halved : (w v k : ℕ) → w ≤ 2 ^ (k + 1) → 2 * v ≤ w + 1 → v ≤ 2 ^ k
halved w v k l h = omega (arith, pow-add 2 k 1)

module _ (f : ℕ → ℕ) (k lo hi : ℕ) where
  pub record Narrowed (a b turn : ℕ) : Type 0 where
    pub starts : Starts f k a b
    pub from_lo : lo ≤ a
    pub to_hi : b ≤ hi
    pub near : 7 ≤ turn → b - a ≤ 2 ^ (71 - turn)

  pub begins : Starts f k lo hi → Narrowed lo hi 0
  begins s = record { starts = s; from_lo = omega arith; to_hi = omega arith; near = λ h. absurd (omega arith) }

  module _ {a b turn : ℕ} (s : Narrowed a b turn) (w : 1 < b - a) where
    pub few : turn < 71
    few = elim (dec_le 7 turn) [
      | yes h ↦ omega (arith, near_power (b - a) (71 - turn) w (s.near h))
      | no h ↦ omega arith
    ]

    smaller : (v : ℕ) → v ≤ 2 ^ 64 → (7 ≤ turn → 2 * v ≤ b - a + 1) → 7 ≤ turn + 1 → v ≤ 2 ^ (71 - (turn + 1))
    smaller v l h t = elim (dec_le 7 turn) [
      | yes g ↦
          let n = few in
          let e : 71 - turn ≡ 71 - (turn + 1) + 1 = omega arith in
          halved (b - a) v (71 - (turn + 1)) (subst (λ (x : ℕ). b - a ≤ 2 ^ x) e (s.near g)) (h g)
      | no g ↦
          let e : 64 ≡ 71 - (turn + 1) = omega arith in
          subst (λ (x : ℕ). v ≤ 2 ^ x) e l
    ]

    module _ (x : ℕ) (fits : hi < 2 ^ 64) (l : a < x) (h : x < b)
        (p : 7 ≤ turn → (2 * (x - a) ≤ b - a + 1) × (2 * (b - x) ≤ b - a + 1)) where
      pub goes_up : f x ≡ k → Narrowed x b (turn + 1)
      goes_up e =
          let t = s.to_hi in
          record {
            starts = record { order = h; bottom = e; top = s.starts.top };
            from_lo = omega (arith, s.from_lo);
            to_hi = t;
            near = smaller (b - x) (omega arith) (λ g. (p g).1);
          }

      pub goes_down : f x ≢ k → Narrowed a x (turn + 1)
      goes_down e =
          let t = s.to_hi in
          record {
            starts = record { order = l; bottom = s.starts.bottom; top = e };
            from_lo = s.from_lo;
            to_hi = omega arith;
            near = smaller (x - a) (omega arith) (λ g. (p g).0);
          }

  pub found : {a b turn : ℕ} → Narrowed a b turn → b - a ≤ 1 → Turning f k lo hi a
  found {a} {b} s l =
      let o = s.starts.order in
      let e : suc a ≡ b = omega arith in
      record {
        from_lo = s.from_lo;
        below_hi = omega (arith, s.to_hi);
        here = s.starts.bottom;
        next = λ q. s.starts.top (ap f (sym e) ∙ q);
      }
