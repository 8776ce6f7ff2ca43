-- Signed numbers: the number that a width's bits hold, a number as its 64 bits, and what a signed local holds. Assumes nothing.
use Rattle.std.proofs.Common.{◌≡◌, ℕ, zero, suc, ◌+◌, ◌-◌, ◌*◌, ◌%◌, ◌^◌, ◌<◌, ◌≤◌, true, false, T, ℤ, pos, negsuc, ◌-ℤ◌, nat_abs, sym, refl, ap, ◌∙◌, subst, one-mul, zero-add, arith, lit<, pow_mono, pow-add, shl_exact, to_z-of_z, w64, Fits, SFits, to_z, of_z, ltb-true, le-ltb}
use lib.Signed.{mag, lt_z, non_neg}
use mir.Facts.{to_z_pos}
use Rattle.words.specs.Word.{word, widen}

-- z as the code reads it back from a signed local
abbrev pub held : ℤ → ℤ
held z = to_z w64 (of_z w64 z)

pub held_is : (z : ℤ) → mag z < 2 ^ 63 → held z ≡ z
held_is z h = to_z-of_z {w = w64} (record { sfits = h })

-- the word of a number that was held on the way
pub widen_held : {z : ℤ} {k : ℕ} → SFits w64 z → k ≡ widen (held z) → k ≡ widen z
widen_held f e = e ∙ ap widen (to_z-of_z f)

pub offset_held : {z : ℤ} {k : ℕ} (a : ℕ) → SFits w64 z → k ≡ word (a + widen (held z)) → k ≡ word (a + widen z)
offset_held a f e = e ∙ ap (λ (z : ℤ). word (a + widen z)) (to_z-of_z f)

-- minus one less y
less_one : (y : ℕ) → negsuc 0 -ℤ pos y ≡ negsuc y
less_one zero = refl
less_one (suc y) = ap (λ (n : ℕ). negsuc (suc n)) (zero-add y)

less : (y : ℕ) → y < 2 ^ 63 → negsuc 0 -ℤ to_z w64 y ≡ negsuc y
less y h = ap (λ (z : ℤ). negsuc 0 -ℤ z) (to_z_pos w64 h) ∙ less_one y

pub less_fits : (y : ℕ) → y < 2 ^ 63 → SFits w64 (negsuc 0 -ℤ to_z w64 y)
less_fits y h = rw (less y h) (record { sfits = h })

pub less_read : (y : ℕ) → y < 2 ^ 63 → held (negsuc 0 -ℤ to_z w64 y) ≡ negsuc y
less_read y h = to_z-of_z (less_fits y h) ∙ less y h

-- the half of a width, as a shift makes it
abbrev pub half : ℕ → ℕ
half width = (1 * 2 ^ (width - 1)) % 2 ^ 64

pub record Half (width h : ℕ) : Type 0 where
  pub is : h ≡ 2 ^ (width - 1)
  pub twice : h + h ≡ 2 ^ width
  pub small : h ≤ 2 ^ 31

pub half_of : (width : ℕ) → 1 ≤ width → width ≤ 32 → Half width (half width)
half_of width h l =
    let k = width - 1 in
    let e : half width ≡ 2 ^ k = shl_exact {a = 1} 1 k 64 (lit< tt) (omega arith) ∙ one-mul (2 ^ k) in
    let d : 2 ^ width ≡ 2 ^ (k + 1) = ap (λ (x : ℕ). 2 ^ x) (omega arith) in
    let m : k ≤ 31 = omega arith in
    record { is = e; twice = omega (arith, pow-add 2 k 1); small = rw e (pow_mono m) }

-- z's two's complement
flip : (z : ℤ) → lt_z z (pos 0) ≡ true → negsuc 0 -ℤ z ≡ pos (mag z)
flip (pos n) e = let h : n < 0 = ltb-true n 0 e in let b : ⊥ = omega arith in absurd b
flip (negsuc n) e = simp (le-ltb (suc n) 1 (omega arith)) (ap pos (omega arith))

module _ (z : ℤ) (f : SFits w64 z) (t : lt_z (held z) (pos 0) ≡ true) where
  negative : lt_z z (pos 0) ≡ true
  negative = subst (λ (y : ℤ). lt_z y (pos 0) ≡ true) (to_z-of_z f) t

  flipped : negsuc 0 -ℤ held z ≡ pos (mag z)
  flipped = ap (λ (y : ℤ). negsuc 0 -ℤ y) (to_z-of_z f) ∙ flip z negative

  pub flip_fits : SFits w64 (negsuc 0 -ℤ held z)
  flip_fits = subst (λ (y : ℤ). SFits w64 y) (sym flipped) (record { sfits = f.sfits })

  read : held (negsuc 0 -ℤ held z) ≡ pos (mag z)
  read = to_z-of_z flip_fits ∙ flipped

  pub flip_cast : T (non_neg (held (negsuc 0 -ℤ held z))) × Fits w64 (nat_abs (held (negsuc 0 -ℤ held z)))
  flip_cast =
      subst (λ (y : ℤ). T (non_neg y) × Fits w64 (nat_abs y)) (sym read) (tt, record { fits = omega (arith, f.sfits) })

  pub flip_size : nat_abs (held (negsuc 0 -ℤ held z)) ≤ 18446744073709551615
  flip_size = subst (λ (y : ℤ). nat_abs y ≤ 18446744073709551615) (sym read) (omega (arith, f.sfits))

  pub flip_bits : 18446744073709551615 - nat_abs (held (negsuc 0 -ℤ held z)) ≡ widen z
  unfolding widen
  flip_bits = ap (λ (y : ℤ). 18446744073709551615 - nat_abs y) read ∙ same z negative
    where
      same : (y : ℤ) → lt_z y (pos 0) ≡ true → 18446744073709551615 - mag y ≡ widen y
      same (pos n) e = let h : n < 0 = ltb-true n 0 e in absurd (omega arith)
      same (negsuc n) e = refl

module _ (z : ℤ) (f : SFits w64 z) (t : lt_z (held z) (pos 0) ≡ false) where
  plain : (y : ℤ) → mag y < 2 ^ 63 → lt_z y (pos 0) ≡ false → (T (non_neg y) × Fits w64 (nat_abs y)) × (nat_abs y ≡ widen y)
  unfolding widen
  plain (pos n) h e = ((tt, record { fits = omega arith }), omega arith)
  plain (negsuc n) h e = let q : ◌≡◌ {A = ℕ} 0 1 = cc in let b : ⊥ = omega arith in absurd b

  both : (T (non_neg z) × Fits w64 (nat_abs z)) × (nat_abs z ≡ widen z)
  both = plain z f.sfits (subst (λ (y : ℤ). lt_z y (pos 0) ≡ false) (to_z-of_z f) t)

  pub plain_cast : T (non_neg (held z)) × Fits w64 (nat_abs (held z))
  plain_cast = subst (λ (y : ℤ). T (non_neg y) × Fits w64 (nat_abs y)) (sym (to_z-of_z f)) both.0

  pub plain_bits : nat_abs (held z) ≡ widen z
  plain_bits = ap nat_abs (to_z-of_z f) ∙ both.1

-- the 64 bits that hold z
bits_of : (z : ℤ) → mag z < 2 ^ 63 → of_z w64 z ≡ widen z
unfolding widen
bits_of (pos n) h = omega arith
bits_of (negsuc n) h = omega arith

pub held_bits : (z : ℤ) → mag z < 2 ^ 63 → of_z w64 (held z) ≡ widen z
held_bits z h = ap (of_z w64) (held_is z h) ∙ bits_of z h
