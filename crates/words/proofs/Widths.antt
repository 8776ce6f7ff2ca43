-- Sign extension, proved once over the width: the word of a number that `width` bits hold. Assumes nothing.
use Rattle.std.proofs.Common.{◌≡◌, ℕ, ◌+◌, ◌-◌, ◌^◌, ◌<◌, ◌≤◌, Bool, true, false, ltb, pos, negsuc, refl, ap, arith, lit≤, pow_mono, pow-add, ltb-false, ltb-true, le-ltb, lt-ltb}
use lib.Signed.{mag}
use Rattle.words.specs.Word.{signed, widen}

-- what n's sign extension from `width` bits is; a number z lies within -2^k .. 2^k - 1 exactly if `mag z` is below 2^k
pub record Extends (width n : ℕ) : Type 0 where
  pub low : n < 2 ^ (width - 1) → widen (signed width n) ≡ n
  pub high : 2 ^ (width - 1) ≤ n → widen (signed width n) ≡ n + 2 ^ 64 - 2 ^ width
  pub within : mag (signed width n) < 2 ^ (width - 1)

module _ (width n : ℕ) (l : 1 ≤ width) (h : width ≤ 64) (k : n < 2 ^ width) where
  twice : 2 ^ width ≡ 2 ^ (width - 1) + 2 ^ (width - 1)
  twice = let d : 2 ^ width ≡ 2 ^ (width - 1 + 1) = ap (λ (x : ℕ). 2 ^ x) (omega arith) in omega (arith, pow-add 2 (width - 1) 1)

  signed_low : n < 2 ^ (width - 1) → signed width n ≡ pos n
  unfolding signed
  signed_low a = simp (lt-ltb n (2 ^ (width - 1)) a)

  signed_high : 2 ^ (width - 1) ≤ n → signed width n ≡ negsuc (2 ^ width - 1 - n)
  unfolding signed
  signed_high a = simp (le-ltb n (2 ^ (width - 1)) a)

  low : n < 2 ^ (width - 1) → widen (signed width n) ≡ n
  unfolding widen
  low a = rw (signed_low a) (omega (arith, pow_mono h))

  high : 2 ^ (width - 1) ≤ n → widen (signed width n) ≡ n + 2 ^ 64 - 2 ^ width
  unfolding widen
  high a = rw (signed_high a) (omega (arith, pow_mono h))

  within : (t : Bool) → ltb n (2 ^ (width - 1)) ≡ t → mag (signed width n) < 2 ^ (width - 1)
  within true t = let a : n < 2 ^ (width - 1) = ltb-true n (2 ^ (width - 1)) t in rw (signed_low a) a
  within false t = let a : 2 ^ (width - 1) ≤ n = ltb-false n (2 ^ (width - 1)) t in rw (signed_high a) (omega (arith, twice))

  pub extends : Extends width n
  extends = record { low = low; high = high; within = within (ltb n (2 ^ (width - 1))) refl }

-- the widths of the immediates: of ADDI, LD, SD and JALR; of BEQ; of JAL; and of LUI
abbrev pub Law : ℕ → Type 0
Law width = (n : ℕ) → n < 2 ^ width → Extends width n

pub widths : Law 12 × Law 13 × Law 21 × Law 32
widths = (
  λ n. extends 12 n (lit≤ tt) (lit≤ tt),
  λ n. extends 13 n (lit≤ tt) (lit≤ tt),
  λ n. extends 21 n (lit≤ tt) (lit≤ tt),
  λ n. extends 32 n (lit≤ tt) (lit≤ tt),
)
