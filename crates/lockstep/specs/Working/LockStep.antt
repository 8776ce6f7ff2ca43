-- The machines at the two corners of a box, and the tags, run in lock step.
use Rattle.std.specs.Prelude.{◌≡◌, List, ℕ, zero, suc, replicate, Option, Some, None}
use Rattle.boxes.specs.Boxes.{Choice, Box, lows, highs}
use Rattle.riscu.specs.Limits.{memory_words}
use Rattle.riscu.specs.Machine.{State, start, fetch, step}
use Rattle.riscu.specs.Working.Parts.{state}
use Rattle.riscu.specs.declared.At.{At}
use Rattle.riscu.specs.declared.Instruction.{Instruction}
use Rattle.listing.specs.Group.{Job, after}
use Rattle.lockstep.specs.declared.Corners.{Corners}
use Rattle.lockstep.specs.declared.Machines.{Machines}
use Rattle.corners.specs.Working.Tags.{Tags, tag_step, class_tag}
use Rattle.corners.specs.Working.Uniform.{Uniform}

-- the tags in the lists that the code holds them in
abbrev pub tagged : List ℕ → List ℕ → Tags
tagged r m = record { registers = r; memory = m }

-- the tags of the machines, and the machines with other tags
abbrev pub tags_of : Machines → Tags
tags_of m = tagged m.tags m.tagmem

abbrev pub with_tags : Machines → Tags → Machines
with_tags m t = record m { tags = t.registers; tagmem = t.memory }

-- the tags of the machines m are moved by an instruction, which gives n: it asks the registers at the corners, and the inputs that
-- the low machine, which is at a, has read
abbrev pub Marks : Choice → Instruction → At → Machines → Machines → Type 0
Marks c i a m n = (b : At) → n ≡ with_tags m (tag_step c i (state a m.low m.lowmem) (state b m.high m.highmem) (tags_of m))

-- the class at an instruction hangs on input x: this asks the registers alone
abbrev pub Hangs : Instruction → List ℕ → List ℕ → List ℕ → ℕ → Type 0
Hangs i l h t x = (a b : At) (m n w : List ℕ) → x ≡ class_tag i (state a l m) (state b h n) (tagged t w)

pub record Pair : Type 0 where
  pub low : State
  pub high : State
  pub tags : Tags

abbrev pub pair : State → State → Tags → Pair
pair l h t = record { low = l; high = h; tags = t }

-- with where the machines are
abbrev pub both : Corners → Machines → Pair
both c m = pair (state c.low m.low m.lowmem) (state c.high m.high m.highmem) (tags_of m)

module _ (lows highs : Choice) where
  -- both take the instruction
  abbrev pub advanced : Instruction → Pair → Pair
  advanced i p = pair (step lows i p.low) (step highs i p.high) (tag_step lows i p.low p.high p.tags)

  unfoldable pub advanced_by : Option Instruction → Pair → Pair
  advanced_by (Some i) p = advanced i p
  advanced_by None p = p

  -- n steps, each with the low machine's instruction
  unfoldable pub lock_steps : List ℕ → ℕ → Pair → Pair
  lock_steps code zero p = p
  lock_steps code (suc n) p =
      let q = lock_steps code n p in
      advanced_by (fetch code q.low.pc) q

-- all 0
abbrev pub zeroed : Machines
zeroed = record {
  low = replicate 32 0;
  lowmem = replicate memory_words 0;
  high = replicate 32 0;
  highmem = replicate memory_words 0;
  tags = replicate 32 0;
  tagmem = replicate memory_words 0;
}

-- both corners of the starting machine, nothing read
unfoldable pub starting : List ℕ → Pair
starting m = pair (start m) (start m) (tagged (replicate 32 0) (replicate memory_words 0))

-- the two corners of a box after n steps, with tags that are right on it
pub record AtCorners (j : Job) (b : Box) (n : ℕ) (p : Pair) : Type 0 where
  pub low : p.low ≡ after j n (lows b)
  pub high : p.high ≡ after j n (highs b)
  pub tags : Uniform b (after j n) p.tags
