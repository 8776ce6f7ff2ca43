-- A phase, by the tests on it.
-- Assumes nothing.
use mathlib.Core.Path.{◌≡◌, refl}
use mathlib.Core.Bool.{true, false}
use Rattle.boxes.proofs.Lists.{not_both}
use Rattle.explorer.specs.Working.Held.{going, at_group, more}
use Rattle.explorer.specs.declared.Phase.{Phase}
use Rattle.explorer.specs.declared.Phase.TheVariants.{AtGroup, Between, Stopped}

pub group_phase : (p : Phase) → at_group p ≡ true → p ≡ AtGroup
group_phase AtGroup e = refl
group_phase Between e = not_both refl e
group_phase (Stopped b) e = not_both refl e

pub between_phase : (p : Phase) → at_group p ≡ false → going p ≡ true → p ≡ Between
between_phase AtGroup e g = not_both e refl
between_phase Between e g = refl
between_phase (Stopped b) e g = not_both refl g

pub stopped_phase : (p : Phase) → going p ≡ false → p ≡ Stopped (more p)
stopped_phase AtGroup e = not_both e refl
stopped_phase Between e = not_both e refl
stopped_phase (Stopped b) e = refl
