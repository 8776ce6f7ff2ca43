-- Working notions, not to be believed: contracts and laws name them, and what is promised does not.
--     LockStep    the machines at the two corners of a box, and the tags, run in lock step
pub mod LockStep
