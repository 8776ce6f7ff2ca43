-- Working notions, not to be believed: contracts and laws name them, and what is promised does not.
--     Corner      two corners' registers: the view of a group, verdicts on points, the whole decision
pub mod Corner
