-- Working notions, not to be believed: contracts and laws name them, and what is promised does not.
--     Cuts        proper boxes, a box in two lists, values of one input, cuts, edges, pieces by cutting
pub mod Cuts
