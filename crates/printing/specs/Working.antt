-- Working notions, not to be believed: contracts and laws name them, and what is promised does not.
--     Lengths     how long an output can be
--     Writing     bytes written on a lent slice one after another, as far as they fit
pub mod Lengths
pub mod Writing
