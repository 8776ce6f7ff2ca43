-- Working notions, not to be believed: contracts and laws name them, and what is promised does not.
--     Writing     bytes put into a list, and the path that the code is given, for the contracts
pub mod Writing
