-- Working notions, not to be believed: contracts and laws name them, and what is promised does not.
--     Powers      the powers of two, as the code's table holds them
pub mod Powers
