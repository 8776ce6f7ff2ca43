-- Working notions, not to be believed: contracts and laws name them, and what is promised does not.
--     Asking      what the questions come to, as contracts name it
pub mod Asking
