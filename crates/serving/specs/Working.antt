-- Working notions, not to be believed: contracts and laws name them, and what is promised does not.
--     Reading     the call of a job that was read
pub mod Reading
