-- Working notions, not to be believed: contracts and laws name them, and what is promised does not.
--     Adding      what a path adds, and what the records of a report add up to
pub mod Adding
