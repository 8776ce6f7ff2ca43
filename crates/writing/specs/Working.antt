-- Working notions, not to be believed: contracts and laws name them, and what is promised does not.
--     Writing     every second word of some intervals, the first no of the values, room for a job
pub mod Writing
