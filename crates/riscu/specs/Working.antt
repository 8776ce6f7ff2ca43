-- Working notions, not to be believed: contracts and laws name them, and what is promised does not.
--     Table       the instruction table as the code holds it
--     Parts       a state as the code holds it
--     Whole       what every state keeps
pub mod Table
pub mod Parts
pub mod Whole
