-- Working notions, not to be believed: contracts and laws name them, and what is promised does not.
--     Cutting     a class along one input, and where it changes
--     Entries     a fork in the words of the table
--     Forking     a box in two lists, cut along an input
pub mod Cutting
pub mod Entries
pub mod Forking
