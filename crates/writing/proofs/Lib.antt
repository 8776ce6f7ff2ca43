-- The laws of the writer, from the bottom up.
--     Given       the memory words given
--     Stores      lists of numbers below a bound
--     Inputs      the words of the inputs, stored at their places
--     Halves      the code, two words to a payload word
--     Parts       the blocks of a part
--     Header      the words of a header, as the reader finds them
--     Alike       the questions on a header have the first no of those on its values
--     Read        what the reader gets back from what was written
--     Made        how a job comes to be written, part by part
--     Promises    what a call leaves
--     Refused     values are refused as the reader would
--     Forms       of all jobs that mean the same exactly one is the writer's form; what an accepted job is free in
--     Numbers     the numbers at the border say all of the answer
--     Examples    jobs and refusals, computed
pub mod Given
pub mod Stores
pub mod Inputs
pub mod Halves
pub mod Parts
pub mod Header
pub mod Alike
pub mod Read
pub mod Made
pub mod Promises
pub mod Refused
pub mod Forms
pub mod Numbers
pub mod Examples
