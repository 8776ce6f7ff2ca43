-- The laws that the questions are proved by, and those of the answer's numbers.
--     Asked       one more question; the first no by its place; two more numbers of the intervals
--     Pairs       the intervals of low, high, low, high
--     Numbers     no two refusals share a number, and the numbers at the border say all of an answer
--     Done        what a call leaves that is done or refused
pub mod Asked
pub mod Pairs
pub mod Numbers
pub mod Done
