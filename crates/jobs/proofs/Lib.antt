-- The laws that the reader of a job is proved by.
--     Placed      the words of a job as the code finds them
--     Copied      one more word of those that are copied
--     Asked       what the questions on a job leave
--     Accepted    an accepted job leaves only questions 5 and 7 of a call
--     Typed       what is read from bytes is of its types
--     Zeros       a test of numbers in a row, as one of a range
--     Same        what is read and how many memory words are given are all of an accepted job
--     Examples    document 01's Job A, read, and changes of it, refused
pub mod Placed
pub mod Copied
pub mod Asked
pub mod Accepted
pub mod Typed
pub mod Zeros
pub mod Same
pub mod Examples
