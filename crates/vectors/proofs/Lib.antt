-- The laws that the reader of test vectors is proved by, and one for those who count lines.
--     Steps       what one more byte does to the number, and where a line ends
--     Counting    a line counts at most once
pub mod Steps
pub mod Counting
