-- The laws of the plain machine, and those that its code is proved by.
--     Whole       what every state keeps: 32 registers, 512 memory words, all words, register 0
--     Division    what DIVU and REMU give by 0
--     Counters    pc stays a word, and the inputs read are at most the steps
--     Rows        the search of the code's instruction table, the instruction of each row, and what is past the last
--     Joins       states by their parts, instructions by their cases
pub mod Whole
pub mod Division
pub mod Counters
pub mod Rows
pub mod Joins
