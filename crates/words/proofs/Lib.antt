-- The laws that the code of words is proved by, and those of its results.
--     Signs       signed numbers of any width, and as 64 bits
--     Widths      sign extension, once over the width
--     Powers      the rule of the table of the powers of two
pub mod Signs
pub mod Widths
pub mod Powers
