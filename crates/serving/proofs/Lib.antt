-- Laws of the server's call.
--     JobPassed   what the reader leaves, and what the call makes of it
--     Lent        a job and a report of bytes lend what a call's types say
--     Demands     demands 1, 2 and 3 of lists of the server's calls
--     Response    the program's text: whole, and the listing's own
pub mod JobPassed
pub mod Lent
pub mod Demands
pub mod Response
