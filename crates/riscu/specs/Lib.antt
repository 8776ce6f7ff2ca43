-- What a reader must believe of RISC-U; the last four say how the code and its contracts hold it.
--     Decode      the instruction table, and the fields of a word
--     Machine     the plain machine
--     Limits      how much code and memory it has
--     Lent        a list that is lent to a function, in its contract
--     Working     not to be believed: what contracts and laws name beside these
pub mod Decode
pub mod Machine
pub mod Limits
pub mod Lent
pub mod Working
