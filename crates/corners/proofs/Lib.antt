-- The corner law, from the bottom up.
--     Operations      each operation with one operand fixed: its class, and its result in one class, go one way; a word against itself
--     Tame            values that hang on one input of a box at most
--     Smooth          steps that no point ends and that do not fork
--     Uniform         a smooth step keeps values tame with any tags that are right; after smooth steps they are, with those computed
--     Followed        what the ending order says of a group that goes on
--     Unforked        one class on a group's box: no fork
--     Itself          one register named twice: SUB, SLTU and BEQ go on
--     ByNumber        MUL and DIVU by a fixed number, whichever it is; reason 5 by the quotients
--     ByZero          a fixed divisor 0: DIVU and REMU go on
--     Corner          the corners decide the ending order and the pieces
--     Needs           the entries that a step takes, by the corners
--     Moves           induction along the moves; every waiting group has smooth steps behind it
--     Enough          the moves come to an end, and no path is longer than the step limit
--     CornerListing   the listing by corners is the plain listing
--     Cases           Job A and document 01's cases under P
pub mod Operations
pub mod Tame
pub mod Smooth
pub mod Uniform
pub mod Followed
pub mod Unforked
pub mod Itself
pub mod ByNumber
pub mod ByZero
pub mod Corner
pub mod Needs
pub mod Moves
pub mod Enough
pub mod CornerListing
pub mod Cases
