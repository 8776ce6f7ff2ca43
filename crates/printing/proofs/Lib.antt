-- The laws of the output, from the bottom up.
--     Outputs     texts written one behind the other; what a whole text leaves
--     Digits      the digits of a number, one by one
--     Parts       a listing and a path's line by their parts
--     Told        the listing of a report that tells some paths is what document 01 shows of them
--     Examples    Job A's output, and lines of the other forms
--     Lengths     how long the output can be
pub mod Outputs
pub mod Digits
pub mod Parts
pub mod Told
pub mod Examples
pub mod Lengths
