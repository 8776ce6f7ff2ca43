-- What a reader must believe of blocks.
--     Block       words in bytes, the check, a block
--     Layout      the places of the words in a path's record
--     Record      a path's two blocks as they are written
--     Reading     a path's two blocks as they are read
--     Report      the records of a report
--     Said        what a record says of a path, from its bytes and from the path
--     Working     not to be believed: what contracts and laws name beside these
pub mod Block
pub mod Layout
pub mod Record
pub mod Reading
pub mod Report
pub mod Said
pub mod Working
