-- The laws of blocks, from the bottom up.
--     Bytes       words in bytes and back; the words of a block
--     Each        a test of numbers in a row: one more of them, and all of them
--     Check       changing just one payload word always changes the check
--     Same        blocks with the same payload words are the same bytes
--     Puts        bytes put into a list
--     Written     how a block comes to be written, word by word
--     Rows        the words of a path's two blocks, as the code has them
--     Records     the words of a report's records
--     Reading     the bytes of a path's record, read back, tell the path
--     Said        what the reader of a record finds is what the path says
--     Checks      every check of written records agrees
pub mod Bytes
pub mod Each
pub mod Check
pub mod Same
pub mod Puts
pub mod Written
pub mod Rows
pub mod Records
pub mod Reading
pub mod Said
pub mod Checks
