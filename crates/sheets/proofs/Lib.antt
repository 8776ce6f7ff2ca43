-- The laws of a sheet, from the bottom up.
--     Columns     a line in its columns, and that no number is cut
--     Told        the sheet of a report that tells some paths
--     Lengths     the text has the length that was known before, and where that is no word
--     Promises    what a call leaves: its refusals, the text and the rest
--     Fields      the numbers in the lines of any bytes are words, so no field is cut
--     Own         the sheets of our own reports
--     Examples    document 02's sentences on small reports, computed
pub mod Columns
pub mod Told
pub mod Lengths
pub mod Promises
pub mod Fields
pub mod Own
pub mod Examples
