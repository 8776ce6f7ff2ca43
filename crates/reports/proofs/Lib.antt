-- The laws of reports from outside, from the bottom up.
--     Records     records and rows, one more at a time
--     Written     a report of written records, read back
--     Listed      the first listed wins
--     Promises    what a call leaves: its refusals, each row's answer, whatever other rows come with it
--     Own         the rows of a job in its own complete report
--     Examples    document 02's sentences on small reports, computed
pub mod Records
pub mod Written
pub mod Listed
pub mod Promises
pub mod Own
pub mod Examples
