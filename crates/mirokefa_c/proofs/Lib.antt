-- What a caller in C learns from the numbers of an answer.
--     Seen        0 and the numbers of refusals, against the questions
--     Rows        rows in the reports that were written
--     Sheets      the sheets of these reports
--     Jobs        the jobs that were written, served
pub mod Seen
pub mod Rows
pub mod Sheets
pub mod Jobs
