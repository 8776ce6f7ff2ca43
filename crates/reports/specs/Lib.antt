-- What a reader must believe of reports from outside.
--     Readable    question 12, and the records of a report
--     Placing     question 13, a row's placing, the call that places rows
--     Placed      what a call's answers say, of any report and of our own complete ones
pub mod Readable
pub mod Placing
pub mod Placed
