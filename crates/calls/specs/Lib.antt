-- What a reader must believe of a call.
--     Limits      the limits that the questions name
--     Questions   the refusals' numbers, and the tests that the questions ask
--     Call        what is lent, the questions, what a call leaves
--     Border      the answer's numbers at the border, and what is lent, as contracts name it
--     Engine      an engine, the contract of its calls, histories of calls
--     Refuses     demand 1: refusals and their causes
--     Done        the other calls: done or refused
--     Faithful    demand 2: what a path says of the plain machine
--     Complete    the listing of a job as a whole
--     Reported    demand 2 of the bytes of a report
--     Together    demand 3: a list of calls on one memory and one table
--     Working     not to be believed: what contracts and laws name beside these
pub mod Limits
pub mod Questions
pub mod Call
pub mod Border
pub mod Engine
pub mod Refuses
pub mod Done
pub mod Faithful
pub mod Complete
pub mod Reported
pub mod Together
pub mod Working
