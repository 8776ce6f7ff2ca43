-- The demands, from the bottom up.
--     Faithful    every path of the listing is faithful to the plain machine
--     Refuses     a call is refused exactly by the first question with the answer no
--     Complete    the listing of a sound job is complete
--     Accepted    what an accepted call says of its job
--     Histories   the history of an engine that meets the contract: memory, table and replies
--     Joined      the pages of one job, joined
--     Words       the numbers of a listed path fit its blocks
--     Reported    what an accepted call writes
--     Demands     demands 1, 2 and 3 of every engine that meets the contract
--     Cases       document 01's Job A as a call
pub mod Faithful
pub mod Refuses
pub mod Complete
pub mod Accepted
pub mod Histories
pub mod Joined
pub mod Words
pub mod Reported
pub mod Demands
pub mod Cases
