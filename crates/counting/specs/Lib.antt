-- What a reader must believe of the counts.
--     Counting    how many choices lead to each end, counted one by one, and the answer's places
--     Count       the questions, and the call on a job in blocks
--     Promised    what a call answers, as laws
--     Working     not to be believed: what contracts and laws name beside these
pub mod Counting
pub mod Count
pub mod Promised
pub mod Working
