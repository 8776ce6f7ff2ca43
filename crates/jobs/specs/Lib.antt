-- What a reader must believe of a job in blocks.
--     Header      the places of the words in a job's header
--     Job         where its parts stand, the questions on it, what is read
--     Working     not to be believed: what contracts and laws name beside these
pub mod Header
pub mod Job
pub mod Working
