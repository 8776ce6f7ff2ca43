-- What a reader must believe of the writer of jobs.
--     Form        the writer's form of a job: its words, its blocks, its length
--     Write       the questions on what is lent, and what a call leaves
--     Written     what a call promises; what reader and writer are to each other
--     Working     not to be believed: what contracts and laws name beside these
pub mod Form
pub mod Write
pub mod Written
pub mod Working
