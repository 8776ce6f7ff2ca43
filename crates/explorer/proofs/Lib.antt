-- The laws that make one turn of the engine of each turn of the code.
--     Phases      a phase, by the tests on it
--     Stands      what the lists and numbers of an exploration under way give
--     Straight    a turn that goes straight on
--     Forking     a turn that forks
--     Resuming    turns between two groups: a fork goes, or what is left of it is taken up
--     Ending      a turn that ends the group at hand
--     Explored    what each kind of turn keeps of the exploration, the page with it
--     StraightOn  straight steps one after another
--     Finished    the exploration of a call from its first group to its page
--     Accepting   a call that passed the questions
pub mod Phases
pub mod Stands
pub mod Straight
pub mod Forking
pub mod Resuming
pub mod Ending
pub mod Explored
pub mod StraightOn
pub mod Finished
pub mod Accepting
