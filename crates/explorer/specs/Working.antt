-- Working notions, not to be believed: contracts and laws name them, and what is promised does not.
--     Held        the engine's state in the lists and numbers of the code
--     Explored    that state with what of the page is written
--     Finished    an exploration as it begins and as it has ended
pub mod Held
pub mod Explored
pub mod Finished
