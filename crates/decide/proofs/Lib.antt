-- The laws of a decision at the corners.
--     Verdicts    points tried one by one
--     Decisions   the decision is the ending order over the corners' view
--     Says        what each decision says of the group that it is made for
pub mod Verdicts
pub mod Decisions
pub mod Says
