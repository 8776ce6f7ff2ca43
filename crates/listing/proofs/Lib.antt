-- Laws of cases in an order, of matches and of the kinds' numbers, and the definitions at small jobs.
--     First       the first case that applies
--     Matches     a match on an enum
--     Numbers     no end has kind 2
--     Examples    listings of small jobs, computed by the definitions (written by host/listings.rs)
pub mod First
pub mod Matches
pub mod Numbers
pub mod Examples
