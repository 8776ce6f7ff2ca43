-- The explorer's state against the listing.
--     Parts       a group on a box within its own
--     Turns       each turn is one move of the listing, or none
--     Positions   what the explorer comes to, and that it comes to the whole listing
--     Table       the forks in the trace table
--     Page        the page of a call
pub mod Parts
pub mod Turns
pub mod Positions
pub mod Table
pub mod Page
