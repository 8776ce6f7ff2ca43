-- What a reader must believe of the plain listing.
--     First       cases in an order, of which the first that applies decides
--     Group       jobs, groups, classes, what a move asks of a group
--     Ending      the ending order
--     Listing     the moves and the listing
--     Stop        where the plain machine itself stops
--     Numbers     document 01's numbers for the ends
--     Follow      one choice followed through the forks; the order of paths
pub mod First
pub mod Group
pub mod Ending
pub mod Listing
pub mod Stop
pub mod Numbers
pub mod Follow
