-- The laws of the listing.
--     Paths       the paths divide the starting box; the group that a path was
--     Pages       the paths ended so far are the first of the listing, and each waiting group gives one more
--     Stop        the plain machine stops where its path ends, and not before
--     Follow      a choice followed through the forks comes to its path
--     Order       the paths stand in document 01's order
pub mod Paths
pub mod Pages
pub mod Stop
pub mod Follow
pub mod Order
