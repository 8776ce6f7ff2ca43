-- The laws of cuts.
--     Search      one probe narrows the search for where a class changes
--     Edges       what the search finds is the edge of a class
pub mod Search
pub mod Edges
