-- The laws of boxes, from the bottom up.
--     Lists       membership, `map`, `flat_map`, numbers in a row, `keep`
--     Places      lists by places, parts of lists, elements written, a relation between any two elements
--     Choices     the choices of a box are those inside it; the ends of its intervals
--     Extremes    `least`, `greatest` and `same` by membership
--     OneInput    `low`, `high` and `fixed`, and that the corners say them of a value of one input
--     Bisect      bisection finds where a test turns false
--     Cut         a box with another interval of one input, and the two halves of a box cut along it
--     Pieces      the pieces of a box by cutting at the edge of the first class; the edge
--     Partition   induction along the cuts; the pieces divide the box by class
--     Divides     boxes that divide a box, and one of them divided in turn
--     Corners     the pieces from the corners alone
--     TwoLists    a box in two lists, of its lows and of its highs
--     Filled      a list whose places are filled one after the other
--     Examples    the definitions at small boxes and at boxes of 64 bits
pub mod Lists
pub mod Places
pub mod Choices
pub mod Extremes
pub mod OneInput
pub mod Bisect
pub mod Cut
pub mod Pieces
pub mod Partition
pub mod Divides
pub mod Corners
pub mod TwoLists
pub mod Filled
pub mod Examples
