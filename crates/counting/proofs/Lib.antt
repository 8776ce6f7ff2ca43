-- The laws of the counts, from the bottom up.
--     Widths      the size of a box is the product of its widths; the choices of a box inside a smaller one
--     Sums        the choices counted one by one are the sizes of the paths' boxes, added
--     Products    a size, multiplied up width by width
--     Sliding     one insertion into the two lists of values and choices
--     Tallies     the values, each once and rising, with the sums of their choices
--     Gathered    what the two lists hold in the loop over the paths
--     Summed      what the loop over the records holds
--     Parts       numbers in a row, and a list whose elements they are the places of
--     Explored    a job explored from path 0, and what its report adds up to
--     Started     the code's answers to a job that was read are the job's
--     Read        a job that was read: what is left of its questions
--     Totals      the counts add up to all the choices
--     Promises    what a call answers
--     Examples    small jobs with their counts, computed
pub mod Widths
pub mod Sums
pub mod Products
pub mod Sliding
pub mod Tallies
pub mod Gathered
pub mod Summed
pub mod Parts
pub mod Explored
pub mod Started
pub mod Read
pub mod Totals
pub mod Promises
pub mod Examples
