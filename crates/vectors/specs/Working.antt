-- Working notions, not to be believed: contracts and laws name them, and what is promised does not.
--     Running     what a program's tests are run on
--     Text        hex digits, and the number and the line that start at a place
pub mod Running
pub mod Text
