-- Working notions, not to be believed: contracts and laws name them, and what is promised does not.
--     Stack       the stack of forks, and what it stands for
--     Turn        the turns
--     Table       the box and the forks as they are held in lists of numbers
pub mod Stack
pub mod Turn
pub mod Table
