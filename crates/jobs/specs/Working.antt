-- Working notions, not to be believed: contracts and laws name them, and what is promised does not.
--     Reading     what the questions come to in the code's types, and what the reader leaves
pub mod Reading
