-- Working notions, not to be believed: contracts and laws name them, and what is promised does not.
--     Page        the path that ends at the corners, and its record's place in the report
pub mod Page
