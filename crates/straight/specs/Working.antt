-- Working notions, not to be believed: contracts and laws name them, and what is promised does not.
--     Stepped     the step that the decision and the lock step give, or what there was; straight steps one after another
pub mod Stepped
