-- A step by its row, and a run by its steps.
pub mod Steps
