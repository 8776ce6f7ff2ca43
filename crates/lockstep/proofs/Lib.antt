-- Lock step against the runs at the two corners.
pub mod LockStep
