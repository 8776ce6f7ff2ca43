-- No definition here is to be believed.
pub mod Working
