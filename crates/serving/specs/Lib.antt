-- What a reader must believe of the server's call and of the program.
--     Served      the call that a job stands for, and what a served call leaves
--     Server      the demands of the server: one claim about a list of its calls
--     Response    what the program prints
--     Working     not to be believed: what contracts and laws name beside these
pub mod Served
pub mod Server
pub mod Response
pub mod Working
