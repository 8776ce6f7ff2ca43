-- Laws of straight steps.
--     Taking      one, from what its tests found
--     Entries     what one takes of the entries
--     Onward      many, as steps of both corners
pub mod Taking
pub mod Entries
pub mod Onward
