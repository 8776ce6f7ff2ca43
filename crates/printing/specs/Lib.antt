-- What a reader must believe of the program's output.
--     Printed     the text of an answer, from what the report's records say
--     Shown       the text of a list of paths, as document 01 shows it
--     Output      a text on a lent slice, as far as it fits
--     Working     not to be believed: what contracts and laws name beside these
pub mod Printed
pub mod Shown
pub mod Output
pub mod Working
