-- What a reader must believe of machine words; the last says how the code holds them.
--     Word        machine words, two's complement of any width
--     Working     not to be believed: what contracts and laws name beside these
pub mod Word
pub mod Working
