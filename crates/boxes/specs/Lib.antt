-- What a reader must believe of boxes.
--     Boxes       choices, boxes, least and greatest value, fixed values, pieces
--     Working     not to be believed: what contracts and laws name beside these
pub mod Boxes
pub mod Working
