-- What a reader must believe of a sheet.
--     Line        a line of a sheet: three numbers in their columns
--     Sheet       the sheet of a report, its length, question 14, the call that prints it
--     Shown       the sheet of a list of paths
--     Printed     what a call leaves, of any report and of our own
--     Fields      a line's numbers in their columns, and that no field is cut
pub mod Line
pub mod Sheet
pub mod Shown
pub mod Printed
pub mod Fields
