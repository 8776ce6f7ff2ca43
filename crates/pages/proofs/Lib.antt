-- The laws of a page.
--     Page        what one more record changes of the report, and what it leaves
pub mod Page
