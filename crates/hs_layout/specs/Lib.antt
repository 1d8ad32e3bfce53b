pub mod Layouts
pub mod HeaderFaults
pub mod LayoutLaws
pub mod Rows
