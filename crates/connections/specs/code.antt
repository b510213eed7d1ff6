pub mod Cells
pub mod CellPlaces
pub mod Groups
pub mod Lists
pub mod Rooms
