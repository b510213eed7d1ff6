pub mod Linking
pub mod Posts
pub mod Told
pub mod Reading
pub mod Yielding
pub mod Overlaid
