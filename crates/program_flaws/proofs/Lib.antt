mod Classes
mod Wiring
mod IdleRows
