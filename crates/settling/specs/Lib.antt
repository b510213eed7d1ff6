pub mod Hands
pub mod Settles
pub mod Sets
pub mod Valid
pub mod Levels
pub mod Following
pub mod Laws
pub mod Checks
pub mod code
pub use Rattle.effect_scan.specs.Edges
pub use Rattle.rank_check.specs.Valid as RankCheckValid
pub use Rattle.rank_check.specs.Names
