pub mod Graphs
pub use Rattle.program_commands.specs.Loading
pub use Rattle.program_commands.specs.Refusals
