pub mod Accepted
pub mod Settled
pub mod Statuses
pub use Rattle.program_commands.specs.Commands
pub use Rattle.program_commands.specs.Outcomes
pub use Rattle.program_commands.specs.Settling
