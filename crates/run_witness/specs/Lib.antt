pub mod Shows
pub use Rattle.program_commands.specs.Loading
pub use Rattle.trace_tool.specs.Commands
pub use Rattle.object_machine.specs.Causes
