pub mod code
pub use Rattle.machine_rules.specs.Natives
pub use Rattle.machine_state.specs.State
pub use Rattle.run_context.specs.code.Activating
