pub mod code
pub use Rattle.machine_rules.specs.Natives
pub use Rattle.machine_rules.specs.Connecting
pub use Rattle.machine_rules.specs.There
pub use Rattle.trace_entries.specs.Refusals
