pub mod Changes
pub mod Keeping
pub mod Settling
mod OneAnswer
pub mod OneTaking
pub mod OneRun
pub mod OneFault
pub mod TypedPaths
pub mod Standing
pub mod Grouped
pub mod Possible
pub mod Homes
pub mod Moving
pub mod Preservation
pub mod Progress
pub mod CheckedRuns
pub mod Judged
pub mod Judging
pub mod Running
mod RulePrefixes
pub mod Prefixes
pub mod Applying
pub mod SeenPrefixes
