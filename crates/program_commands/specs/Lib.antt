pub mod Certifying
pub mod Commands
pub mod Loading
pub mod Outcomes
pub mod Reasons
pub mod Refusals
pub mod Settling
pub mod Ways
pub mod NodeWays
pub mod Steps
pub mod Texts
pub use Rattle.class_lang.specs.Reads as ClassLangReads
pub use Rattle.class_outlines.specs.FaultNumbers as MetaModelFaultNumbers
pub use Rattle.native_slots.specs.FaultNumbers as NativeSlotsFaultNumbers
pub use Rattle.native_slots.specs.Misfits
pub use Rattle.certificate_lang.specs.Reads as CertificateLangReads
pub use Rattle.rank_check.specs.Checks
pub use Rattle.rank_make.specs.Ranked
pub use Rattle.settling.specs.Checks as SettlingChecks
pub use Rattle.settling_make.specs.Makes as SettlingMakes
pub use Rattle.settling_make.specs.Flat as SettlingFlat
pub use Rattle.settling_make.specs.Least as SettlingLeast
pub use Rattle.settling_texts.specs.Texts as SettlingTexts
pub use Rattle.settling_texts.specs.Reads as SettlingTextsReads
pub use Rattle.certificate_lang.specs.Texts as CertificateTexts
pub use Rattle.command_lines.specs.MetaLines
pub use Rattle.command_lines.specs.Sent
pub mod Laws
pub use Rattle.certificate_lang.specs.Written
pub mod Names
pub use Rattle.meta_objects.specs.Builds
