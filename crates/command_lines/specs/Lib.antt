pub mod Lines
pub mod MetaLines
pub mod NodeLines
pub mod Sent
pub use Rattle.basic_types.specs.Spelling
pub use Rattle.certificate_lang.specs.Texts as CertificateTexts
pub mod Cut
pub mod Failing
pub mod Inputs
pub mod Words
pub use Rattle.texts.specs.Limits
