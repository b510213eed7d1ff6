pub mod Grammar
pub mod Reads
pub mod Texts
pub mod Written
pub mod code
pub use Rattle.certificate_lang.specs.Reads as CertificateReads
pub use Rattle.certificate_lang.specs.Texts as CertificateTexts
