-- What holds of a machine that `run` and `run --settling` make of what they accept (docs/theorem.md; docs/settling.md, "The run").
use Rattle.std.specs.Prelude.{ℕ, List}
use Rattle.certificate_lang.specs.declared.certificate.Certificate.{Certificate}
use Rattle.class_lang.specs.declared.size.Limits.{Limits}
use Rattle.meta_model.specs.Loaded.{Loaded}
use Rattle.native_slots.specs.declared.head.NativeHead.{NativeHead}
use Rattle.script_lang.specs.declared.event.Event.{Event}
use Rattle.object_machine.specs.Seen.{Seen, begun}
use Rattle.settling.specs.declared.certificate.SettlingCertificate.{SettlingCertificate}
use Rattle.texts.specs.Limits.{most_depth}
use Rattle.trace_tool.specs.Commands.{Accepts, AcceptsSettling}

-- where by these limits `run` accepts these texts with these closures, this holds of the machine that it then makes
abbrev pub WhereAccepted : {N : Type 0} → Limits → List NativeHead → N → List ℕ → List ℕ → List ℕ → ℕ → (Seen N → Type 0) → Type 0
WhereAccepted limits heads natives program certificate script steps Holds =
    (loaded : Loaded) (read : Certificate) (events : List Event) →
    Accepts limits heads program certificate script loaded read events → Holds (begun loaded natives read.bound steps)

-- where by these limits `run --settling` accepts them, this holds of the certificate and of the machine that it then makes
abbrev pub WhereSettling : {N : Type 0} → Limits → List NativeHead → N → List ℕ → List ℕ → List ℕ → ℕ → (SettlingCertificate → Seen N → Type 0) → Type 0
WhereSettling limits heads natives program certificate script steps Holds =
    (loaded : Loaded) (read : SettlingCertificate) (events : List Event) →
    AcceptsSettling limits heads program certificate script loaded read events → Holds read (begun loaded natives most_depth steps)
