-- Whether a wire covers a connection (docs/machine.md, "Wires").
use Rattle.std.specs.Prelude.{ℕ}
use Rattle.basic_types.specs.declared.sig.Sig.{Sig}
use Rattle.basic_types.specs.declared.kind.Kind.{Kind}
use Rattle.basic_types.specs.Types.{Fits}
use Rattle.meta_model.specs.declared.meta.Wired.{Wired}
use Rattle.meta_model.specs.declared.meta.Wired.TheVariants.{No, Unfit, Fit}
use Rattle.meta_model.specs.Loaded.{Loaded}
use Rattle.meta_model.specs.Members.{Covers}

-- no wire covers the connection; one does, but its slot doesn't fit its signal; one does, and it fits
abbrev pub IsWired : Loaded → ℕ → Sig → ℕ → Sig → Kind → Wired → Type 0
IsWired p c signal d method kind No = ¬ Covers p c signal d method kind
IsWired p c signal d method kind Unfit = Covers p c signal d method kind × (¬ Fits signal method)
IsWired p c signal d method kind Fit = Covers p c signal d method kind × Fits signal method
