-- What a declared type stands for.
use Rattle.std.proofs.Common.{◌≡◌, ℕ, true, List, ap}
use Rattle.basic_types.specs.declared.qtype.QType.{QType}
use Rattle.meta_model.specs.declared.object.ValueType.TheVariants.{Int, Bool, Text, Reference}
use Rattle.class_outlines.specs.declared.outline.Outline.{Outline}
use Rattle.name_indexes.specs.Places.{StandsAt}
use Rattle.class_outlines.specs.DeclaredKinds.{LacksType}

-- a pointer to what is no class
pub no_pointer : (outlines : List Outline) (T : QType) → T.pointer ≡ true → ((k : ℕ) → ¬ StandsAt (λ (o : Outline). o.name ≡ T.name) outlines k) → LacksType outlines T
no_pointer outlines T pointer none Int e = let p = ap (λ (t : QType). t.pointer) e in absurd (cc)
no_pointer outlines T pointer none Bool e = let p = ap (λ (t : QType). t.pointer) e in absurd (cc)
no_pointer outlines T pointer none Text e = let p = ap (λ (t : QType). t.pointer) e in absurd (cc)
no_pointer outlines T pointer none (Reference c constant) h = none c h.2.at
