-- The ends of wires: members of classes, by the names of their classes and by their signatures (docs/language.md, "Names").
use Rattle.std.specs.Prelude.{◌≡◌, ℕ, List}
use Rattle.basic_types.specs.declared.sig.Sig.{Sig}
use Rattle.class_outlines.specs.declared.outline.Heading.{Heading}
use Rattle.class_outlines.specs.declared.outline.Outline.{Outline}
use Rattle.name_indexes.specs.Places.{StandsFirst}
use Rattle.class_outlines.specs.Outlines.{IsOutlineNamed}

-- method m of class c, the first with P in the class of this name
pub record IsEnd (P : Heading → Type 0) (outlines : List Outline) (name : List ℕ) (c m : ℕ) : Type 0 where
  pub class : IsOutlineNamed outlines name c
  pub method : StandsFirst P class.at.item.methods m

abbrev pub IsSigned : Sig → Heading → Type 0
IsSigned sig h = h.sig ≡ sig
