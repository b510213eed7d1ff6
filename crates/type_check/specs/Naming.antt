-- The types of a loaded program by their names (docs/language.md, "Types").
use Rattle.std.specs.Prelude.{◌≡◌, ℕ, List, Option, Some, slice_get}
use Rattle.std.specs.Option.{option_map}
use Rattle.basic_types.specs.declared.qtype.QType.{QType}
use Rattle.basic_types.specs.Normal.{pointer_type}
use Rattle.basic_types.specs.Types.{value_type, int_name, bool_name, text_name}
use Rattle.meta_model.specs.declared.object.MetaObject.{MetaObject}
use Rattle.meta_model.specs.declared.object.ValueType.{ValueType}
use Rattle.meta_model.specs.declared.object.ValueType.TheVariants as type
use Rattle.meta_model.specs.Loaded.{Loaded}
use Rattle.meta_model.specs.Members.{IsClassNamed, Below}

-- the class of this name, which no other class has
pub record IsTheClass (p : Loaded) (name : List ℕ) (c : ℕ) : Type 0 where
  pub named : IsClassNamed p name c
  pub only : (d : ℕ) → IsClassNamed p name d → d ≡ c

-- the class of the first name is that of the second, or below it
pub record BelowNamed (p : Loaded) (name base_name : List ℕ) : Type 0 where
  pub class : ℕ
  pub is_class : IsTheClass p name class
  pub base : ℕ
  pub is_base : IsTheClass p base_name base
  pub below : Below p class base

-- a type as it is declared, with its class's name
abbrev pub spelled : Loaded → ValueType → Option QType
spelled p type.Int = Some (value_type int_name)
spelled p type.Bool = Some (value_type bool_name)
spelled p type.Text = Some (value_type text_name)
spelled p (type.Reference c constant) = option_map (λ (class : MetaObject). pointer_type class.name constant) (slice_get p.classes c)
