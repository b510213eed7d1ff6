-- What the command `meta` writes of a loaded program (docs/commands.md, "The command meta").
use Rattle.std.specs.Prelude.{ℕ, suc, List, [], ◌∷◌, ◌++◌, length, drop, codes, decimal, Option, None, Some, slice_get}
use Rattle.std.specs.List.{flat_map}
use Rattle.std.specs.Option.{option_and_then}
use Rattle.basic_types.specs.Spelling.{text_of_sig, text_of_type}
use Rattle.meta_model.specs.Loaded.{Loaded}
use Rattle.meta_model.specs.Members.{base_class, methods_in, properties_in}
use Rattle.meta_model.specs.declared.object.MetaObject.{MetaObject}
use Rattle.meta_model.specs.declared.object.MetaMethod.{MetaMethod}
use Rattle.meta_model.specs.declared.object.MetaProperty.{MetaProperty}
use Rattle.meta_model.specs.declared.object.Work.{Work}
use Rattle.meta_model.specs.declared.object.Work.TheVariants.{Signal, Slot, Native}
use Rattle.command_lines.specs.Lines.{newline}

-- ` : B`
abbrev pub base_text : Option MetaObject → List ℕ
base_text None = []
base_text (Some base) = codes " : " ++ base.name

-- `class C : B offset count`
abbrev pub class_line : MetaObject → Option MetaObject → List ℕ
class_line class base =
    codes "class " ++ class.name ++ base_text base ++ codes " " ++ decimal (methods_in base) ++ codes " " ++ decimal (length class.methods) ++ newline

abbrev pub work_text : Work → List ℕ
work_text Signal = codes " signal "
work_text (Slot statements) = codes " slot "
work_text (Native effects) = codes " native "

-- `n signal s(types)`, `n slot s(types)` or `n native s(types)`
abbrev pub method_line : ℕ → MetaMethod → List ℕ
method_line number method = decimal number ++ work_text method.work ++ text_of_sig method.sig ++ newline

-- the lines of methods, numbered from the first one's number on
abbrev pub method_lines : ℕ → List MetaMethod → List ℕ
method_lines number [] = []
method_lines number (m ∷ ms) = method_line number m ++ method_lines (suc number) ms

abbrev pub signal_text : Option MetaMethod → List ℕ
signal_text None = []
signal_text (Some method) = codes " notify " ++ text_of_sig method.sig

-- ` notify s(types)`
abbrev pub notify_text : MetaObject → Option ℕ → List ℕ
notify_text class notify = signal_text (option_and_then (slice_get class.methods) notify)

-- `property p type notify s(types)`
abbrev pub property_line : MetaObject → MetaProperty → List ℕ
property_line class property =
    codes "property " ++ property.name ++ codes " " ++ text_of_type property.declared ++ notify_text class property.notify ++ newline

-- the class's line, and those of its own methods and properties
abbrev pub class_lines : MetaObject → Option MetaObject → List ℕ
class_lines class base =
    class_line class base ++ method_lines (methods_in base) (drop (methods_in base) class.methods)
    ++ flat_map (property_line class) (drop (properties_in base) class.properties)

-- a class's lines, in its program
abbrev pub described : Loaded → MetaObject → List ℕ
described p class = class_lines class (base_class p class)

-- every class, `QObject` first
abbrev pub meta_text : Loaded → List ℕ
meta_text p = flat_map (described p) p.classes
