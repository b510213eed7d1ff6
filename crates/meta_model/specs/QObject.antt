-- The methods of `QObject`, by their signatures (Qt 6, "QObject Class").
use Rattle.std.specs.Prelude.{ℕ, false, List, [], ◌∷◌, codes}
use Rattle.basic_types.specs.declared.qtype.QType.{QType}
use Rattle.basic_types.specs.declared.sig.Sig.{Sig}
use Rattle.basic_types.specs.Normal.{pointer_type}
use Rattle.basic_types.specs.Types.{value_type, text_name}

abbrev pub destroyed : Sig
destroyed = record { name = codes "destroyed"; types = pointer_type (codes "QObject") false ∷ [] }

-- a signature, by its parts
abbrev pub sig_of : List ℕ → List QType → Sig
sig_of name types = record { name = name; types = types }

abbrev pub destroyed_alone : Sig
destroyed_alone = sig_of (codes "destroyed") []

abbrev pub name_changed : Sig
name_changed = sig_of (codes "objectNameChanged") (value_type text_name ∷ [])

abbrev pub delete_later : Sig
delete_later = sig_of (codes "deleteLater") []
