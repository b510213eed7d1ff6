-- The text of types and signatures in normal form (docs/language.md, "Signatures"): no blanks but the one behind `const`.
use Rattle.std.specs.Prelude.{ℕ, Bool, List, [], ◌++◌, codes, if◌then◌else◌}
use Rattle.std.specs.List.{flat_map, join_by}
use Rattle.basic_types.specs.declared.qtype.QType.{QType}
use Rattle.basic_types.specs.declared.sig.Sig.{Sig}

abbrev pub text_of_type : QType → List ℕ
text_of_type t = (if t.constant then codes "const " else []) ++ (t.name ++ (if t.pointer then codes "*" else []))

-- name "(" [type {"," type}] ")"
abbrev pub text_of_sig : Sig → List ℕ
text_of_sig sig = sig.name ++ (codes "(" ++ (join_by text_of_type (codes ",") sig.types ++ codes ")"))

-- ---- parts of these, as the code has them
abbrev pub const_text : Bool → List ℕ
const_text constant = if constant then codes "const " else []

abbrev pub star_text : Bool → List ℕ
star_text pointer = if pointer then codes "*" else []

-- [type {"," type}]
abbrev pub text_of_types : List QType → List ℕ
text_of_types types = join_by text_of_type (codes ",") types

-- {"," type}
abbrev pub text_of_others : List QType → List ℕ
text_of_others types = flat_map (λ (t : QType). codes "," ++ text_of_type t) types
