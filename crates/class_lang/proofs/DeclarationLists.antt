-- The declarations of a program, one after another.
use Rattle.std.proofs.Common.{◌≡◌, List, [], ◌∷◌, refl, sym, ◌∙◌, ap, append_assoc, map, Result, Ok, Err, IfOk, OnOk}
use Rattle.std.proofs.lemmas.List.{append-nil}
use Rattle.token_reading.specs.Lists.{spell_each}
use Rattle.token_reading.specs.code.Reading.{Found, Reads, IsAtEnd}
use Rattle.token_reading.specs.declared.fault.ParseFault.{ParseFault}
use Rattle.texts.specs.declared.token.Token.{Token}
use Rattle.class_lang.specs.Declarations.{DeclarationReading, a_class, a_wire, an_owns, a_site, spell_declaration, tree_of_declaration, tree_of_program, IsProgram}
use Rattle.class_lang.specs.code.Declarations.{with_declarations, EndsDeclaration}
use Rattle.class_lang.specs.declared.declarations.ParsedDeclaration.{ParsedDeclaration}
use Rattle.class_lang.specs.declared.declarations.ParsedDeclaration.TheVariants as declaration
use Rattle.syntax_trees.specs.declared.program.Program.{Program}
use Rattle.token_reading.proofs.Underway.{None, Underway}

-- ---- adding declarations one at a time

pub no_declarations : (program : Program) → with_declarations program [] ≡ program
no_declarations program =
    let c = append-nil program.classes in
    let w = append-nil program.wires in
    let o = append-nil program.owns in
    let s = append-nil program.sites in
    rw (c, w, o, s) refl

pub one_declaration_more : (program : Program) (d : ParsedDeclaration) (ds : List ParsedDeclaration) → with_declarations program (d ∷ ds) ≡ with_declarations (with_declarations program (d ∷ [])) ds
one_declaration_more program (declaration.Class c) ds = simp (append_assoc, append-nil)
one_declaration_more program (declaration.Wire w) ds = simp (append_assoc, append-nil)
one_declaration_more program (declaration.Owns o) ds = simp (append_assoc, append-nil)
one_declaration_more program (declaration.Site s) ds = simp (append_assoc, append-nil)

-- ---- {declaration}

abbrev pub ProgramSoFar : List Token → Program → List Token → Type 0
ProgramSoFar before program now = Underway (spell_each spell_declaration) tree_of_program IsAtEnd (spell_each spell_declaration) (λ more program. with_declarations program (map tree_of_declaration more)) before program now

-- a declaration's end, within a program
pub ends_next : (ds : List DeclarationReading) (rest : List Token) → IsAtEnd rest → EndsDeclaration (spell_each spell_declaration ds rest)
ends_next [] rest at_end after e = cc
ends_next (a_class c ∷ ds) rest at_end after e = cc
ends_next (a_wire w ∷ ds) rest at_end after e = cc
ends_next (an_owns o ∷ ds) rest at_end after e = cc
ends_next (a_site s ∷ ds) rest at_end after e = cc

after_declaration : (ds : List DeclarationReading) (now after rest : List Token) {d : ParsedDeclaration} → IsAtEnd rest → ¬ (now ≡ []) → Found spell_declaration tree_of_declaration EndsDeclaration now d after → now ≡ spell_each spell_declaration ds rest → (more : List DeclarationReading) × (after ≡ spell_each spell_declaration more rest)
after_declaration [] now after rest at_end some f g = absurd (some cc)
after_declaration (r ∷ rs) now after rest at_end some f g = (rs, f.only r (spell_each spell_declaration rs rest) (ends_next rs rest at_end) g)

no_declaration_left : (ds : List DeclarationReading) (now rest : List Token) → IsAtEnd rest → ¬ (now ≡ []) → None spell_declaration EndsDeclaration now → now ≡ spell_each spell_declaration ds rest → ⊥
no_declaration_left [] now rest at_end some none g = some cc
no_declaration_left (r ∷ rs) now rest at_end some none g = none r (spell_each spell_declaration rs rest) (ends_next rs rest at_end) g

module _ {before : List Token} {program : Program} {now : List Token} (h : ProgramSoFar before program now) where
  pub program_step : {d : ParsedDeclaration} {after : List Token} → ¬ (now ≡ []) → Found spell_declaration tree_of_declaration EndsDeclaration now d after → ProgramSoFar before (with_declarations program (d ∷ [])) after
  program_step {d} {after} some f = record {
    goes_on = λ ds rest g.
        let s = f.spelled in
        let w = h.goes_on (f.reading ∷ ds) rest cc in
        (w.0, w.1, w.2 ∙ (ap (λ x. with_declarations program (x ∷ map tree_of_declaration ds)) f.tree_is ∙ one_declaration_more program d (map tree_of_declaration ds)));
    all = λ r rest ends g. let w = h.all r rest ends g in after_declaration w.0 now after rest ends some f w.1;
  }

  pub program_done : now ≡ [] → Found (spell_each spell_declaration) tree_of_program IsAtEnd before program now
  program_done e =
      let w = h.goes_on [] now refl in
      record { reading = w.0; spelled = w.1; tree_is = w.2 ∙ no_declarations program; only = λ r rest ends g. e ∙ sym ends }

  pub program_stuck : ¬ (now ≡ []) → None spell_declaration EndsDeclaration now → None (spell_each spell_declaration) IsAtEnd before
  program_stuck some none r rest ends g = let w = h.all r rest ends g in no_declaration_left w.0 now rest ends some none w.1

-- what is read to the end is all of the program
pub whole : (tokens after : List Token) (result : Result Program ParseFault) → Reads (spell_each spell_declaration) tree_of_program IsAtEnd tokens result after → OnOk result (after ≡ []) → IfOk result (λ program. IsProgram tokens program)
whole tokens after (Ok p) f e = let s = f.spelled in record { reading = f.reading; spelled = cc; tree = f.tree_is }
whole tokens after (Err x) f e = tt
