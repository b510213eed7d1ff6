-- The members of a class, one after another.
use Rattle.std.proofs.Common.{◌≡◌, List, [], ◌∷◌, ℕ, Option, refl, ◌∙◌, ap, append_assoc, map}
use Rattle.std.proofs.lemmas.List.{append-nil}
use Rattle.token_reading.specs.code.Cursor.{NotAt}
use Rattle.token_reading.specs.code.Reading.{EndsAnywhere, Found}
use Rattle.texts.specs.declared.symbol.Symbol.TheVariants.{CloseBrace}
use Rattle.texts.specs.declared.token.Token.{Token}
use Rattle.texts.specs.declared.token.Token.TheVariants as token
use Rattle.class_lang.specs.Members.{MemberReading, a_property, a_signal, a_slot, a_native, spell_member, tree_of_member}
use Rattle.class_lang.specs.code.Members.{with_members}
use Rattle.class_lang.specs.Declarations.{spell_members, class_of}
use Rattle.class_lang.specs.declared.members.ParsedMember.{ParsedMember}
use Rattle.class_lang.specs.declared.members.ParsedMember.TheVariants as member
use Rattle.syntax_trees.specs.declared.program.Class.{Class}
use Rattle.token_reading.proofs.Underway.{None, Underway}

-- ---- adding members one at a time

pub no_members : (class : Class) → with_members class [] ≡ class
no_members class =
    let p = append-nil class.properties in
    let s = append-nil class.signals in
    let m = append-nil class.slots in
    rw (p, s, m) refl

pub one_member_more : (class : Class) (m : ParsedMember) (ms : List ParsedMember) → with_members class (m ∷ ms) ≡ with_members (with_members class (m ∷ [])) ms
one_member_more class (member.Property p) ms = simp (append_assoc, append-nil)
one_member_more class (member.Signal s) ms = simp (append_assoc, append-nil)
one_member_more class (member.Slot s) ms = simp (append_assoc, append-nil)

-- ---- {member} "}"

abbrev pub MembersSoFar : List ℕ → Option (List ℕ) → List Token → Class → List Token → Type 0
MembersSoFar name base before class now = Underway spell_members (class_of name base) EndsAnywhere spell_members (λ more class. with_members class (map tree_of_member more)) before class now

after_member : (ms : List MemberReading) (now after rest : List Token) {m : ParsedMember} → NotAt CloseBrace now → Found spell_member tree_of_member EndsAnywhere now m after → now ≡ spell_members ms rest → (more : List MemberReading) × (after ≡ spell_members more rest)
after_member [] now after rest unclosed f g = absurd (unclosed rest g)
after_member (r ∷ rs) now after rest unclosed f g = (rs, f.only r (spell_members rs rest) tt g)

no_member_left : (ms : List MemberReading) (now rest : List Token) → NotAt CloseBrace now → None spell_member EndsAnywhere now → now ≡ spell_members ms rest → ⊥
no_member_left [] now rest unclosed none g = unclosed rest g
no_member_left (r ∷ rs) now rest unclosed none g = none r (spell_members rs rest) tt g

closed : (ms : List MemberReading) (now after rest : List Token) → now ≡ token.Symbol CloseBrace ∷ after → now ≡ spell_members ms rest → after ≡ rest
closed [] now after rest e g = cc
closed (a_property p ∷ ms) now after rest e g = cc
closed (a_signal s ∷ ms) now after rest e g = cc
closed (a_slot s ∷ ms) now after rest e g = cc
closed (a_native n ∷ ms) now after rest e g = cc

module _ {name : List ℕ} {base : Option (List ℕ)} {before : List Token} {class : Class} {now : List Token} (h : MembersSoFar name base before class now) where
  pub members_step : {m : ParsedMember} {after : List Token} → NotAt CloseBrace now → Found spell_member tree_of_member EndsAnywhere now m after → MembersSoFar name base before (with_members class (m ∷ [])) after
  members_step {m} {after} unclosed f = record {
    goes_on = λ ms rest g.
        let s = f.spelled in
        let w = h.goes_on (f.reading ∷ ms) rest cc in
        (w.0, w.1, w.2 ∙ (ap (λ x. with_members class (x ∷ map tree_of_member ms)) f.tree_is ∙ one_member_more class m (map tree_of_member ms)));
    all = λ r rest ends g. let w = h.all r rest ends g in after_member w.0 now after rest unclosed f w.1;
  }

  pub members_done : {after : List Token} → now ≡ token.Symbol CloseBrace ∷ after → Found spell_members (class_of name base) EndsAnywhere before class after
  members_done {after} e =
      let w = h.goes_on [] after e in
      record { reading = w.0; spelled = w.1; tree_is = w.2 ∙ no_members class; only = λ r rest ends g. let v = h.all r rest ends g in closed v.0 now after rest e v.1 }

  pub members_stuck : NotAt CloseBrace now → None spell_member EndsAnywhere now → None spell_members EndsAnywhere before
  members_stuck unclosed none r rest ends g = let w = h.all r rest ends g in no_member_left w.0 now rest unclosed none w.1
