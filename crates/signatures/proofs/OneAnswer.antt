-- A text has one normal form, and one answer.
use Rattle.std.proofs.Common.{◌≡◌, ◌⊎◌, ℕ, List, [], ◌∷◌, Result, Ok, Err, refl, sym, ap, arith, inl, inr}
use Rattle.signatures.specs.code.Reading.{const_word}
use Rattle.basic_types.specs.Signatures.{spell_ending, spell_named, spell_type, spell_others, spell_list, TypeReading, IsClosed, IsFramed, IsTyped, Normal}
use Rattle.signatures.specs.Normalising.{HasTooMany, Normalises}
use Rattle.basic_types.specs.Tokens.{Token, word, mark}
use Rattle.signatures.specs.declared.fault.SigFault.{SigFault}
use Rattle.signatures.specs.declared.fault.SigFault.TheVariants.{BadName, BadType, TooMany, Memory}
use Rattle.basic_types.specs.declared.normal.ConstPlace.{ConstPlace}
use Rattle.basic_types.specs.declared.normal.ConstPlace.TheVariants.{Nowhere, Before, After}
use Rattle.basic_types.specs.declared.normal.TypeEnding.{TypeEnding}
use Rattle.basic_types.specs.declared.normal.TypeEnding.TheVariants.{Bare, Reference, Pointer}
use Rattle.basic_types.specs.declared.mark.Mark.TheVariants.{Comma, Ampersand, Star}
use Rattle.basic_types.specs.declared.sig.Sig.{Sig}
use Rattle.signatures.proofs.Unique.{one_typed}
use Rattle.signatures.proofs.Closed.{part_more}

pub one_normal : (text : List ℕ) (a b : Sig) → Normal text a → Normal text b → a ≡ b
one_normal text a b h k = one_typed text a b h.typed k.typed

-- where types stand, a list in brackets does
parts_ending : (e : TypeEnding) (x : List Token) → IsClosed x → IsClosed (spell_ending e x)
parts_ending Bare x h = h
parts_ending Reference x h = part_more (mark Ampersand) x tt h
parts_ending Pointer x h = part_more (mark Star) x tt h

parts_named : (p : ConstPlace) (n : List ℕ) (x : List Token) → IsClosed x → IsClosed (spell_named p n x)
parts_named Nowhere n x h = part_more (word n) x tt h
parts_named Before n x h = part_more const_word (word n ∷ x) tt (part_more (word n) x tt h)
parts_named After n x h = part_more (word n) (const_word ∷ x) tt (part_more const_word x tt h)

parts_others : (rs : List TypeReading) → IsClosed (spell_others rs [])
parts_others [] = record { parts = []; is = refl; inside = tt }
parts_others (r ∷ rs) = part_more (mark Comma) (spell_type r (spell_others rs [])) tt (parts_named r.place r.name (spell_ending r.ending (spell_others rs [])) (parts_ending r.ending (spell_others rs []) (parts_others rs)))

parts_list : (rs : List TypeReading) → IsClosed (spell_list rs [])
parts_list [] = record { parts = []; is = refl; inside = tt }
parts_list (r ∷ rs) = parts_named r.place r.name (spell_ending r.ending (spell_others rs [])) (parts_ending r.ending (spell_others rs []) (parts_others rs))

framed : (text : List ℕ) (sig : Sig) → IsTyped text sig → IsFramed text
framed text sig h = record { name = sig.name; list = h.list; framed = h.framed; named = h.named; closed = rw (sym h.types.spelled) at (parts_list h.types.readings) }

few_many : (text : List ℕ) (sig : Sig) → Normal text sig → HasTooMany text → ⊥
few_many text sig h k =
    let e = one_typed text k.sig sig k.typed h.typed in
    let m = rw e at k.many in
    let n = h.few in
    absurd (omega arith)

pub one_answer : (text : List ℕ) (a b : Result Sig SigFault) → Normalises text a → Normalises text b → (a ≡ Err Memory) ⊎ (b ≡ Err Memory) ⊎ (a ≡ b)
one_answer text (Err Memory) b h k = inl refl
one_answer text (Ok a) (Err Memory) h k = inr (inl refl)
one_answer text (Ok a) (Ok b) h k = inr (inr (ap Ok (one_normal text a b h k)))
one_answer text (Ok a) (Err BadName) h k = absurd (k (framed text a h.typed))
one_answer text (Ok a) (Err BadType) h k = absurd (k.none a h.typed)
one_answer text (Ok a) (Err TooMany) h k = absurd (few_many text a h k)
one_answer text (Err BadName) (Err Memory) h k = inr (inl refl)
one_answer text (Err BadName) (Ok b) h k = absurd (h (framed text b k.typed))
one_answer text (Err BadName) (Err BadName) h k = inr (inr refl)
one_answer text (Err BadName) (Err BadType) h k = absurd (h k.framed)
one_answer text (Err BadName) (Err TooMany) h k = absurd (h (framed text k.sig k.typed))
one_answer text (Err BadType) (Err Memory) h k = inr (inl refl)
one_answer text (Err BadType) (Ok b) h k = absurd (h.none b k.typed)
one_answer text (Err BadType) (Err BadName) h k = absurd (k h.framed)
one_answer text (Err BadType) (Err BadType) h k = inr (inr refl)
one_answer text (Err BadType) (Err TooMany) h k = absurd (h.none k.sig k.typed)
one_answer text (Err TooMany) (Err Memory) h k = inr (inl refl)
one_answer text (Err TooMany) (Ok b) h k = absurd (few_many text b k h)
one_answer text (Err TooMany) (Err BadName) h k = absurd (k (framed text h.sig h.typed))
one_answer text (Err TooMany) (Err BadType) h k = absurd (k.none h.sig h.typed)
one_answer text (Err TooMany) (Err TooMany) h k = inr (inr refl)
