-- The events of lines, and of a script.
use Rattle.std.proofs.{Common.{◌≡◌, ℕ, ◌≤◌, ◌+◌, List, [], ◌∷◌, ◌++◌, length, refl, sym, ◌∙◌, ap, Option, Some, None, Bool, true, false, IsTrue, ◌↔◌, All, arith}, lemmas.List.{append-nil, length-append}}
use Rattle.texts.{proofs.Cut.{same_tokens}, specs.Limits.{most_bytes}, specs.Pieces.{AreTokens}, specs.declared.lexer.LexFault.{LexFault}, specs.declared.token.Token.{Token}, specs.Lines.{IsFirstLine, AreFirstLines}, proofs.FirstLines.{one_more_line}}
use Rattle.token_reading.specs.{code.Reading.{Found, IsAtEnd}, Signatures.{HasPlainReference}, declared.fault.ParseFault.{ParseFault}}
use Rattle.syntax_trees.specs.Connections.{HasFewTypes}
use Rattle.token_reading.specs.declared.fault.ParseFault.TheVariants as parse
use Rattle.texts.specs.declared.lexer.LexFault.TheVariants as lex
use Rattle.script_lang.{specs.declared.fault.LineFault.TheVariants.{NoEvent}, specs.declared.event.Event.{Event}, specs.Grammar.{Reading, signatures_in, spell_event, tree_of_event}, specs.code.Lines.{fault_of_cutting, fault_of_parsing}, specs.Reads.{IsEmptyLine, IsEventLine, Holds, before, AreEvents, IsScript, IsBadLine}, proofs.OneTree.{one_event}}

-- ---- one line

pub is_so : {P : Type 0} (b : Bool) → b ≡ true → (IsTrue b ↔ P) → P
is_so b f h = h.0 f

pub is_not_so : {P : Type 0} (b : Bool) → b ≡ false → (IsTrue b ↔ P) → ¬ P
is_not_so b f h p = let t = h.1 p in cc

-- the faults below of a line that is no event
pub only_bad_byte : (fault : LexFault) → fault_of_cutting fault ≡ NoEvent → fault ≡ lex.BadByte
only_bad_byte lex.BadByte e = refl
only_bad_byte lex.Memory e = cc

pub only_syntax : (fault : ParseFault) → fault_of_parsing fault ≡ NoEvent → fault ≡ parse.Syntax
only_syntax parse.Syntax e = refl
only_syntax parse.Memory e = cc

-- the line is neither empty nor an event
abbrev pub IsRefused : List ℕ → Type 0
IsRefused line = (found : Option Event) → Holds line found → ⊥

pub no_tokens : {line : List ℕ} → ((tokens : List Token) → AreTokens line tokens → ⊥) → IsRefused line
no_tokens none None h = none [] h
no_tokens none (Some event) h = none h.tokens h.cut

module _ {line : List ℕ} {tokens : List Token} (cut : AreTokens line tokens) (some : tokens ≡ [] → ⊥) where
  pub no_event : ((r : Reading) (rest : List Token) → IsAtEnd rest → tokens ≡ spell_event r rest → ⊥) → IsRefused line
  no_event none None h = some (same_tokens line tokens [] cut h)
  no_event none (Some event) h = none h.is_event.reading [] refl (same_tokens line tokens h.tokens cut h.cut ∙ h.is_event.spelled)

  pub no_normal_form : HasPlainReference tokens → IsRefused line
  no_normal_form plain None h = some (same_tokens line tokens [] cut h)
  no_normal_form plain (Some event) h = h.is_event.normal (rw (same_tokens line tokens h.tokens cut h.cut) at plain)

  pub more_than_event : {event : Event} {after : List Token} → Found spell_event tree_of_event IsAtEnd tokens event after → (after ≡ [] → ⊥) → IsRefused line
  more_than_event f more None h = some (same_tokens line tokens [] cut h)
  more_than_event f more (Some event) h = more (f.only h.is_event.reading [] refl (same_tokens line tokens h.tokens cut h.cut ∙ h.is_event.spelled))

module _ {line : List ℕ} {tokens after : List Token} {event : Event} (cut : AreTokens line tokens) (f : Found spell_event tree_of_event IsAtEnd tokens event after) (end : after ≡ []) where
  pub event_line : All HasFewTypes (signatures_in event) → ¬ HasPlainReference tokens → IsEventLine line event
  event_line few normal = record {
    tokens = tokens;
    cut = cut;
    is_event = record { reading = f.reading; spelled = f.spelled ∙ ap (spell_event f.reading) end; tree = f.tree_is; few_types = few; normal = normal };
  }

  pub many_types : (tokens ≡ [] → ⊥) → ¬ All HasFewTypes (signatures_in event) → IsRefused line
  many_types some many None h = some (same_tokens line tokens [] cut h)
  many_types some many (Some other) h =
      let same = same_tokens line tokens h.tokens cut h.cut in
      let one = one_event tokens f.reading h.is_event.reading (f.spelled ∙ ap (spell_event f.reading) end) (same ∙ h.is_event.spelled) in
      many (rw (← (sym f.tree_is ∙ (one ∙ h.is_event.tree))) at h.is_event.few_types)

-- ---- the lines so far

events_more : (lines : List (List ℕ)) (events : List Event) (line : List ℕ) (found : Option Event) → AreEvents lines events → Holds line found → AreEvents (lines ++ line ∷ []) (events ++ before found [])
events_more [] events line found e h = (found, [], h, refl, ap (λ es. es ++ before found []) e)
events_more (l ∷ lines) events line found w h =
    (w.0, w.1 ++ before found [], w.2, events_more lines w.1 line found w.3 h, ap (λ es. es ++ before found []) w.4 ∙ joined w.0)
  where
    joined : (first : Option Event) → before first (w.1) ++ before found [] ≡ before first (w.1 ++ before found [])
    joined None = refl
    joined (Some event) = refl

-- after so many lines, each of them empty or an event
pub record LinesSoFar (text : List ℕ) (events : List Event) (number : ℕ) (rest : List ℕ) : Type 0 where
  pub good : List (List ℕ)
  pub lead : AreFirstLines text good rest
  pub are_events : AreEvents good events
  pub counted : number ≡ length good

pub no_line_yet : (text : List ℕ) → LinesSoFar text [] 0 text
no_line_yet text = record { good = []; lead = refl; are_events = refl; counted = refl }

module _ {text : List ℕ} {events : List Event} {number : ℕ} {rest : List ℕ} (h : LinesSoFar text events number rest) where
  module _ {line after : List ℕ} (front : IsFirstLine rest line after) where
    next_line : (found : Option Event) → Holds line found → LinesSoFar text (events ++ before found []) (number + 1) after
    next_line found holds = record {
      good = h.good ++ line ∷ [];
      lead = one_more_line text h.good rest line after h.lead front;
      are_events = events_more h.good events line found h.are_events holds;
      counted = omega (arith, h.counted, length-append h.good (line ∷ []));
    }

    pub event_next : {event : Event} → IsEventLine line event → LinesSoFar text (events ++ event ∷ []) (number + 1) after
    event_next {event} holds = next_line (Some event) holds

    pub empty_next : IsEmptyLine line → LinesSoFar text events (number + 1) after
    empty_next holds = rw append-nil at (next_line None holds)

    pub bad_next : length text ≤ most_bytes → IsRefused line → IsBadLine text (number + 1)
    bad_next fits bad = record {
      fits = fits;
      good = h.good;
      events = events;
      are_events = h.are_events;
      line = line;
      from_line = rest;
      after = after;
      lead = h.lead;
      front = front;
      bad = bad;
      counted = ap (λ n. n + 1) h.counted;
    }

  pub script_read : length text ≤ most_bytes → rest ≡ [] → IsScript text events
  script_read fits e = record { fits = fits; lines = h.good; cut = rw e at h.lead; are_events = h.are_events }
