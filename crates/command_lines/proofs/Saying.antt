-- The words of a command line, one after another.
use Rattle.std.proofs.Common.{◌≡◌, ℕ, Bool, true, false, List, [], ◌∷◌, codes, Option, Some, None, MatchOption, subst, sym, ◌∙◌}
use Rattle.command_lines.specs.Words.{IsLimit, IsRun, IsSettlingRun, IsNoLimit, IsNoRun, IsNoSettlingRun, IsCommand, IsNoCommand, IsLineOf, IsNoLine, BeginsOtherwise}
use Rattle.command_lines.specs.declared.words.Command.{Command}
use Rattle.command_lines.specs.declared.words.Command.TheVariants.{Meta, Certify, Check, CertifySettling, CheckSettling, Run, RunSettling, RunUnchecked}

pub after_first : (words rest others : List (List ℕ)) (word other : List ℕ) → words ≡ word ∷ rest → words ≡ other ∷ others → rest ≡ others
after_first words rest others word other p q = cc

-- what follows `run` is its limit
pub run_of_limit : (words rest : List (List ℕ)) (said : Option ℕ) → words ≡ codes "run" ∷ rest →
    MatchOption said (IsNoLimit rest) (λ steps. IsLimit rest steps) → MatchOption said (IsNoRun words) (λ steps. IsRun words steps)
run_of_limit words rest None are h =
    λ steps r. h steps (subst (λ o. IsLimit o steps) (sym (after_first words rest r.options _ _ are r.are)) r.limited)
run_of_limit words rest (Some steps) are h = record { options = rest; are = are; limited = h }

-- .. and so is what follows `run --settling`
pub settling_run_of_limit : (words rest options : List (List ℕ)) (said : Option ℕ) → words ≡ codes "run" ∷ rest → rest ≡ codes "--settling" ∷ options →
    MatchOption said (IsNoLimit options) (λ steps. IsLimit options steps) → MatchOption said (IsNoSettlingRun words) (λ steps. IsSettlingRun words steps)
settling_run_of_limit words rest options None are behind h =
    λ steps r.
    let one = after_first words rest (codes "--settling" ∷ r.options) _ _ are r.are in
    h steps (subst (λ o. IsLimit o steps) (sym (after_first rest options r.options _ _ behind one)) r.limited)
settling_run_of_limit words rest options (Some steps) are behind h =
    record { options = options; are = subst (λ (o : List (List ℕ)). words ≡ codes "run" ∷ o) behind are; limited = h }

-- ---- `--wide` in front of a command

-- no command begins so
pub not_wide : (words rest : List (List ℕ)) (command : Command) → words ≡ codes "--wide" ∷ rest → IsCommand words command → ⊥
not_wide words rest Meta are is = let no : codes "--wide" ∷ rest ≡ codes "meta" ∷ [] = sym are ∙ is in cc no
not_wide words rest Certify are is = let no : codes "--wide" ∷ rest ≡ codes "certify" ∷ [] = sym are ∙ is in cc no
not_wide words rest Check are is = let no : codes "--wide" ∷ rest ≡ codes "check" ∷ [] = sym are ∙ is in cc no
not_wide words rest CertifySettling are is = let no : codes "--wide" ∷ rest ≡ codes "certify" ∷ codes "--settling" ∷ [] = sym are ∙ is in cc no
not_wide words rest CheckSettling are is = let no : codes "--wide" ∷ rest ≡ codes "check" ∷ codes "--settling" ∷ [] = sym are ∙ is in cc no
not_wide words rest (Run steps) are is = let no : codes "--wide" ∷ rest ≡ codes "run" ∷ is.options = sym are ∙ is.are in cc no
not_wide words rest (RunSettling steps) are is = let no : codes "--wide" ∷ rest ≡ codes "run" ∷ codes "--settling" ∷ is.options = sym are ∙ is.are in cc no
not_wide words rest (RunUnchecked options) are is =
    let no : codes "--wide" ∷ rest ≡ codes "run" ∷ codes "--unchecked" ∷ is.word ∷ is.options = sym are ∙ is.are in
    cc no

no_line_of : (words rest : List (List ℕ)) → words ≡ codes "--wide" ∷ rest → IsNoCommand rest → (command : Command) (is_wide : Bool) → IsLineOf words command is_wide → ⊥
no_line_of words rest are none command true h = none command (subst (λ ws. IsCommand ws command) (after_first words h.rest rest _ _ h.are are) h.is)
no_line_of words rest are none command false h = not_wide words rest command are h

-- behind `--wide` there is no command
pub no_line_behind : (words rest : List (List ℕ)) → words ≡ codes "--wide" ∷ rest → IsNoCommand rest → IsNoLine words
no_line_behind words rest are none line h = no_line_of words rest are none line.command line.is_wide h

no_line_in : (words : List (List ℕ)) → BeginsOtherwise (codes "--wide") words → IsNoCommand words → (command : Command) (is_wide : Bool) → IsLineOf words command is_wide → ⊥
no_line_in words other none command true h = other h.rest h.are
no_line_in words other none command false h = none command h

-- there is no `--wide`, and no command
pub no_line : (words : List (List ℕ)) → BeginsOtherwise (codes "--wide") words → IsNoCommand words → IsNoLine words
no_line words other none line h = no_line_in words other none line.command line.is_wide h
