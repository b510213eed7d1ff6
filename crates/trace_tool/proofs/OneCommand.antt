-- For natives with one answer a command line comes to one thing.
use Rattle.std.proofs.Common.{◌≡◌, ◌⊎◌, inl, inr, ℕ, Bool, true, false, List, [], ◌∷◌, Result, Ok, Err, codes, refl, sym, ap, ◌∙◌, subst, arith}
use Rattle.native_slots.specs.declared.head.NativeHead.{NativeHead}
use Rattle.machine_rules.specs.Natives.{NativeAnswers, AnswersOnce}
use Rattle.rank_make.specs.declared.why.Why.TheVariants as why
use Rattle.program_commands.{specs.Commands.{IsSameOutcome as IsSameOfProgram}, specs.Outcomes.{IsShort as IsShortOfProgram}, specs.declared.outcome.Outcome.{Outcome as ProgramOutcome}, specs.Steps.{Is}, proofs.Once.{OneOf, one_description, one_certifying, one_check}, proofs.SettlingOnce.{one_settling_certifying, one_settling_check}}
use Rattle.program_commands.specs.declared.outcome.Outcome.TheVariants as of_program
use Rattle.program_commands.specs.declared.settling_commands.outcome.SettlingOutcome.TheVariants as settling
use Rattle.class_lang.specs.declared.size.Limits.{Limits}
use Rattle.command_lines.{specs.Words.{IsNumber, IsLimit, IsCommand, IsLineOf}, specs.declared.input.InputFault.{InputFault}, specs.declared.usage.UsageFault.TheVariants.{Words, TooLarge, Texts}, specs.declared.words.Command.{Command}, specs.declared.words.Command.TheVariants.{Meta, Certify, Check, CertifySettling, CheckSettling, Run, RunSettling, RunUnchecked}, specs.declared.words.CommandLine.{CommandLine}, specs.declared.words.Options.{Options}, proofs.Saying.{after_first, not_wide}, proofs.Partings.{texts_once}}
use Rattle.trace_tool.{specs.Outcomes.{IsShort}, specs.declared.any_machine.outcome.Outcome.{Outcome}, specs.declared.any_machine.outcome.Outcome.TheVariants.{Program}, specs.Commands.{Says, Cuts, Does, IsOfProgram, limits_of}, specs.Laws.{IsSameOutcome, OneCommandOutcome}, proofs.OneRun.{OneAs, same_first, one_run_outcome, one_settling_run_outcome, one_unchecked_outcome}}
use Rattle.texts.specs.Numerals.{value_of}
use Rattle.object_machine.specs.Seen.{Seen}

abbrev line_of : Command → Bool → CommandLine
line_of command is_wide = record { command = command; is_wide = is_wide }

-- ---- the words are one command's

number-once : {largest : ℕ} {v w : List ℕ} {m n : ℕ} → v ≡ w → IsNumber largest v m → IsNumber largest w n → m ≡ n
number-once same x y = x.written.value ∙ ap (λ (word : List ℕ). value_of word) same ∙ sym y.written.value

limit-once : {v w : List (List ℕ)} {m n : ℕ} → v ≡ w → IsLimit v m → IsLimit w n → m ≡ n
limit-once {v} {w} same (inl x) (inl y) = x.1 ∙ sym y.1
limit-once {v} {w} same (inl x) (inr y) = let no : [] ≡ codes "--steps" ∷ y.0 ∷ [] = sym x.0 ∙ same ∙ y.1 in absurd (cc no)
limit-once {v} {w} same (inr x) (inl y) = let no : codes "--steps" ∷ x.0 ∷ [] ≡ [] = sym x.1 ∙ same ∙ y.0 in absurd (cc no)
limit-once {v} {w} same (inr x) (inr y) =
    let both : codes "--steps" ∷ x.0 ∷ [] ≡ codes "--steps" ∷ y.0 ∷ [] = sym x.1 ∙ same ∙ y.1 in
    let word : x.0 ≡ y.0 = cc both in
    number-once word x.2 y.2

-- the limit doesn't begin as the depth does
limit-other : {words options : List (List ℕ)} {word : List ℕ} {n : ℕ} → words ≡ codes "--unchecked" ∷ word ∷ options → IsLimit words n → ⊥
limit-other {words} {options} {word} are (inl x) = let no : codes "--unchecked" ∷ word ∷ options ≡ [] = sym are ∙ x.0 in cc no
limit-other {words} {options} {word} are (inr x) =
    let both : codes "--unchecked" ∷ word ∷ options ≡ codes "--steps" ∷ x.0 ∷ [] = sym are ∙ x.1 in
    let no : codes "--unchecked" ≡ codes "--steps" = cc both in
    cc no

-- .. nor with `--settling`
limit-not-settling : {words options : List (List ℕ)} {n : ℕ} → words ≡ codes "--settling" ∷ options → IsLimit words n → ⊥
limit-not-settling {words} {options} are (inl x) = let no : codes "--settling" ∷ options ≡ [] = sym are ∙ x.0 in cc no
limit-not-settling {words} {options} are (inr x) =
    let both : codes "--settling" ∷ options ≡ codes "--steps" ∷ x.0 ∷ [] = sym are ∙ x.1 in
    let no : codes "--settling" ≡ codes "--steps" = cc both in
    cc no

-- .. and what has that doesn't begin as the depth does
settling-not-unchecked : {words options more : List (List ℕ)} {word : List ℕ} → words ≡ codes "run" ∷ codes "--settling" ∷ options → words ≡ codes "run" ∷ codes "--unchecked" ∷ word ∷ more → ⊥
settling-not-unchecked {words} {options} {more} {word} x y =
    let behind = after_first words (codes "--settling" ∷ options) (codes "--unchecked" ∷ word ∷ more) _ _ x y in
    let no : codes "--settling" ≡ codes "--unchecked" = cc behind in
    cc no

meta-once : (words : List (List ℕ)) (d : Command) → IsCommand words Meta → IsCommand words d → Meta ≡ d
meta-once words Meta x y = refl
meta-once words Certify x y = let no : codes "meta" ∷ [] ≡ codes "certify" ∷ [] = sym x ∙ y in absurd (cc no)
meta-once words Check x y = let no : codes "meta" ∷ [] ≡ codes "check" ∷ [] = sym x ∙ y in absurd (cc no)
meta-once words CertifySettling x y = let no : codes "meta" ∷ [] ≡ codes "certify" ∷ codes "--settling" ∷ [] = sym x ∙ y in absurd (cc no)
meta-once words CheckSettling x y = let no : codes "meta" ∷ [] ≡ codes "check" ∷ codes "--settling" ∷ [] = sym x ∙ y in absurd (cc no)
meta-once words (Run steps) x y = let no : codes "meta" ∷ [] ≡ codes "run" ∷ y.options = sym x ∙ y.are in absurd (cc no)
meta-once words (RunSettling steps) x y = let no : codes "meta" ∷ [] ≡ codes "run" ∷ codes "--settling" ∷ y.options = sym x ∙ y.are in absurd (cc no)
meta-once words (RunUnchecked options) x y = let no : codes "meta" ∷ [] ≡ codes "run" ∷ codes "--unchecked" ∷ y.word ∷ y.options = sym x ∙ y.are in absurd (cc no)

certify-once : (words : List (List ℕ)) (d : Command) → IsCommand words Certify → IsCommand words d → Certify ≡ d
certify-once words Meta x y = let no : codes "certify" ∷ [] ≡ codes "meta" ∷ [] = sym x ∙ y in absurd (cc no)
certify-once words Certify x y = refl
certify-once words Check x y = let no : codes "certify" ∷ [] ≡ codes "check" ∷ [] = sym x ∙ y in absurd (cc no)
certify-once words CertifySettling x y = let no : codes "certify" ∷ [] ≡ codes "certify" ∷ codes "--settling" ∷ [] = sym x ∙ y in absurd (cc no)
certify-once words CheckSettling x y = let no : codes "certify" ∷ [] ≡ codes "check" ∷ codes "--settling" ∷ [] = sym x ∙ y in absurd (cc no)
certify-once words (Run steps) x y = let no : codes "certify" ∷ [] ≡ codes "run" ∷ y.options = sym x ∙ y.are in absurd (cc no)
certify-once words (RunSettling steps) x y = let no : codes "certify" ∷ [] ≡ codes "run" ∷ codes "--settling" ∷ y.options = sym x ∙ y.are in absurd (cc no)
certify-once words (RunUnchecked options) x y = let no : codes "certify" ∷ [] ≡ codes "run" ∷ codes "--unchecked" ∷ y.word ∷ y.options = sym x ∙ y.are in absurd (cc no)

check-once : (words : List (List ℕ)) (d : Command) → IsCommand words Check → IsCommand words d → Check ≡ d
check-once words Meta x y = let no : codes "check" ∷ [] ≡ codes "meta" ∷ [] = sym x ∙ y in absurd (cc no)
check-once words Certify x y = let no : codes "check" ∷ [] ≡ codes "certify" ∷ [] = sym x ∙ y in absurd (cc no)
check-once words Check x y = refl
check-once words CertifySettling x y = let no : codes "check" ∷ [] ≡ codes "certify" ∷ codes "--settling" ∷ [] = sym x ∙ y in absurd (cc no)
check-once words CheckSettling x y = let no : codes "check" ∷ [] ≡ codes "check" ∷ codes "--settling" ∷ [] = sym x ∙ y in absurd (cc no)
check-once words (Run steps) x y = let no : codes "check" ∷ [] ≡ codes "run" ∷ y.options = sym x ∙ y.are in absurd (cc no)
check-once words (RunSettling steps) x y = let no : codes "check" ∷ [] ≡ codes "run" ∷ codes "--settling" ∷ y.options = sym x ∙ y.are in absurd (cc no)
check-once words (RunUnchecked options) x y = let no : codes "check" ∷ [] ≡ codes "run" ∷ codes "--unchecked" ∷ y.word ∷ y.options = sym x ∙ y.are in absurd (cc no)

certify-settling-once : (words : List (List ℕ)) (d : Command) → IsCommand words CertifySettling → IsCommand words d → CertifySettling ≡ d
certify-settling-once words Meta x y = let no : codes "certify" ∷ codes "--settling" ∷ [] ≡ codes "meta" ∷ [] = sym x ∙ y in absurd (cc no)
certify-settling-once words Certify x y = let no : codes "certify" ∷ codes "--settling" ∷ [] ≡ codes "certify" ∷ [] = sym x ∙ y in absurd (cc no)
certify-settling-once words Check x y = let no : codes "certify" ∷ codes "--settling" ∷ [] ≡ codes "check" ∷ [] = sym x ∙ y in absurd (cc no)
certify-settling-once words CertifySettling x y = refl
certify-settling-once words CheckSettling x y = let no : codes "certify" ∷ codes "--settling" ∷ [] ≡ codes "check" ∷ codes "--settling" ∷ [] = sym x ∙ y in absurd (cc no)
certify-settling-once words (Run steps) x y = let no : codes "certify" ∷ codes "--settling" ∷ [] ≡ codes "run" ∷ y.options = sym x ∙ y.are in absurd (cc no)
certify-settling-once words (RunSettling steps) x y = let no : codes "certify" ∷ codes "--settling" ∷ [] ≡ codes "run" ∷ codes "--settling" ∷ y.options = sym x ∙ y.are in absurd (cc no)
certify-settling-once words (RunUnchecked options) x y = let no : codes "certify" ∷ codes "--settling" ∷ [] ≡ codes "run" ∷ codes "--unchecked" ∷ y.word ∷ y.options = sym x ∙ y.are in absurd (cc no)

check-settling-once : (words : List (List ℕ)) (d : Command) → IsCommand words CheckSettling → IsCommand words d → CheckSettling ≡ d
check-settling-once words Meta x y = let no : codes "check" ∷ codes "--settling" ∷ [] ≡ codes "meta" ∷ [] = sym x ∙ y in absurd (cc no)
check-settling-once words Certify x y = let no : codes "check" ∷ codes "--settling" ∷ [] ≡ codes "certify" ∷ [] = sym x ∙ y in absurd (cc no)
check-settling-once words Check x y = let no : codes "check" ∷ codes "--settling" ∷ [] ≡ codes "check" ∷ [] = sym x ∙ y in absurd (cc no)
check-settling-once words CertifySettling x y = let no : codes "check" ∷ codes "--settling" ∷ [] ≡ codes "certify" ∷ codes "--settling" ∷ [] = sym x ∙ y in absurd (cc no)
check-settling-once words CheckSettling x y = refl
check-settling-once words (Run steps) x y = let no : codes "check" ∷ codes "--settling" ∷ [] ≡ codes "run" ∷ y.options = sym x ∙ y.are in absurd (cc no)
check-settling-once words (RunSettling steps) x y = let no : codes "check" ∷ codes "--settling" ∷ [] ≡ codes "run" ∷ codes "--settling" ∷ y.options = sym x ∙ y.are in absurd (cc no)
check-settling-once words (RunUnchecked options) x y = let no : codes "check" ∷ codes "--settling" ∷ [] ≡ codes "run" ∷ codes "--unchecked" ∷ y.word ∷ y.options = sym x ∙ y.are in absurd (cc no)

run-once : (words : List (List ℕ)) (m : ℕ) (d : Command) → IsCommand words (Run m) → IsCommand words d → Run m ≡ d
run-once words steps Meta x y = let no : codes "run" ∷ x.options ≡ codes "meta" ∷ [] = sym x.are ∙ y in absurd (cc no)
run-once words steps Certify x y = let no : codes "run" ∷ x.options ≡ codes "certify" ∷ [] = sym x.are ∙ y in absurd (cc no)
run-once words steps Check x y = let no : codes "run" ∷ x.options ≡ codes "check" ∷ [] = sym x.are ∙ y in absurd (cc no)
run-once words steps CertifySettling x y = let no : codes "run" ∷ x.options ≡ codes "certify" ∷ codes "--settling" ∷ [] = sym x.are ∙ y in absurd (cc no)
run-once words steps CheckSettling x y = let no : codes "run" ∷ x.options ≡ codes "check" ∷ codes "--settling" ∷ [] = sym x.are ∙ y in absurd (cc no)
run-once words m (Run n) x y =
    let both : codes "run" ∷ x.options ≡ codes "run" ∷ y.options = sym x.are ∙ y.are in
    let options : x.options ≡ y.options = cc both in
    ap (λ (k : ℕ). Run k) (limit-once options x.limited y.limited)
run-once words m (RunSettling n) x y =
    let both : codes "run" ∷ x.options ≡ codes "run" ∷ codes "--settling" ∷ y.options = sym x.are ∙ y.are in
    let behind : x.options ≡ codes "--settling" ∷ y.options = cc both in
    absurd (limit-not-settling behind x.limited)
run-once words m (RunUnchecked options) x y =
    let both : codes "run" ∷ x.options ≡ codes "run" ∷ codes "--unchecked" ∷ y.word ∷ y.options = sym x.are ∙ y.are in
    let behind : x.options ≡ codes "--unchecked" ∷ y.word ∷ y.options = cc both in
    absurd (limit-other behind x.limited)

run-settling-once : (words : List (List ℕ)) (m : ℕ) (d : Command) → IsCommand words (RunSettling m) → IsCommand words d → RunSettling m ≡ d
run-settling-once words steps Meta x y = let no : codes "run" ∷ codes "--settling" ∷ x.options ≡ codes "meta" ∷ [] = sym x.are ∙ y in absurd (cc no)
run-settling-once words steps Certify x y = let no : codes "run" ∷ codes "--settling" ∷ x.options ≡ codes "certify" ∷ [] = sym x.are ∙ y in absurd (cc no)
run-settling-once words steps Check x y = let no : codes "run" ∷ codes "--settling" ∷ x.options ≡ codes "check" ∷ [] = sym x.are ∙ y in absurd (cc no)
run-settling-once words steps CertifySettling x y = let no : codes "run" ∷ codes "--settling" ∷ x.options ≡ codes "certify" ∷ codes "--settling" ∷ [] = sym x.are ∙ y in absurd (cc no)
run-settling-once words steps CheckSettling x y = let no : codes "run" ∷ codes "--settling" ∷ x.options ≡ codes "check" ∷ codes "--settling" ∷ [] = sym x.are ∙ y in absurd (cc no)
run-settling-once words m (Run n) x y =
    let both : codes "run" ∷ y.options ≡ codes "run" ∷ codes "--settling" ∷ x.options = sym y.are ∙ x.are in
    let behind : y.options ≡ codes "--settling" ∷ x.options = cc both in
    absurd (limit-not-settling behind y.limited)
run-settling-once words m (RunSettling n) x y =
    let both : codes "run" ∷ codes "--settling" ∷ x.options ≡ codes "run" ∷ codes "--settling" ∷ y.options = sym x.are ∙ y.are in
    let options : x.options ≡ y.options = cc both in
    ap (λ (k : ℕ). RunSettling k) (limit-once options x.limited y.limited)
run-settling-once words m (RunUnchecked options) x y = absurd (settling-not-unchecked x.are y.are)

run-unchecked-once : (words : List (List ℕ)) (m : Options) (d : Command) → IsCommand words (RunUnchecked m) → IsCommand words d → RunUnchecked m ≡ d
run-unchecked-once words options Meta x y = let no : codes "run" ∷ codes "--unchecked" ∷ x.word ∷ x.options ≡ codes "meta" ∷ [] = sym x.are ∙ y in absurd (cc no)
run-unchecked-once words options Certify x y = let no : codes "run" ∷ codes "--unchecked" ∷ x.word ∷ x.options ≡ codes "certify" ∷ [] = sym x.are ∙ y in absurd (cc no)
run-unchecked-once words options Check x y = let no : codes "run" ∷ codes "--unchecked" ∷ x.word ∷ x.options ≡ codes "check" ∷ [] = sym x.are ∙ y in absurd (cc no)
run-unchecked-once words options CertifySettling x y = let no : codes "run" ∷ codes "--unchecked" ∷ x.word ∷ x.options ≡ codes "certify" ∷ codes "--settling" ∷ [] = sym x.are ∙ y in absurd (cc no)
run-unchecked-once words options CheckSettling x y = let no : codes "run" ∷ codes "--unchecked" ∷ x.word ∷ x.options ≡ codes "check" ∷ codes "--settling" ∷ [] = sym x.are ∙ y in absurd (cc no)
run-unchecked-once words options (Run n) x y =
    let both : codes "run" ∷ y.options ≡ codes "run" ∷ codes "--unchecked" ∷ x.word ∷ x.options = sym y.are ∙ x.are in
    let behind : y.options ≡ codes "--unchecked" ∷ x.word ∷ x.options = cc both in
    absurd (limit-other behind y.limited)
run-unchecked-once words options (RunSettling n) x y = absurd (settling-not-unchecked y.are x.are)
run-unchecked-once words m (RunUnchecked n) x y =
    let both : codes "run" ∷ codes "--unchecked" ∷ x.word ∷ x.options ≡ codes "run" ∷ codes "--unchecked" ∷ y.word ∷ y.options = sym x.are ∙ y.are in
    let word : x.word ≡ y.word = cc both in
    let options : x.options ≡ y.options = cc both in
    let depth : m.depth ≡ n.depth = number-once word x.deep y.deep in
    let steps : m.steps ≡ n.steps = limit-once options x.limited y.limited in
    ap (λ (k : ℕ). RunUnchecked (record { depth = k; steps = m.steps })) depth ∙ ap (λ (k : ℕ). RunUnchecked (record { depth = n.depth; steps = k })) steps

command-once : (words : List (List ℕ)) (c d : Command) → IsCommand words c → IsCommand words d → c ≡ d
command-once words Meta d x y = meta-once words d x y
command-once words Certify d x y = certify-once words d x y
command-once words Check d x y = check-once words d x y
command-once words CertifySettling d x y = certify-settling-once words d x y
command-once words CheckSettling d x y = check-settling-once words d x y
command-once words (Run m) d x y = run-once words m d x y
command-once words (RunSettling m) d x y = run-settling-once words m d x y
command-once words (RunUnchecked m) d x y = run-unchecked-once words m d x y

-- so with `--wide` in front
line-once : (words : List (List ℕ)) (c d : Command) (v w : Bool) → IsLineOf words c v → IsLineOf words d w → line_of c v ≡ line_of d w
line-once words c d true true x y =
    let rest : x.rest ≡ y.rest = after_first words x.rest y.rest _ _ x.are y.are in
    ap (λ (k : Command). line_of k true) (command-once y.rest c d (subst (λ ws. IsCommand ws c) rest x.is) y.is)
line-once words c d true false x y = absurd (not_wide words x.rest d x.are y)
line-once words c d false true x y = absurd (not_wide words y.rest c y.are x)
line-once words c d false false x y = ap (λ (k : Command). line_of k false) (command-once words c d x y)

-- ---- each step comes to one thing

abbrev Never : {X F : Type 0} → Result X F → Type 0
Never r = ⊥

says-once : (words : List (List ℕ)) → OneOf Never (Says words)
says-once words (Ok c) (Ok d) x y = inr (inr (ap (λ (line : CommandLine). Ok line) (line-once words c.command d.command c.is_wide d.is_wide x y)))
says-once words (Ok c) (Err none) x y = absurd (y c x)
says-once words (Err none) (Ok d) x y = absurd (x d y)
says-once words (Err none) (Err other) x y = inr (inr refl)

input-once : (input : Result (List ℕ) InputFault) → OneOf Never (Is input)
input-once input a b x y = inr (inr (x ∙ sym y))

cuts-once : (command : Command) (input : List ℕ) → OneOf Never (Cuts command input)
cuts-once command input (Ok xs) (Ok ys) x y = inr (inr (ap (λ (texts : List (List ℕ)). Ok texts) (texts_once input xs ys x.1 y.1)))
cuts-once command input (Ok xs) (Err Words) x y = absurd y
cuts-once command input (Ok xs) (Err TooLarge) x y = absurd (omega (arith, x.0, y))
cuts-once command input (Ok xs) (Err (Texts n)) x y = absurd (y.2 xs x.1 x.2)
cuts-once command input (Err Words) b x y = absurd x
cuts-once command input (Err TooLarge) (Ok ys) x y = absurd (omega (arith, y.0, x))
cuts-once command input (Err TooLarge) (Err Words) x y = absurd y
cuts-once command input (Err TooLarge) (Err TooLarge) x y = inr (inr refl)
cuts-once command input (Err TooLarge) (Err (Texts n)) x y = absurd (omega (arith, y.0, x))
cuts-once command input (Err (Texts m)) (Ok ys) x y = absurd (x.2 ys y.1 y.2)
cuts-once command input (Err (Texts m)) (Err Words) x y = absurd y
cuts-once command input (Err (Texts m)) (Err TooLarge) x y = absurd (omega (arith, x.0, y))
cuts-once command input (Err (Texts m)) (Err (Texts n)) x y =
    let same : m ≡ n = x.1 ∙ sym y.1 in
    inr (inr (ap (λ (k : ℕ). Err (Texts k)) same))

-- ---- the commands on programs

-- each thing but that memory ran out is the same as itself
same-or-short : (a : ProgramOutcome) → IsShortOfProgram a ⊎ IsSameOfProgram a a
same-or-short (of_program.Refused r) = inr refl
same-or-short (of_program.Classes p) = inr refl
same-or-short (of_program.Certificate c) = inr refl
same-or-short (of_program.Uncertified p (why.Wire k)) = inr (refl, refl)
same-or-short (of_program.Uncertified p (why.BodyType spot)) = inr (refl, refl)
same-or-short (of_program.Uncertified p (why.Cycle nodes)) = inr (refl, tt)
same-or-short (of_program.Uncertified p (why.DestroyPath nodes)) = inr (refl, tt)
same-or-short (of_program.Uncertified p (why.TooHigh nodes)) = inr (refl, tt)
same-or-short (of_program.Uncertified p why.Memory) = inl (record { line = refl; status_is = refl })
same-or-short (of_program.Valid checked) = inr refl
same-or-short (of_program.Settling (settling.Certificate p text)) = inr refl
same-or-short (of_program.Settling (settling.Uncertified p w)) = inr refl
same-or-short (of_program.Settling (settling.Valid checked)) = inr refl

abbrev OneProgram : (ProgramOutcome → Type 0) → Type 0
OneProgram ComesTo = (a b : ProgramOutcome) → ComesTo a → ComesTo b → IsShortOfProgram a ⊎ IsShortOfProgram b ⊎ IsSameOfProgram a b

by-equal : {ComesTo : ProgramOutcome → Type 0} → OneOf IsShortOfProgram ComesTo → OneProgram ComesTo
by-equal one a b x y = elim (one a b x y) [
  | inl s ↦ inl s
  | inr rest ↦ elim rest [
    | inl s ↦ inr (inl s)
    | inr same ↦ elim (same-or-short a) [
      | inl s ↦ inl s
      | inr own ↦ inr (inr (subst (λ (o : ProgramOutcome). IsSameOfProgram a o) same own))
    ]
  ]
]

of-program : {N : Type 0} {ComesTo : ProgramOutcome → Type 0} → OneProgram ComesTo → OneAs {R = Outcome (Seen N)} IsShort IsSameOutcome (IsOfProgram ComesTo)
of-program {N} one a b x y = elim (one x.told y.told x.comes y.comes) [
  | inl s ↦ inl (subst IsShort (sym x.is) (record { line = s.line; status_is = s.status_is }))
  | inr rest ↦ elim rest [
    | inl s ↦ inr (inl (subst IsShort (sym y.is) (record { line = s.line; status_is = s.status_is })))
    | inr same ↦ inr (inr (subst (λ (o : Outcome (Seen N)). IsSameOutcome o b) (sym x.is) (subst (λ (o : Outcome (Seen N)). IsSameOutcome (Program x.told) o) (sym y.is) same)))
  ]
]

-- ---- all commands

does-once : {N : Type 0} (limits : Limits) (gives : N → NativeAnswers) (heads : List NativeHead) (natives : N) → AnswersOnce (gives natives) → (command : Command) (texts : List (List ℕ)) →
    OneAs IsShort IsSameOutcome (Does limits gives heads natives command texts)
does-once limits gives heads natives once Meta (program ∷ []) = of-program (by-equal (one_description limits program))
does-once limits gives heads natives once Certify (program ∷ []) = of-program (one_certifying limits program)
does-once limits gives heads natives once Check (program ∷ certificate ∷ []) = of-program (by-equal (one_check limits program certificate))
does-once limits gives heads natives once CertifySettling (program ∷ []) = of-program (one_settling_certifying limits program)
does-once limits gives heads natives once CheckSettling (program ∷ certificate ∷ []) = of-program (by-equal (one_settling_check limits program certificate))
does-once limits gives heads natives once (Run steps) (program ∷ certificate ∷ script ∷ []) = λ a b x y. one_run_outcome gives limits heads natives program certificate script steps a b once x y
does-once limits gives heads natives once (RunSettling steps) (program ∷ certificate ∷ script ∷ []) = λ a b x y. one_settling_run_outcome gives limits heads natives program certificate script steps a b once x y
does-once limits gives heads natives once (RunUnchecked options) (program ∷ script ∷ []) = λ a b x y. one_unchecked_outcome gives limits heads natives program script options.depth options.steps a b once x y
does-once limits gives heads natives once command texts = λ a b x y. absurd x

pub one_command_outcome : {N : Type 0} (gives : N → NativeAnswers) → OneCommandOutcome gives
one_command_outcome gives heads natives words input a b once =
    same_first Never IsShort IsSameOutcome (says-once words) (λ none s. absurd s) (λ c s. s) (λ none. refl)
    (λ line said. same_first Never IsShort IsSameOutcome (input-once input) (λ fault s. absurd s) (λ bytes s. s) (λ fault. refl)
    (λ bytes read. same_first Never IsShort IsSameOutcome (cuts-once line.command bytes) (λ fault s. absurd s) (λ texts s. s) (λ fault. refl)
    (λ texts cut. does-once (limits_of line.is_wide) gives heads natives once line.command texts))) a b
