use Rattle.std.proofs.Common.{◌<◌, ◌≤◌, [], ◌∷◌, length, refl, arith}
use Rattle.program_commands.specs.Steps.{fails, goes_on}
use Rattle.command_lines.specs.declared.usage.UsageFault.TheVariants.{TooLarge, Texts}
use Rattle.trace_tool.proofs.Answering.{one_only, two_only, three_only}
use Rattle.trace_tool.proofs.Preparing.{done-now, done-prepares, prepares-as}
use Rattle.trace_tool.proofs.any_machine.command_line.prepare.Goals as goal

pub returns-then-input-gt-LARGEST_INPUT : goal.returns-then-input-gt-LARGEST_INPUT
returns-then-input-gt-LARGEST_INPUT g c =
    let long : 67108864 < length c.args.input.now = omega (arith, c.if-input-gt-LARGEST_INPUT.true) in
    done-now _ _ _ (fails TooLarge long)

pub returns-in-Some : goal.returns-in-Some
returns-in-Some g c =
    let few : length c.args.input.now ≤ 67108864 = omega (arith, c.if-input-gt-LARGEST_INPUT.false) in
    rw c.in-Meta.is (done-prepares _ _ _ c.of_program.ensures (goes_on (c.in-Some.program.now ∷ []) _ (few, c.in-Some.ensures.cut, refl) (record { told = c.meta_outcome.result; comes = c.meta_outcome.ensures; is = refl })))

pub returns-in-Meta : goal.returns-in-Meta
returns-in-Meta g c =
    let few : length c.args.input.now ≤ 67108864 = omega (arith, c.if-input-gt-LARGEST_INPUT.false) in
    rw c.in-Meta.is (done-now _ _ _ (fails (Texts 1) (few, refl, one_only _ (rw c.in-None.is at c.one_text.ensures.cut))))

pub returns-in-Some-one_text : goal.returns-in-Some-one_text
returns-in-Some-one_text g c =
    let few : length c.args.input.now ≤ 67108864 = omega (arith, c.if-input-gt-LARGEST_INPUT.false) in
    rw c.in-Certify.is (done-prepares _ _ _ c.of_program-in-Some-one_text.ensures (goes_on (c.in-Some-one_text.program.now ∷ []) _ (few, c.in-Some-one_text.ensures.cut, refl) (record { told = c.certify_outcome.result; comes = c.certify_outcome.ensures; is = refl })))

pub returns-in-Certify : goal.returns-in-Certify
returns-in-Certify g c =
    let few : length c.args.input.now ≤ 67108864 = omega (arith, c.if-input-gt-LARGEST_INPUT.false) in
    rw c.in-Certify.is (done-now _ _ _ (fails (Texts 1) (few, refl, one_only _ (rw c.in-None-one_text.is at c.one_text-in-Certify.ensures.cut))))

pub returns-in-Some-two_texts : goal.returns-in-Some-two_texts
returns-in-Some-two_texts g c =
    let few : length c.args.input.now ≤ 67108864 = omega (arith, c.if-input-gt-LARGEST_INPUT.false) in
    rw c.in-Check.is (done-prepares _ _ _ c.of_program-in-Some-two_texts.ensures (goes_on (c.in-Some-two_texts.program.now ∷ c.in-Some-two_texts.certificate.now ∷ []) _ (few, c.in-Some-two_texts.ensures.cut, refl) (record { told = c.check_outcome.result; comes = c.check_outcome.ensures; is = refl })))

pub returns-in-Check : goal.returns-in-Check
returns-in-Check g c =
    let few : length c.args.input.now ≤ 67108864 = omega (arith, c.if-input-gt-LARGEST_INPUT.false) in
    rw c.in-Check.is (done-now _ _ _ (fails (Texts 2) (few, refl, two_only _ (rw c.in-None-two_texts.is at c.two_texts.ensures.cut))))

pub returns-in-Some-one_text-2 : goal.returns-in-Some-one_text-2
returns-in-Some-one_text-2 g c =
    let few : length c.args.input.now ≤ 67108864 = omega (arith, c.if-input-gt-LARGEST_INPUT.false) in
    rw c.in-CertifySettling.is (done-prepares _ _ _ c.of_program-in-Some-one_text-2.ensures (goes_on (c.in-Some-one_text-2.program.now ∷ []) _ (few, c.in-Some-one_text-2.ensures.cut, refl) (record { told = c.certify_settling_outcome.result; comes = c.certify_settling_outcome.ensures; is = refl })))

pub returns-in-CertifySettling : goal.returns-in-CertifySettling
returns-in-CertifySettling g c =
    let few : length c.args.input.now ≤ 67108864 = omega (arith, c.if-input-gt-LARGEST_INPUT.false) in
    rw c.in-CertifySettling.is (done-now _ _ _ (fails (Texts 1) (few, refl, one_only _ (rw c.in-None-one_text-2.is at c.one_text-in-CertifySettling.ensures.cut))))

pub returns-in-Some-two_texts-2 : goal.returns-in-Some-two_texts-2
returns-in-Some-two_texts-2 g c =
    let few : length c.args.input.now ≤ 67108864 = omega (arith, c.if-input-gt-LARGEST_INPUT.false) in
    rw c.in-CheckSettling.is (done-prepares _ _ _ c.of_program-in-Some-two_texts-2.ensures (goes_on (c.in-Some-two_texts-2.program.now ∷ c.in-Some-two_texts-2.certificate.now ∷ []) _ (few, c.in-Some-two_texts-2.ensures.cut, refl) (record { told = c.check_settling_outcome.result; comes = c.check_settling_outcome.ensures; is = refl })))

pub returns-in-CheckSettling : goal.returns-in-CheckSettling
returns-in-CheckSettling g c =
    let few : length c.args.input.now ≤ 67108864 = omega (arith, c.if-input-gt-LARGEST_INPUT.false) in
    rw c.in-CheckSettling.is (done-now _ _ _ (fails (Texts 2) (few, refl, two_only _ (rw c.in-None-two_texts-2.is at c.two_texts-in-CheckSettling.ensures.cut))))

pub returns-in-Some-three_texts : goal.returns-in-Some-three_texts
returns-in-Some-three_texts g c =
    let few : length c.args.input.now ≤ 67108864 = omega (arith, c.if-input-gt-LARGEST_INPUT.false) in
    rw c.in-Run.is (prepares-as _ _ (λ end comes. goes_on (c.in-Some-three_texts.program.now ∷ c.in-Some-three_texts.certificate.now ∷ c.in-Some-three_texts.script.now ∷ []) _ (few, c.in-Some-three_texts.ensures.cut, refl) comes) c.prepare_run.ensures)

pub returns-in-Run : goal.returns-in-Run
returns-in-Run g c =
    let few : length c.args.input.now ≤ 67108864 = omega (arith, c.if-input-gt-LARGEST_INPUT.false) in
    rw c.in-Run.is (done-now _ _ _ (fails (Texts 3) (few, refl, three_only _ (rw c.in-None-three_texts.is at c.three_texts.ensures.cut))))

pub returns-in-Some-three_texts-2 : goal.returns-in-Some-three_texts-2
returns-in-Some-three_texts-2 g c =
    let few : length c.args.input.now ≤ 67108864 = omega (arith, c.if-input-gt-LARGEST_INPUT.false) in
    rw c.in-RunSettling.is (prepares-as _ _ (λ end comes. goes_on (c.in-Some-three_texts-2.program.now ∷ c.in-Some-three_texts-2.certificate.now ∷ c.in-Some-three_texts-2.script.now ∷ []) _ (few, c.in-Some-three_texts-2.ensures.cut, refl) comes) c.prepare_settling_run.ensures)

pub returns-in-RunSettling : goal.returns-in-RunSettling
returns-in-RunSettling g c =
    let few : length c.args.input.now ≤ 67108864 = omega (arith, c.if-input-gt-LARGEST_INPUT.false) in
    rw c.in-RunSettling.is (done-now _ _ _ (fails (Texts 3) (few, refl, three_only _ (rw c.in-None-three_texts-2.is at c.three_texts-in-RunSettling.ensures.cut))))

pub returns-in-Some-two_texts-3 : goal.returns-in-Some-two_texts-3
returns-in-Some-two_texts-3 g c =
    let few : length c.args.input.now ≤ 67108864 = omega (arith, c.if-input-gt-LARGEST_INPUT.false) in
    rw c.in-RunUnchecked.is (prepares-as _ _ (λ end comes. goes_on (c.in-Some-two_texts-3.program.now ∷ c.in-Some-two_texts-3.script.now ∷ []) _ (few, c.in-Some-two_texts-3.ensures.cut, refl) comes) c.prepare_unchecked_run.ensures)

pub returns : goal.returns
returns g c =
    let few : length c.args.input.now ≤ 67108864 = omega (arith, c.if-input-gt-LARGEST_INPUT.false) in
    rw c.in-RunUnchecked.is (done-now _ _ _ (fails (Texts 2) (few, refl, two_only _ (rw c.in-None-two_texts-3.is at c.two_texts-in-RunUnchecked.ensures.cut))))
