use Rattle.std.proofs.Common.{sym, ◌∙◌, ap}
use Rattle.basic_types.specs.Normal.{normal_of}
use Rattle.basic_types.specs.Signatures.{spell_named, spell_ending}
use Rattle.signatures.proofs.scanner.Scanner.kind.Goals as goal

pub returns-in-Some-normal-clause-read : goal.returns-in-Some-normal-clause-read
returns-in-Some-normal-clause-read c =
    let place = c.in-Some.place in
    let name = c.in-Some.name.now in
    let ending = c.ending-ending.result in
    record {
      reading = record { place = place; name = name; ending = ending };
      spelled = c.in-Some.ensures.spelled ∙ ap (spell_named place name) (c.ending-ending.ensures.spelled ∙ ap (spell_ending ending) c.in-Some-ends_list.ensures.found);
      normal = record { named = c.in-Some.ensures.named; normal = sym (c.in-Some-normal.ensures ∙ ap (λ n. normal_of n place ending) c.in_ok-name.ensures) };
    }
