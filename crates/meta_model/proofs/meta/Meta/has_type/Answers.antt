use Rattle.std.proofs.Common.{refl}
use Rattle.basic_types.specs.Values.{number_has, truth_has, text_has}
use Rattle.meta_model.proofs.meta.Meta.has_type.Goals as goal

pub returns-in-Int-Int : goal.returns-in-Int-Int
returns-in-Int-Int c = λ classes at. (λ t. rw (c.in-Int-Int.is-0, c.in-Int-Int.is-1) number_has, λ h. refl)

pub returns-in-Bool-Bool : goal.returns-in-Bool-Bool
returns-in-Bool-Bool c = λ classes at. (λ t. rw (c.in-Bool-Bool.is-0, c.in-Bool-Bool.is-1) truth_has, λ h. refl)

pub returns-in-Text-Text : goal.returns-in-Text-Text
returns-in-Text-Text c = λ classes at. (λ t. rw (c.in-Text-Text.is-0, c.in-Text-Text.is-1) text_has, λ h. refl)
