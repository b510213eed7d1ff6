use Rattle.connections.proofs.Asked.{LeadToEach-numbered, LeadToEach-either}
use Rattle.connections.proofs.removing.places_for.Goals as goal

pub place_of_number-requires : goal.place_of_number-requires
place_of_number-requires c = rw c.deref.ensures.value c.requires

pub returns-in-Numbered : goal.returns-in-Numbered
returns-in-Numbered c = λ cells last l.
    rw c.in-Numbered.is (LeadToEach-numbered cells c.args.lists.now last c.in-Numbered.number c.place_of_number.result.now
    (λ p among same. c.place_of_number.ensures.held p (rw c.deref.ensures.value among) same) l)

pub returns-in-Between : goal.returns-in-Between
returns-in-Between c = λ cells last l.
    rw c.in-Between.is (LeadToEach-either cells c.args.lists.now last c.in-Between.sender c.in-Between.signal c.in-Between.receiver _ c.of_either.result.now l c.of_either.ensures)
