use Rattle.std.proofs.Common.{◌∙◌, sym}
use Rattle.class_lang.proofs.Sequences.{property_member, signal_member, slot_member, native_member}
use Rattle.class_lang.proofs.members.next_member.Goals as goal

pub returns-in_ok-property-clause-reads : goal.returns-in_ok-property-clause-reads
returns-in_ok-property-clause-reads c = property_member c.if-eat_opening.ensures.found c.in_ok-property.ensures.reads

pub returns-in_ok-signal-clause-reads : goal.returns-in_ok-signal-clause-reads
returns-in_ok-signal-clause-reads c = signal_member (sym c.if-eat_opening.ensures.found.0 ∙ c.if-eat_opening-2.ensures.found) c.in_ok-signal.ensures.reads

pub returns-in_ok-slot-clause-reads : goal.returns-in_ok-slot-clause-reads
returns-in_ok-slot-clause-reads c = slot_member (sym c.if-eat_opening.ensures.found.0 ∙ (sym c.if-eat_opening-2.ensures.found.0 ∙ c.if-eat_opening-3.ensures.found)) c.in_ok-slot.ensures.reads

pub returns-in_ok-native-clause-reads : goal.returns-in_ok-native-clause-reads
returns-in_ok-native-clause-reads c = native_member (sym c.if-eat_opening.ensures.found.0 ∙ (sym c.if-eat_opening-2.ensures.found.0 ∙ (sym c.if-eat_opening-3.ensures.found.0 ∙ c.if-eat_opening-4.ensures.found))) c.in_ok-native.ensures.reads
