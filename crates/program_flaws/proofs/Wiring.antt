-- What wider wires cover, and what no wire covers.
use Rattle.std.proofs.Common.{◌≡◌, ℕ, ◌<◌, List, length, get_or, Some, slice_get, sym, ◌∙◌, subst}
use Rattle.std.proofs.lemmas.Option.{slice_get-get_or}
use Rattle.basic_types.specs.declared.sig.Sig.{Sig}
use Rattle.meta_model.specs.declared.object.MetaWire.{MetaWire}
use Rattle.meta_model.specs.Loaded.{Loaded}
use Rattle.meta_model.specs.Members.{HasSig, CoversBy}
use Rattle.meta_model.specs.Sound.{IsSound, IsSoundWire}
use Rattle.meta_model.proofs.InLists.{in_list}
use Rattle.program_flaws.specs.Wires.{IsWider, LeavesNothing, MayServe, Leaves, IsIdle}
use Rattle.program_flaws.proofs.Classes.{below-of-below, meet, sig-below, sig-above, one-number}

module _ {p : Loaded} (sound : IsSound p) where
  pub wider-leaves-nothing : (wider wire : MetaWire) → IsSoundWire p wider → IsWider p wider wire → LeavesNothing p wider wire
  wider-leaves-nothing wider wire there wide = λ c d signal method kind by.
      let from : HasSig p wire.sender signal wider.signal = subst (HasSig p wire.sender signal) (sym wide.signal) by.from in
      let to : HasSig p wire.receiver method wider.method = subst (HasSig p wire.receiver method) (sym wide.method) by.to in
      record {
        sender = below-of-below by.sender wide.sender;
        receiver = below-of-below by.receiver wide.receiver;
        from = sig-above sound wide.sender there.from from;
        to = sig-above sound wide.receiver there.to to;
        same_kind = wide.kind ∙ by.same_kind;
      }

  -- a wire that covers what another one would cover may serve in its place
  pub covering-serves : (wire wanted : MetaWire) (c d : ℕ) (signal method : Sig) → CoversBy p c signal d method wanted.kind wanted → CoversBy p c signal d method wanted.kind wire → MayServe p wire wanted
  covering-serves wire wanted c d signal method want by = record {
    kind = by.same_kind;
    signal = one-number sound (sig-below sound by.sender by.from) (sig-below sound want.sender want.from);
    method = one-number sound (sig-below sound by.receiver by.to) (sig-below sound want.receiver want.to);
    sender = meet by.sender want.sender;
    receiver = meet by.receiver want.receiver;
  }

  -- beside a wider one at another place a wire is idle
  pub idle : (place other : ℕ) (items : List MetaWire) (d : MetaWire) → items ≡ p.wires → place < length items → Leaves p place (get_or items place d) other → IsIdle p place other
  idle place other items d e inside found =
      let declared = in_list p.wires other found.wider found.beside in
      record {
        wire = get_or items place d;
        at = subst (λ (l : List MetaWire). slice_get l place ≡ Some (get_or items place d)) e (slice_get-get_or items place d inside);
        wider = found.wider;
        beside = found.beside;
        differ = found.differ;
        leaves = wider-leaves-nothing found.wider (get_or items place d) (sound.wires found.wider declared) found.wide;
      }
