-- `bind`.
use Rattle.std.proofs.Common.{◌≡◌, ℕ, List, [], length, Some, Err, sym, ◌∙◌, subst, slice_get}
use Rattle.meta_model.specs.declared.site.MetaSite.{MetaSite}
use Rattle.meta_model.specs.Loaded.{Loaded}
use Rattle.meta_model.specs.Sites.{IsSiteNamed}
use Rattle.object_tree.specs.declared.life.Life.{Life}
use Rattle.script_lang.specs.declared.event.Event.TheVariants.{Bind}
use Rattle.trace_entries.specs.declared.refusal.Refusal.TheVariants.{BadSource}
use Rattle.machine_state.specs.declared.world.World.{World}
use Rattle.machine_state.specs.Worlds.{at}
use Rattle.machine_rules.specs.Judgement.{Numbered, numbered, found, missing, holds, fails, goes_on, ends}
use Rattle.object_machine.specs.declared.not_accepted.NotAccepted.{NotAccepted}
use Rattle.object_machine.specs.code.Judgement.{IsNotAccepted, IsLiving, IsSiteOf}
use Rattle.object_machine.specs.Events.{judged, may_bind, living, all_living}
use Rattle.object_machine.proofs.Judged.{then-ends, then-on}
use Rattle.object_machine.proofs.Judging.Naming.{living-ok}

-- ---- what is named

module _ (p : Loaded) (w : World) (name target : List ℕ) (sources : List (List ℕ)) where
  -- an event whose binding may not be isn't accepted
  pub not-bindable : {n : NotAccepted} → IsNotAccepted (may_bind p (at w []) name target sources) n → IsNotAccepted (judged p (at w []) (Bind name target sources)) n
  not-bindable x = then-ends x

  pub no-site : ((number : ℕ) → ¬ IsSiteNamed p name number) → may_bind p (at w []) name target sources (Err BadSource)
  no-site none = ends (missing (λ n is. none n.number (record { is = record { item = n.it; is = is.0; has = is.1 } })))

  module _ (n : Numbered MetaSite) (is : IsSiteOf p name n) where
    pub other-number : (¬ (length sources ≡ length n.it.formals)) → may_bind p (at w []) name target sources (Err BadSource)
    other-number other = goes_on n (found is) (ends (fails other))

    module _ (many : length sources ≡ length n.it.formals) where
      pub no-target : {r : NotAccepted} → IsNotAccepted (living w.store.tree target) r → IsNotAccepted (may_bind p (at w []) name target sources) r
      no-target x = then-on n (found is) (then-on tt (holds many) (then-ends x))

      pub no-sources : {r : NotAccepted} (o : Numbered Life) → IsLiving w.store.tree target o → IsNotAccepted (all_living w.store.tree sources) r → IsNotAccepted (may_bind p (at w []) name target sources) r
      no-sources o lives x = then-on n (found is) (then-on tt (holds many) (then-on o (living-ok o lives) (then-ends x)))

-- the site that has this name
pub site-found : {p : Loaded} {name : List ℕ} {number : ℕ} (site : MetaSite) → IsSiteNamed p name number → slice_get p.sites number ≡ Some site → IsSiteOf p name (numbered number site)
site-found {name = name} site named is =
    let both : Some named.is.item ≡ Some site = sym named.is.is ∙ is in
    let same : named.is.item ≡ site = cc both in
    let Named : MetaSite → Type 0 = λ s. s.name ≡ name in
    (is, subst Named same named.is.has)
