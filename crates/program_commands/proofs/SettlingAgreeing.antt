-- What `certify --settling` writes is agreed to.
use Rattle.std.{proofs.Common.{◌≡◌, ◌⊎◌, inl, inr, ℕ, List, length, Ok, refl, ap, subst, arith}, specs.List.{Contains}}
use Rattle.class_lang.specs.declared.size.Limits.{Limits}
use Rattle.meta_model.specs.Loaded.{Loaded}
use Rattle.certificate_lang.specs.{declared.certificate.NodeName.{NodeName}, Written.{IsWritableNode, IsWritableItem}}
use Rattle.rank_check.proofs.Elements.{element_at}
use Rattle.settling.specs.{declared.certificate.SettlingLine.{SettlingLine}, declared.certificate.SettlingSet.{SettlingSet}, declared.certificate.SettlingCertificate.{SettlingCertificate}, Checks.{Checking}, Valid.{IsValid}}
use Rattle.settling_make.specs.Makes.{IsMade}
use Rattle.settling_texts.{specs.Texts.{settling_text}, specs.Written.{IsWritableLine, IsWritableSet, IsWritable}, proofs.Written.{text_is_read}}
use Rattle.program_commands.{specs.Names.{IsNamedLoaded}, specs.declared.outcome.Outcome.{Outcome}, specs.declared.outcome.Outcome.TheVariants.{Settling}, specs.declared.settling_commands.outcome.SettlingOutcome.TheVariants.{Certificate, Valid}, specs.Loading.{LoadsProgram}, specs.Outcomes.{IsShort}, specs.Settling.{CertifySettlingComesTo, CheckSettlingComesTo, Certifies, made, none, IsSettlingAgreed, SettlingIsAgreed}, specs.Steps.{fails, goes_on}, proofs.NamesLoading.{all_at, loaded_is_named}, proofs.Reading.{read_is_named}, proofs.SettlingHolding.{made_held}, proofs.SettlingOnce.{one_settling_check}, proofs.Stepping.{loads_of}, proofs.Writable.{item_writable, node_writable}}

-- ---- what is made can be written
module _ (p : Loaded) (named : IsNamedLoaded p) where
  module _ (certificate : SettlingCertificate) (valid : IsValid p certificate) (is : IsMade p certificate) where
    line_writable : (line : SettlingLine) → Contains certificate.lines line → IsWritableLine line
    line_writable line stands =
        let node = valid.nothing_else.nodes line stands in
        let low = valid.bounded.ranks line stands in
        let most = valid.bounded.bound in
        let small = valid.bounded.steps line stands in
        let held = (made_held p certificate is).step in
        record {
          node = node_writable p named line.node node.0 node.1;
          rank = omega (arith, low, most);
          step = omega (arith, small, held);
          destroys = all_at IsWritableItem line.destroys (λ k item at. let there = valid.nothing_else.classes line stands item (element_at line.destroys k item at) in item_writable p named item there.0 there.1);
        }

    set_writable : (set : SettlingSet) → Contains certificate.sets set → IsWritableSet set
    set_writable set stands =
        let low = (made_held p certificate is).rounds set stands in
        let some = (made_held p certificate is).some set stands in
        record {
          round = omega (arith, low);
          some = λ empty. let none = ap (λ (names : List NodeName). length names) empty in omega (arith, some, none);
          members = all_at IsWritableNode set.members (λ k name at. let node = valid.nothing_else.members set name stands (element_at set.members k name at) in node_writable p named name node.0 node.1);
        }

    writable : IsWritable certificate
    writable =
        let most = valid.bounded.bound in
        record {
          bound = omega (arith, most);
          step = (made_held p certificate is).step;
          lines = all_at IsWritableLine certificate.lines (λ k line at. line_writable line (element_at certificate.lines k line at));
          sets = all_at IsWritableSet certificate.sets (λ k set at. set_writable set (element_at certificate.sets k set at));
        }

-- ---- the commands
checked_of : Loaded → SettlingCertificate → Checking
checked_of p certificate = record { program = p; certificate = certificate }

agreed : (limits : Limits) (program : List ℕ) (p : Loaded) (certificate : SettlingCertificate) → LoadsProgram limits program (Ok p) → IsValid p certificate → IsMade p certificate
    → CheckSettlingComesTo limits program (settling_text certificate) (Settling (Valid (checked_of p certificate)))
unfolding checked_of
agreed limits program p certificate steps valid is =
    let loads = loads_of steps in
    let named = loaded_is_named loads.program p (read_is_named limits program loads.program loads.reads) loads.builds in
    let read = text_is_read certificate (writable p named certificate valid is) in
    let checked = checked_of p certificate in
    goes_on checked _
    (goes_on (p, certificate) _ (goes_on p _ steps (goes_on certificate _ read refl)) (goes_on checked _ (refl, refl, valid) refl))
    refl

yes_only : (limits : Limits) (program text : List ℕ) (checked : Checking) → CheckSettlingComesTo limits program text (Settling (Valid checked)) → (told : Outcome) → CheckSettlingComesTo limits program text told
    → IsShort told ⊎ (told ≡ Settling (Valid checked))
yes_only limits program text checked agreed told comes =
    elim (one_settling_check limits program text told (Settling (Valid checked)) comes agreed) [
      | inl short ↦ inl short
      | inr (inl short) ↦ let e = short.status_is in absurd (omega (arith, e))
      | inr (inr same) ↦ inr same
    ]

agreed_to : (limits : Limits) (program : List ℕ) (p : Loaded) (certificate : SettlingCertificate) → LoadsProgram limits program (Ok p) → IsValid p certificate → IsMade p certificate
    → IsSettlingAgreed limits program p (settling_text certificate)
unfolding checked_of
agreed_to limits program p certificate steps valid is =
    let yes = agreed limits program p certificate steps valid is in
    record { checked = checked_of p certificate; for = refl; is = refl; agreed = yes; only = λ told comes. yes_only limits program (settling_text certificate) (checked_of p certificate) yes told comes }

module _ (limits : Limits) (program : List ℕ) (p : Loaded) (text : List ℕ) where
  by_making : (q : Loaded) (outcome : Outcome) → LoadsProgram limits program (Ok q) → Certifies q outcome → outcome ≡ Settling (Certificate p text) → IsSettlingAgreed limits program p text
  by_making q outcome steps (made certificate makes flat least) same =
      let first : q ≡ p = cc in
      let second : settling_text certificate ≡ text = cc in
      subst (λ (r : Loaded). IsSettlingAgreed limits program r text) first
      (subst (λ (t : List ℕ). IsSettlingAgreed limits program q t) second (agreed_to limits program q certificate steps makes.0 makes.1))
  by_making q outcome steps (none w reason short) same = absurd (cc)

  by_steps : (outcome : Outcome) → CertifySettlingComesTo limits program outcome → outcome ≡ Settling (Certificate p text) → IsSettlingAgreed limits program p text
  by_steps outcome (fails r bad) same = absurd (cc)
  by_steps outcome (goes_on q end steps certifies) same = by_making q end steps certifies same

pub settling_is_agreed : SettlingIsAgreed
settling_is_agreed limits program p text comes = by_steps limits program p text (Settling (Certificate p text)) comes refl
