-- Fault by fault.
use Rattle.std.proofs.Common.{◌≡◌, ℕ, ◌+◌, ◌<◌, ◌≤◌, List, ◌∷◌, ◌++◌, [], length, take, get_or, refl, sym, ap, subst, ◌∙◌}
use Rattle.std.specs.List.{AllZip}
use Rattle.std.proofs.lemmas.List.{take_all, take_more}
use Rattle.v_design.specs.PlainDesigns.{plan_of}
use Rattle.v_design.specs.RulesHold.{plan_rules_hold}
use Rattle.strobe_detect.specs.declared.hard.Hard.{Hard}
use Rattle.kept_samples.specs.declared.kept.Kept.{Kept}
use Rattle.kept_samples.specs.declared.kept.Sample.{Sample}
use Rattle.vf_dict.specs.SideBySide.{AreBeside, IsHardOf}
use Rattle.vf_dict.proofs.Listing.{zip-push}
use Rattle.vf_dict.proofs.HardTimes.{are-hard, are-parts}
use Rattle.vf_dict.proofs.hard.hard_strobes.Goals as goal

-- one fault more
zip-more : (good : List Sample) (kept : List Kept) (hard : List Hard) (index : ℕ) (own : Kept) (one : Hard) → index < length kept → own ≡ get_or kept index own →
    AllZip (IsHardOf good) (take index kept) hard → IsHardOf good own one →
    AllZip (IsHardOf good) (take (index + 1) kept) (hard ++ one ∷ [])
zip-more good kept hard index own one below is so h =
    subst (λ (l : List Kept). AllZip (IsHardOf good) l (hard ++ one ∷ [])) (sym (take_more kept index own below ∙ ap (λ x. take index kept ++ x ∷ []) (sym is)))
    (zip-push (IsHardOf good) (take index kept) hard own one so h)

-- all of them
zip-all : (good seen : List Sample) (faults kept : List Kept) (hard : List Hard) (index : ℕ) → seen ≡ good → kept ≡ faults → length kept ≤ index → AllZip (IsHardOf seen) (take index kept) hard →
    AllZip (IsHardOf good) faults hard
zip-all good seen faults kept hard index g k past so =
    subst (λ (l : List Kept). AllZip (IsHardOf good) l hard) (take_all index kept past ∙ k) (subst (λ (l : List Sample). AllZip (IsHardOf l) (take index kept) hard) g so)

pub faults-init : goal.faults-init
faults-init c = subst (λ (items : List Hard). AllZip (IsHardOf c.as_slice-good.result.now) (take 0 c.as_slice-kept-items.result.now) items) (sym c.new-hard.ensures.items) tt

pub faults-preserved : goal.faults-preserved
faults-preserved c =
    subst (λ (items : List Hard). AllZip (IsHardOf c.as_slice-good.result.now) (take (c.faults.kept-index + 1) c.as_slice-kept-items.result.now) items) (sym c.in_ok-push.ensures.items)
    (zip-more c.as_slice-good.result.now c.as_slice-kept-items.result.now c.faults.hard.items c.faults.kept-index c.kept-item.result
    (record { fault = c.kept-item.result.fault; times = c.from_vec.result }) c.faults-test.true c.kept-item.is c.faults.invariant
    (record {
      fault = refl;
      times = λ seen faulty strobes test b. c.from_vec.ensures ∙ c.in_ok-times.ensures seen faulty strobes test
          (subst (λ (l : List Sample). AreBeside c.as_slice-good.result.now l seen faulty strobes test) (sym c.as_slice.ensures) b);
    }))

pub returns-clause-hard : goal.returns-clause-hard
returns-clause-hard c = λ design is.
    are-hard design (plan_of c.args.plan.now) c.args.dictionary.now c.faults.hard.items (plan_rules_hold (plan_of c.args.plan.now) c.args.plan.now.rules) is
    (zip-all c.args.dictionary.now.good c.as_slice-good.result.now c.args.dictionary.now.faults c.as_slice-kept-items.result.now c.faults.hard.items c.faults.kept-index c.as_slice-good.ensures
    c.as_slice-kept-items.ensures c.faults-test.false c.faults.invariant)

pub returns-clause-parts : goal.returns-clause-parts
returns-clause-parts c = λ design is.
    let rules = plan_rules_hold (plan_of c.args.plan.now) c.args.plan.now.rules in
    are-parts design (plan_of c.args.plan.now) c.faults.hard.items rules
    (are-hard design (plan_of c.args.plan.now) c.args.dictionary.now c.faults.hard.items rules is
    (zip-all c.args.dictionary.now.good c.as_slice-good.result.now c.args.dictionary.now.faults c.as_slice-kept-items.result.now c.faults.hard.items c.faults.kept-index c.as_slice-good.ensures
    c.as_slice-kept-items.ensures c.faults-test.false c.faults.invariant)).times
