-- What is kept of the first fault of the class, or of the fault itself.
use Rattle.std.proofs.Common.{◌≡◌, ◌<◌, ◌≤◌, length, refl, ap, arith, sym, subst, ◌∙◌}
use Rattle.std.specs.Prelude.{slice_get}
use Rattle.std.proofs.lemmas.Bool.{ltb-false}
use Rattle.std.proofs.lemmas.Option.{get_or_from_slice_get, slice_get_read}
use Rattle.vf_base.specs.Base.{fault_number}
use Rattle.vf_base.specs.declared.ids.FaultId.{FaultId}
use Rattle.v_design.specs.PlainDesigns.{design_of}
use Rattle.v_design.specs.RulesHold.{rules_hold}
use Rattle.v_design.specs.WellFormed.{KeepsRules}
use Rattle.fault_shards.specs.Shards.{fault_count, standing_of}
use Rattle.kept_samples.specs.Kept.{Keeps}
use Rattle.kept_samples.specs.declared.kept.Kept.{Kept}
use Rattle.vf_dict.proofs.Left.{left-other, stands-itself, stands-other}
use Rattle.vf_dict.proofs.Listing.{element-at, kept-copied, kept-count, zip-at}
use Rattle.vf_dict.proofs.faults.keep_listed.Goals as goal

pub representative-first-requires : goal.representative-first-requires
representative-first-requires g c =
    let count : fault_count c.args.shards.now ≡ length g.N.World.plan.faults = c.requires.shards.counted in
    let low : fault_number c.args.number < length g.N.World.plan.faults = c.requires.listed in
    omega (arith, count, low)

pub returns-in_ok-copied-in-Some-clause-whole : goal.returns-in_ok-copied-in-Some-clause-whole
returns-in_ok-copied-in-Some-clause-whole g c =
    let design = g.N.World.design in
    let plan = g.N.World.plan in
    let own = element-at plan.faults (fault_number c.args.number) c.requires.listed in
    let class = c.requires.shards.classes (fault_number c.args.number) own.0 own.1 in
    let place : fault_number c.representative-first.result ≡ class.0 =
    c.representative-first.ensures ∙ get_or_from_slice_get (standing_of c.args.shards.now) (fault_number c.args.number) class.0 0 class.1 in
    let there = c.in-Some.ensures.lookup in
    let number : c.in_ok-copied-in-Some.copied.fault ≡ c.args.number = ap (λ (kept : Kept). kept.fault) c.in_ok-copied-in-Some.ensures in
    record {
      fault = own.0;
      listed = ap (λ (n : FaultId). slice_get plan.faults (fault_number n)) number ∙ own.1;
      keeps =
          kept-copied design plan class.3.first own.0 c.in-Some.same.now c.in_ok-copied-in-Some.copied c.args.number c.one_full_class.ensures
          (subst KeepsRules (sym c.design-design.ensures.world) (rules_hold (design_of c.design-design.result.now) c.design-design.result.now.rules)) class.3.alike
          (zip-at (Keeps design plan) (fault_number c.args.number) plan.faults c.args.earlier.now
          (fault_number c.representative-first.result) class.3.first c.in-Some.same.now c.requires.earlier.each
          (ap (slice_get plan.faults) place ∙ class.3.stands)
          (slice_get_read c.args.earlier.now (length c.args.earlier.now) (fault_number c.representative-first.result) c.in-Some.same.now refl there.3.0 (there.3.1 c.in-Some.same.now)))
          c.in_ok-copied-in-Some.ensures;
    }

pub returns-in_ok-copied-in-Some-clause-number : goal.returns-in_ok-copied-in-Some-clause-number
returns-in_ok-copied-in-Some-clause-number g c = ap (λ (kept : Kept). kept.fault) c.in_ok-copied-in-Some.ensures

pub returns-in_ok-copied-in-Some-clause-left : goal.returns-in_ok-copied-in-Some-clause-left
returns-in_ok-copied-in-Some-clause-left g c =
    let design = g.N.World.design in
    let plan = g.N.World.plan in
    let own = element-at plan.faults (fault_number c.args.number) c.requires.listed in
    let class = c.requires.shards.classes (fault_number c.args.number) own.0 own.1 in
    let place : fault_number c.representative-first.result ≡ class.0 =
    c.representative-first.ensures ∙ get_or_from_slice_get (standing_of c.args.shards.now) (fault_number c.args.number) class.0 0 class.1 in
    let there = c.in-Some.ensures.lookup in
    let count : length c.args.earlier.now ≡ fault_number c.args.number = kept-count design plan plan.faults c.args.earlier.now (fault_number c.args.number) c.requires.listed c.requires.earlier in
    let below : fault_number c.representative-first.result < length c.args.earlier.now = there.3.0 in
    left-other design plan (fault_number c.args.number) _
    (stands-other design plan.faults (fault_number c.args.number) class.0 own.0 own.1 class.3 (omega (arith, place, count, below))) c.requires.left

pub next_kept-own-requires-clause-stands : goal.next_kept-own-requires-clause-stands
next_kept-own-requires-clause-stands g c κs within =
    let design = g.N.World.design in
    let plan = g.N.World.plan in
    let own = element-at plan.faults (fault_number c.args.number) c.requires.listed in
    let class = c.requires.shards.classes (fault_number c.args.number) own.0 own.1 in
    let place : fault_number c.representative-first.result ≡ class.0 =
    c.representative-first.ensures ∙ get_or_from_slice_get (standing_of c.args.shards.now) (fault_number c.args.number) class.0 0 class.1 in
    let count : length c.args.earlier.now ≡ fault_number c.args.number = kept-count design plan plan.faults c.args.earlier.now (fault_number c.args.number) c.requires.listed c.requires.earlier in
    let past : length c.args.earlier.now ≤ fault_number c.representative-first.result =
    ltb-false (fault_number c.representative-first.result) (length c.args.earlier.now) (sym c.in-None.ensures.lookup.0) in
    let low : class.0 ≤ fault_number c.args.number = class.2 in
    stands-itself design plan.faults (fault_number c.args.number) class.0 own.0 own.1 class.3 (omega (arith, place, count, past, low))
