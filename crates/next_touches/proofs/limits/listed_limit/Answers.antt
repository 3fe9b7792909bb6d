-- Object by object of those of which a value is listed.
use Rattle.std.proofs.Common.{◌≤◌, List, length, map, sym, ap, subst, ◌∙◌, inl, inr, arith}
use Rattle.std.specs.Prelude.{is_some}
use Rattle.std.proofs.lemmas.Bool.{cases_eq}
use Rattle.std.proofs.lemmas.List.{take_all}
use Rattle.four_value.specs.declared.value.Vec4.{Vec4}
use Rattle.copy_skip.specs.Limits.{AreLeftAlone, IsLeftAlone}
use Rattle.copy_skip.proofs.Limited.{reads-lower}
use Rattle.copy_state.specs.Listed.{entry_of}
use Rattle.copy_state.specs.ListedLaws.{listed-other, listed-own}
use Rattle.copy_state.specs.declared.entry.Entry.{Entry}
use Rattle.trace_window.specs.Moments.{window_events}
use Rattle.next_touches.proofs.limits.listed_limit.Goals as goal

pub objects-init : goal.objects-init
objects-init g c = record { low = omega arith; alone = λ object below kept. (let no : ⊥ = cc in absurd no); known = c.requires.known }

pub object_until-until-requires-clause-there : goal.object_until-until-requires-clause-there
object_until-until-requires-clause-there g c κs within =
    let own = c.own-item.result in
    c.requires.there own.number (ap is_some (listed-own c.args.listed.now c.objects.own-index own c.requires.ascend c.objects-test.true c.own-item.is))

pub objects-preserved : goal.objects-preserved
objects-preserved g c =
    let design = g.N.World.design in
    let events = window_events design g.N.World.plan c.args.window.now.before c.args.window.now.through in
    let listed = c.args.listed.now in
    let place = c.objects.own-index in
    let own = c.own-item.result in
    let inv = c.objects.invariant in
    let least = c.min-least.result in
    let less : least ≤ c.objects.least = (let is = c.min-least.ensures in omega (arith, is)) in
    let until : least ≤ c.object_until-until.result = (let is = c.min-least.ensures in omega (arith, is)) in
    let low = inv.low in
    record {
      low = omega (arith, less, low);
      alone = λ object below kept. elim (cases_eq own.number object) [
        | inl same ↦ subst (λ n. IsLeftAlone design events n c.args.first least) same (reads-lower design events own.number c.args.first c.object_until-until.result least until c.object_until-until.ensures.alone)
        | inr differ ↦
            reads-lower design events object c.args.first c.objects.least least less
            (inv.alone object below (ap is_some (sym (listed-other listed place own object c.objects-test.true c.own-item.is differ)) ∙ kept))
      ];
      known = c.object_until-until.ensures.known;
    }

pub returns-clause-low : goal.returns-clause-low
returns-clause-low g c = c.objects.invariant.low

pub returns-clause-alone : goal.returns-clause-alone
returns-clause-alone g c =
    let design = g.N.World.design in
    subst
    (λ (l : List (Entry Vec4)). AreLeftAlone design (window_events design g.N.World.plan c.args.window.now.before c.args.window.now.through) (map entry_of l) (length design.objects) c.args.first
    c.objects.least)
    (take_all c.objects.own-index c.args.listed.now c.objects-test.false) c.objects.invariant.alone

pub returns-clause-known : goal.returns-clause-known
returns-clause-known g c = c.objects.invariant.known
