-- The changes and the wakes up to a limit.
use Rattle.std.proofs.Common.{◌≡◌, ℕ, ◌+◌, ◌++◌, length, map, refl, sym, ap, subst, ◌∙◌, arith}
use Rattle.vf_base.specs.Base.{process_number}
use Rattle.v_design.specs.Designs.{good_machine}
use Rattle.good_trace.specs.SlotsTold.{AreWritesOf}
use Rattle.trace_window.specs.Moments.{window_events}
use Rattle.trace_window.specs.Writes.{Written, written_of, writes_from}
use Rattle.moment_parts.specs.Within.{put_all, written_within, AreWoken}
use Rattle.passed_blocks.specs.window_wakes.declared.wake.Wake.{Wake}
use Rattle.passed_blocks.specs.window_wakes.Wakes.{WakeTold}
use Rattle.passed_blocks.specs.moment_laws.Shown.{MomentKept}
use Rattle.passed_blocks.specs.moment_laws.Steps.{woken_within, PutsBlock}
use Rattle.good_moment.specs.Kept.{kept_of}
use Rattle.good_moment.proofs.Parts.{view-old, changes-rise, changes-within, mapped-objects, mapped-processes}
use Rattle.good_moment.proofs.moment.GoodMoment.put_block.Goals as goal

pub within-changes-requires-clause-rise : goal.within-changes-requires-clause-rise
within-changes-requires-clause-rise g c =
    let w = c.args.window.now in
    let slot = c.slot-slot.result in
    changes-rise (good_machine g.N.World.design) (window_events g.N.World.design g.N.World.plan (w.before + slot) (w.before + slot + 1))
    (length (window_events g.N.World.design g.N.World.plan w.before (w.before + slot))) c.changes_in.result.now c.changes_in.ensures.changes

pub within-changes-requires-clause-order : goal.within-changes-requires-clause-order
within-changes-requires-clause-order g c = omega (arith, c.moment-moment.ensures, c.requires.order)

pub returns : goal.returns
returns g c =
    let design = g.N.World.design in
    let plan = g.N.World.plan in
    let s = c.self.inside in
    let kept = kept_of s.place s.time s.values.items s.standing s.passed in
    let w = c.args.window.now in
    let limit = c.args.limit in
    let slot = c.slot-slot.result in
    let moment = c.moment-moment.result in
    let before_is : w.before ≡ kept.before = sym (ap (λ (k : MomentKept). k.before) c.self.view_is ∙ c.requires.window.before_is) in
    let slot_is : slot ≡ kept.slot = c.slot-slot.ensures ∙ sym (ap (λ (k : MomentKept). k.slot) c.self.view_is) in
    let moment_is : moment ≡ kept.moment = c.moment-moment.ensures ∙ sym (ap (λ (k : MomentKept). k.moment) c.self.view_is) in
    let told : ℕ → ℕ → Type 0 =
    λ b n. AreWritesOf (good_machine design) (window_events design plan (b + n) (b + n + 1)) (length (window_events design plan b (b + n))) (map written_of c.changes_in.result.now) in
    let are : AreWritesOf (good_machine design) (window_events design plan (kept.before + kept.slot) (kept.before + kept.slot + 1)) (length (window_events design plan kept.before (kept.before + kept.slot)))
    (map written_of c.changes_in.result.now) = subst (told kept.before) slot_is (subst (λ b. told b slot) before_is c.changes_in.ensures.changes) in
    let written : map written_of c.within-changes.result.now
    ≡ written_within kept.moment limit (writes_from (length (window_events design plan kept.before (kept.before + kept.slot))) are.accesses) =
    subst (λ m. map written_of c.within-changes.result.now ≡ written_within m limit (writes_from (length (window_events design plan kept.before (kept.before + kept.slot))) are.accesses)) moment_is
    (changes-within (good_machine design) (window_events design plan (kept.before + kept.slot) (kept.before + kept.slot + 1)) (length (window_events design plan kept.before (kept.before + kept.slot)))
    moment limit c.changes_in.result.now c.within-changes.result.now are c.within-changes.ensures) in
    let woken : map (λ (wake : Wake). process_number wake.process) c.within-woken.result.now ≡ woken_within kept.moment limit c.args.wakes.now.wakes =
    mapped-processes c.within-woken.result.now ∙ ap (map (λ (wake : WakeTold). wake.process)) c.within-woken.ensures ∙ ap (λ m. woken_within m limit c.args.wakes.now.wakes) moment_is in
    view-old (PutsBlock design plan limit c.args.wakes.now.wakes) kept c.args.self.now _ c.self.view_is
    (record {
      same = record { before = refl; through = refl; slot = refl; phase = refl; moment = refl; time = refl; later = refl; lanes = refl; runs = refl; ran = refl; lane = refl };
      accesses = are.accesses;
      listed = are.listed;
      values = c.in_ok-put_changes.ensures.values ∙ ap (λ l. put_all l kept.values) written;
      changed =
          c.in_ok-put_changes.ensures.changed
          ∙ ap (λ l. kept.changed ++ l) (mapped-objects c.within-changes.result.now ∙ ap (map (λ (write : Written). write.object)) written);
      states = subst (λ l. AreWoken l kept.states c.wake_all.new.states.items) woken c.in_ok-wake_all.ensures.states;
      acted = c.in_ok-wake_all.ensures.acted ∙ ap (λ l. kept.acted ++ l) woken;
    })
