-- The postponed processes are ready, or else the updates that are due are activated.
use Rattle.std.proofs.Common.{ℕ, ◌+◌, ◌<◌, length, map, refl, sym, ap, subst, ◌∙◌, Vec, Global, arith}
use Rattle.std.specs.List.{list_any}
use Rattle.std.proofs.lemmas.List.{length-map}
use Rattle.v_design.specs.Plain.{due_of}
use Rattle.v_design.specs.declared.plan.Due.{Due}
use Rattle.process_code.specs.declared.state.ProcState.{ProcState as StateKept}
use Rattle.moment_parts.specs.Lanes.{lane_left}
use Rattle.moment_parts.specs.Turned.{at_postponed}
use Rattle.passed_blocks.specs.moment_laws.Passing.{TakesTurn}
use Rattle.passed_blocks.specs.moment_laws.Places.{IsShownAt}
use Rattle.passed_blocks.specs.moment_laws.Shown.{HasCounts}
use Rattle.good_moment.specs.Kept.{kept_of}
use Rattle.good_moment.proofs.Parts.{view-old}
use Rattle.good_moment.proofs.Phases.{phase-fits}
use Rattle.good_moment.proofs.moment.GoodMoment.pass_turn.Goals as goal

pub overflow_add-next : goal.overflow_add-next
overflow_add-next g c =
    let fits : c.self.inside.place.phase + 1 < c.phases-phases.result =
    phase-fits c.turns_are_shown.ensures g.N.World.design g.N.World.plan c.args.window.now.before c.args.window.now.through c.phases-phases.result _ c.args.self.now c.self.view_is c.requires.window
    c.requires.place c.phases-phases.ensures in
    omega (arith, fits)

pub activate_all-requires : goal.activate_all-requires
activate_all-requires g c =
    let s = c.self.inside in
    let counts : HasCounts g.N.World.design (kept_of s.place s.time s.values.items s.standing s.passed) =
    subst (λ k. HasCounts g.N.World.design k) (sym c.self.view_is) c.requires.place.shown.shows.counts in
    sym (length-map s.standing.later.items (λ (l : Vec Due Global). map due_of l.items)) ∙ counts.later ∙ sym counts.lanes ∙ length-map s.standing.lanes.items lane_left

pub returns-then-some_postponed : goal.returns-then-some_postponed
returns-then-some_postponed g c place next later shown none more =
    let design = g.N.World.design in
    let plan = g.N.World.plan in
    let s = c.self.inside in
    let kept = kept_of s.place s.time s.values.items s.standing s.passed in
    view-old (TakesTurn design plan place next later) kept c.args.self.now _ c.self.view_is
    (c.turns_are_shown.ensures.resumes design plan c.codes-codes.result.now place next later kept _ c.codes-codes.ensures.world
    (subst (λ k. IsShownAt design plan place k) (sym c.self.view_is) shown) none more
    (record { before = refl; through = refl; slot = refl; phase = refl; moment = refl; time = refl; values = refl; runs = refl; ran_count = c.begin_count.ensures.count; ran = c.begin_count.ensures.none })
    (record { some = ap (list_any (λ (state : StateKept). at_postponed state.stage)) (sym c.deref.ensures.value) ∙ sym c.some_postponed.ensures ∙ c.if-some_postponed.true; states = c.resume.ensures; later = refl; lanes = refl }))

pub returns : goal.returns
returns g c place next later shown none more =
    let design = g.N.World.design in
    let plan = g.N.World.plan in
    let s = c.self.inside in
    let kept = kept_of s.place s.time s.values.items s.standing s.passed in
    let made = c.in_ok-activate_all.ensures in
    view-old (TakesTurn design plan place next later) kept c.args.self.now _ c.self.view_is
    (c.turns_are_shown.ensures.activates design plan c.codes-codes.result.now place next later kept _ c.codes-codes.ensures.world
    (subst (λ k. IsShownAt design plan place k) (sym c.self.view_is) shown) none more
    (record {
      before = refl;
      through = refl;
      slot = refl;
      phase = refl;
      moment = refl;
      time = refl;
      values = refl;
      runs = refl;
      ran_count = c.begin_count-2.ensures.count ∙ ap (λ (v : Vec ℕ Global). length v.items) made.ran;
      ran = c.begin_count-2.ensures.none;
    })
    (record {
      none = ap (list_any (λ (state : StateKept). at_postponed state.stage)) (sym c.deref.ensures.value) ∙ sym c.some_postponed.ensures ∙ c.if-some_postponed.false;
      states = ap (λ (v : Vec StateKept Global). v.items) made.states;
      later_count =
          length-map c.activate_all.new.standing.later.items (λ (l : Vec Due Global). map due_of l.items) ∙ made.later_count ∙ sym (length-map s.standing.later.items (λ (l : Vec Due Global). map due_of l.items));
      lane_count = length-map c.activate_all.new.standing.lanes.items lane_left ∙ made.lane_count ∙ sym (length-map s.standing.lanes.items lane_left);
      later = made.later;
      lanes = made.lanes;
    }))
