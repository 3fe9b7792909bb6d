-- One update less in a lane.
use Rattle.std.proofs.Common.{◌≡◌, ◌<◌, length, refl, sym, subst, arith}
use Rattle.std.proofs.lemmas.List.{length-map}
use Rattle.vf_base.specs.Base.{process_number}
use Rattle.moment_parts.specs.Lanes.{lane_left}
use Rattle.passed_blocks.specs.moment_laws.Shown.{MomentKept}
use Rattle.good_moment.specs.Kept.{kept_of}
use Rattle.passed_blocks.specs.moment_laws.Steps.{TakesUpdate}
use Rattle.good_moment.proofs.Parts.{lane-put, view-old}
use Rattle.good_moment.proofs.moment.GoodMoment.take_update.Goals as goal

pub returns : goal.returns
returns g c =
    let s = c.self.inside in
    let q = process_number c.args.process in
    let kept = kept_of s.place s.time s.values.items s.standing s.passed in
    let low : q < length s.standing.lanes.items =
    (let e : length kept.lanes ≡ length s.standing.lanes.items = length-map s.standing.lanes.items lane_left in
    let r : q < length kept.lanes = subst (λ (k : MomentKept). q < length k.lanes) (sym c.self.view_is) c.requires.lane in omega (arith, e, r)) in
    view-old (TakesUpdate q) kept c.args.self.now _ c.self.view_is
    (record {
      same = record { before = refl; through = refl; slot = refl; phase = refl; moment = refl; time = refl; values = refl; changed = refl };
      processes = refl;
      lanes = lane-put s.standing.lanes.items q c.index_mut.result.now c.take.new.self low c.index_mut.ensures.value c.take.ensures;
      lane = refl;
      runs = refl;
      acted = refl;
    })
