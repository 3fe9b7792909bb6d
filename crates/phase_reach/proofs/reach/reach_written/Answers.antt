-- One change more.
use Rattle.std.proofs.Common.{◌<◌, [], ◌∷◌, ◌++◌, map, take, length, sym, ap, subst, ◌∙◌, arith}
use Rattle.std.proofs.lemmas.List.{map-append, take_more}
use Rattle.v_design.specs.PlainDesigns.{design_of}
use Rattle.trace_window.specs.Writes.{written_of}
use Rattle.phase_reach.specs.Reached.{WritesAreReached}
use Rattle.phase_reach.proofs.Loops.{writes-beside, writes-more}
use Rattle.phase_reach.proofs.reach.reach_written.Goals as goal

pub changes-preserved-then-change-first : goal.changes-preserved-then-change-first
changes-preserved-then-change-first c =
    let changes = c.args.changes.now in
    let place = c.changes.place in
    let change = c.index-changes-place.result in
    let design = design_of c.clear.new.self.design in
    let low : place < length changes = omega arith in
    let taken = take_more changes place change low ∙ ap (λ o. take place changes ++ o ∷ []) (sym c.index-changes-place.is) in
    let is = ap (map written_of) taken ∙ map-append written_of (take place changes) (change ∷ []) in
    record {
      design = c.changes.invariant.design;
      all =
          subst (λ l. WritesAreReached design c.args.first c.args.end l c.changes.reached) (sym is)
          (writes-beside design c.args.first c.args.end (map written_of (take place changes)) (written_of change) c.changes.reached (λ since before. omega (arith, since, before, c.if-change-first.true))
          c.changes.invariant.all);
    }

pub changes-preserved-then-end-change : goal.changes-preserved-then-end-change
changes-preserved-then-end-change c =
    let changes = c.args.changes.now in
    let place = c.changes.place in
    let change = c.index-changes-place.result in
    let design = design_of c.clear.new.self.design in
    let low : place < length changes = omega arith in
    let taken = take_more changes place change low ∙ ap (λ o. take place changes ++ o ∷ []) (sym c.index-changes-place.is) in
    let is = ap (map written_of) taken ∙ map-append written_of (take place changes) (change ∷ []) in
    record {
      design = c.changes.invariant.design;
      all =
          subst (λ l. WritesAreReached design c.args.first c.args.end l c.changes.reached) (sym is)
          (writes-beside design c.args.first c.args.end (map written_of (take place changes)) (written_of change) c.changes.reached (λ since before. omega (arith, since, before, c.if-end-change.true))
          c.changes.invariant.all);
    }

pub changes-preserved : goal.changes-preserved
changes-preserved c =
    let changes = c.args.changes.now in
    let place = c.changes.place in
    let change = c.index-changes-place.result in
    let design = design_of c.clear.new.self.design in
    let low : place < length changes = omega arith in
    let taken = take_more changes place change low ∙ ap (λ o. take place changes ++ o ∷ []) (sym c.index-changes-place.is) in
    let is = ap (map written_of) taken ∙ map-append written_of (take place changes) (change ∷ []) in
    record {
      design = c.add.ensures.design_is ∙ c.changes.invariant.design;
      all =
          subst (λ l. WritesAreReached design c.args.first c.args.end l c.add.new.self) (sym is)
          (writes-more design c.args.first c.args.end (map written_of (take place changes)) (written_of change) c.changes.reached c.add.new.self (ap design_of c.changes.invariant.design)
          c.changes.invariant.all c.add.ensures);
    }
