-- Reader by reader.
use Rattle.std.proofs.Common.{◌≡◌, ◌<◌, length, map, get_or, sym, ap, ◌∙◌, arith}
use Rattle.std.proofs.lemmas.Option.{slice_get-get_or}
use Rattle.vf_base.specs.Base.{object_number, node_number}
use Rattle.v_design.specs.PlainDesigns.{design_of}
use Rattle.net_graph.specs.Tables.{readers_of}
use Rattle.net_graph.specs.ReaderLaws.{readers_below}
use Rattle.trace_window.specs.Moments.{window_events}
use Rattle.copy_skip.proofs.Limited.{yet-more, none-reads}
use Rattle.next_touches.proofs.search.readers_limit.Goals as goal

pub evaluation_limit-least-requires-clause-there : goal.evaluation_limit-least-requires-clause-there
evaluation_limit-least-requires-clause-there g c κs within =
    let object = object_number c.args.object in
    let same : map node_number c.readers-readers.result.now ≡ readers_of g.N.World.design object =
    c.readers-readers.ensures ∙ ap (λ d. readers_of (design_of d) object) (c.graph.ensures.design ∙ sym c.design-design.ensures.design)
    ∙ ap (λ d. readers_of d object) (sym c.design-design.ensures.world) in
    let low : c.readers.reader-index < length c.readers-readers.result.now = omega (arith, c.readers-test.true, c.readers.auto.reader-index-end) in
    readers_below g.N.World.design object c.readers-readers.result.now (length g.N.World.design.nodes) same (omega arith) c.readers.reader-index (record { 0 = 0 }) low

pub readers-preserved : goal.readers-preserved
readers-preserved g c =
    let readers = c.readers-readers.result.now in
    let index = c.readers.reader-index in
    let low : c.readers.reader-index < length c.readers-readers.result.now = omega (arith, c.readers-test.true, c.readers.auto.reader-index-end) in
    record {
      low = omega (arith, c.evaluation_limit-least.ensures.low, c.readers.invariant.low);
      none = λ place reader before at.
          yet-more (window_events g.N.World.design g.N.World.plan c.args.window.now.before c.args.window.now.through) readers index c.args.first c.readers.least c.evaluation_limit-least.result
          (get_or readers index (record { 0 = 0 })) c.evaluation_limit-least.ensures.low (slice_get-get_or readers index (record { 0 = 0 }) low) c.readers.invariant.none
          c.evaluation_limit-least.ensures.evaluates place reader (omega (arith, before)) at;
    }

pub returns-clause-reads : goal.returns-clause-reads
returns-clause-reads g c =
    let object = object_number c.args.object in
    let same : map node_number c.readers-readers.result.now ≡ readers_of g.N.World.design object =
    c.readers-readers.ensures ∙ ap (λ d. readers_of (design_of d) object) (c.graph.ensures.design ∙ sym c.design-design.ensures.design)
    ∙ ap (λ d. readers_of d object) (sym c.design-design.ensures.world) in
    none-reads g.N.World.design (window_events g.N.World.design g.N.World.plan c.args.window.now.before c.args.window.now.through) object c.readers-readers.result.now c.args.first c.readers.least same
    (λ place reader before at. c.readers.invariant.none place reader (omega (arith, before, c.readers-test.false, c.readers.auto.reader-index-end)) at)
