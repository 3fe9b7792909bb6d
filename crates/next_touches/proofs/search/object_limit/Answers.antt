-- Neither touched itself nor by nodes that read it.
use Rattle.std.proofs.Common.{length, arith}
use Rattle.vf_base.specs.Base.{object_number}
use Rattle.v_design.specs.Designs.{good_machine}
use Rattle.copy_skip.proofs.Limited.{first-none}
use Rattle.trace_window.specs.Moments.{window_events}
use Rattle.trace_window.specs.Touched.{touched_at}
use Rattle.next_touches.proofs.search.object_limit.Goals as goal

pub readers_limit-requires-clause-within : goal.readers_limit-requires-clause-within
readers_limit-requires-clause-within g c κs within =
    let low = c.earlier-touched.ensures.low in
    let all = c.moments.ensures in
    omega (arith, low, all)

pub returns : goal.returns
returns g c =
    let events = window_events g.N.World.design g.N.World.plan c.args.window.now.before c.args.window.now.through in
    let low = c.readers_limit.ensures.low in
    record {
      touches = λ number since before.
          first-none (touched_at (good_machine g.N.World.design) events (object_number c.args.object)) (length events) c.args.first c.moments.result c.earlier-touched.result c.next_touch.result
          c.next_touch.ensures (let all = c.moments.ensures in omega (arith, all)) c.earlier-touched.ensures.low c.earlier-touched.ensures.next number since (omega (arith, low, before));
      reads = c.readers_limit.ensures.reads;
    }
