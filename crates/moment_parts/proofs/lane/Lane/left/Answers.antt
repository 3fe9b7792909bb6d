-- What is left behind the updates that are taken.
use Rattle.std.proofs.Common.{◌∙◌, map, drop, sym, ap}
use Rattle.std.specs.List.{drop-map}
use Rattle.v_design.specs.Plain.{update_of}
use Rattle.moment_parts.proofs.Lists.{take-drop}
use Rattle.moment_parts.proofs.lane.Lane.left.Goals as goal

pub returns : goal.returns
returns c =
    ap (map update_of) (take-drop c.args.self.now.taken c.deref.result.now)
    ∙ sym (drop-map update_of c.args.self.now.taken c.deref.result.now)
    ∙ ap (λ l. drop c.args.self.now.taken (map update_of l)) c.deref.ensures.value
