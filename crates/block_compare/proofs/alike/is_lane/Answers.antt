-- It is the one.
use Rattle.std.proofs.Common.{[], ◌∷◌, ap, ◌∙◌}
use Rattle.std.proofs.lemmas.Bool.{eqb-true}
use Rattle.moment_shown.specs.lockstep_exchange.Putting.{lane_numbers}
use Rattle.block_compare.proofs.alike.is_lane.Goals as goal

pub returns : goal.returns
returns c = λ yes. ap lane_numbers c.in-Some.is ∙ ap (λ n. n ∷ []) (eqb-true _ _ yes)
