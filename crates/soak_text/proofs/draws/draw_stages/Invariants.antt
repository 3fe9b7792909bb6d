use Rattle.std.proofs.Common.{◌≡◌, ◌*◌, map}
use Rattle.std.specs.List.{range_with_len}
use Rattle.soak_text.specs.Soak.{state, stage_of}
use Rattle.soak_text.proofs.draws.draw_stages.Given as goal

abbrev pub invariant-stages : goal.invariant-stages
invariant-stages l = (l.stages.items ≡ map (stage_of l.number l.size) (range_with_len 0 l.stage)) × (l.generator.state ≡ state l.number (4 * l.stage))
