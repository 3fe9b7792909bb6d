-- What was told is gone.
use Rattle.std.proofs.Common.{ap, ◌∙◌}
use Rattle.passed_blocks.specs.moment_laws.Steps.{untold}
use Rattle.good_moment.proofs.Parts.{untold-is}
use Rattle.good_moment.proofs.moment.GoodMoment.clear_told.Goals as goal

pub returns : goal.returns
returns g c =
    let s = c.self.inside in
    untold-is s.place s.time s.values.items s.standing s.passed c.clear.new.self c.clear.ensures.changed c.clear.ensures.acted c.clear.ensures.lane ∙ ap untold c.self.view_is
