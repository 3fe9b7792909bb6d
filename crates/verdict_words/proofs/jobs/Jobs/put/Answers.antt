use Rattle.std.proofs.Common.{rules, ap, ◌∙◌, Option, ◌∷◌}
use Rattle.atomic_table.specs.Table.{Me, rest}
use Rattle.verdict_words.specs.declared.jobs.rule.Hold.{Hold}
use Rattle.verdict_words.proofs.JobSteps.{put_allowed}
use Rattle.verdict_words.proofs.jobs.Jobs.put.Goals as goal

pub store-requires : goal.store-requires
store-requires g c = let held = c.exchange.ensures.3 ∙ ap (λ (m : Me (Option g.row.J.Denot) (Hold (Option g.row.J.Denot))). (m.0, (c.args.slot, c.args.job) ∷ rest m.1)) c.requires.holds.1.1 in
    (search rules, search rules, rw (held, c.args.self.now.key, c.args.self.now.homes) (put_allowed _ c.args.self.now.slots _ _ _ _ c.requires.holds.0))
