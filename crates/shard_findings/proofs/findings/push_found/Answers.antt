-- The findings of a shard behind all slots are those of all its faults.
use Rattle.std.proofs.Common.{ap, sym, subst, ◌∙◌, ◌++◌}
use Rattle.std.specs.List.{All}
use Rattle.std.proofs.lemmas.List.Elements.{All-append}
use Rattle.shard_claims.specs.copy_shard.Shards.{findings_of}
use Rattle.fault_shards.specs.Found.{IsFinding, found_faults}
use Rattle.verdict_settle.specs.HarvestLaws.{found-both}
use Rattle.shard_findings.proofs.findings.push_found.Goals as goal

pub returns-clause-faults : goal.returns-clause-faults
returns-clause-faults g c =
    ap found_faults c.in_ok-push_findings.ensures
    ∙ (found-both c.args.found.now.items (findings_of c.args.shard.now.faults)
    ∙ ap (λ l. found_faults c.args.found.now.items ++ l) (c.stands.ensures.complete (sym c.requires)))

pub returns-clause-graded : goal.returns-clause-graded
returns-clause-graded g c = λ before.
    subst (All (IsFinding g.N.World.design g.N.World.plan)) (sym c.in_ok-push_findings.ensures)
    (All-append (IsFinding g.N.World.design g.N.World.plan) c.args.found.now.items (findings_of c.args.shard.now.faults) before c.stands.ensures.graded)

pub returns-clause-complete : goal.returns-clause-complete
returns-clause-complete g c = c.stands.ensures.complete (sym c.requires)

pub returns-clause-steps : goal.returns-clause-steps
returns-clause-steps g c = c.stands.ensures.steps
