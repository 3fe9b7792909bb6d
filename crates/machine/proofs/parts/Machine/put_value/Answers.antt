use Rattle.std.proofs.Common.{◌≡◌, ◌∙◌, refl, sym, ap, subst}
use Rattle.v_design.specs.Designs.{Machine}
use Rattle.event_causes.specs.Causes.{AreCausesOf}
use Rattle.process_table.specs.Arranged.{table_of}
use Rattle.machine.proofs.PutLaws.{over-stands}
use Rattle.machine.proofs.parts.Machine.put_value.Goals as goal

pub returns-clause-state : goal.returns-clause-state
returns-clause-state c =
    let m = c.args.self.now in
    λ i. record { time = (table_of m.table).time; values = c.put.ensures.values i; nodes = c.put.ensures.nodes i; processes = (table_of m.table).processes }

pub returns-clause-cleared : goal.returns-clause-cleared
returns-clause-cleared c =
    let s = c.requires.cleared.standing in
    let same = sym c.put.ensures.machine in
    over-stands _ c.requires.cleared.over s.table (s.design ∙ ap (λ (k : Machine). k.design) same) (s.graph ∙ ap (λ (k : Machine). k.design) same) s.earlier
    (subst (λ (k : Machine). AreCausesOf k s.earlier c.args.self.now.record.phase.causes) same s.causes)
