use Rattle.std.proofs.Common.{◌≡◌, ◌∙◌, map, refl, sym, ap, subst}
use Rattle.vf_base.specs.Base.{process_number}
use Rattle.v_design.specs.Designs.{FlatDesign}
use Rattle.v_design.specs.Plain.{due_of}
use Rattle.v_design.specs.States.{State}
use Rattle.net_state.specs.States.{values_in, nodes_in}
use Rattle.run_ends.specs.RunEnds.{IsCodeAt}
use Rattle.process_table.specs.Arranged.{table_of}
use Rattle.process_table.specs.Puts.{StandsAt}
use Rattle.process_table.specs.Tables.{TableState}
use Rattle.machine.proofs.PutLaws.{over-stands}
use Rattle.machine.proofs.parts.Machine.put_process.Goals as goal

pub put-requires-clause-kept : goal.put-requires-clause-kept
put-requires-clause-kept c = c.requires.cleared.standing.table

pub put-requires-clause-stands : goal.put-requires-clause-stands
put-requires-clause-stands c = λ code at.
    let t = c.args.self.now.table in
    let n = process_number c.args.process in
    let same = c.requires.cleared.standing.design in
    subst (λ (d : FlatDesign). StandsAt d (table_of t).time n c.args.state (map due_of c.args.updates.now) code) (sym same)
    (c.requires.stands code (subst (λ (d : FlatDesign). IsCodeAt d n code) same at))

pub returns-clause-state : goal.returns-clause-state
returns-clause-state c = λ code at.
    let m = c.args.self.now in
    let n = process_number c.args.process in
    let State' : TableState → State = λ t. record { time = t.time; values = values_in m.nets; nodes = nodes_in m.nets; processes = t.processes } in
    ap State' (c.in_ok-put.ensures.table code (subst (λ (d : FlatDesign). IsCodeAt d n code) (sym c.requires.cleared.standing.design) at))

pub returns-clause-cleared : goal.returns-clause-cleared
returns-clause-cleared c =
    let s = c.requires.cleared.standing in
    over-stands _ c.requires.cleared.over c.in_ok-put.ensures.kept (c.in_ok-put.ensures.design ∙ s.design) s.graph s.earlier s.causes
