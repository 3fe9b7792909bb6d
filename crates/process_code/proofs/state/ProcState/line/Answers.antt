use Rattle.std.proofs.Common.{◌≡◌, ◌≤◌, ◌<◌, ◌-◌, [], ◌∷◌, length, map, get_or, sym, ap, ◌∙◌, arith, List}
use Rattle.std.specs.Prelude.{option_map}
use Rattle.std.proofs.lemmas.List.{length-map}
use Rattle.std.proofs.lemmas.Grind.{common_steps}
use Rattle.vf_base.specs.Base.{source_place}
use Rattle.v_design.specs.Plain.{update_of}
use Rattle.process_code.specs.Rests.{Part, tasks_of}
use Rattle.process_code.specs.Positions.{part_of_head}
use Rattle.process_code.specs.Codes.{rests_in_code}
use Rattle.process_code.specs.Lines.{line_of_tasks}
use Rattle.process_code.specs.declared.state.ProcState.{ProcState}
use Rattle.process_code.specs.declared.code.Code.{Code}
use Rattle.process_code.specs.Points.{point_of, tasks_at}
use Rattle.process_code.proofs.Spots.{spot-within}
use Rattle.process_code.proofs.FirstLines.{end-rest, spot-rest, first-line, none-left}
use Rattle.process_code.proofs.state.ProcState.line.Goals as goal

-- without updates the tasks are those of the rest
of-rest : (code : Code) (state : ProcState) → length state.updates.items ≡ 0 → tasks_at (rests_in_code code) (point_of state) ≡ tasks_of state.counts.items
    (get_or (rests_in_code code) state.position [])
of-rest code state none = none-left (source_place state.place) state.delay (map (option_map update_of) state.updates.items)
    (tasks_of state.counts.items (get_or (rests_in_code code) state.position []))
    (length-map state.updates.items (option_map update_of) ∙ none)

pub returns-then-self-eq0 : goal.returns-then-self-eq0
returns-then-self-eq0 c =
    let none : length c.args.self.now.updates.items ≡ 0 = grind (arith, common_steps) in
    sym (ap line_of_tasks (of-rest c.args.code.now c.args.self.now none)
    ∙ ap (λ (rest : List Part). line_of_tasks (tasks_of c.args.self.now.counts.items rest)) (end-rest c.args.code.now c.args.self.now.position c.if-self-eq0.true))

pub index-spot-requires : goal.index-spot-requires
index-spot-requires c = omega (arith, spot-within c.args.code.now c.args.self.now.position c.if-self-eq0.false c.requires.state.rest)

pub returns : goal.returns
returns c =
    let none : length c.args.self.now.updates.items ≡ 0 = grind (arith, common_steps) in
    let found = spot-rest c.args.code.now c.args.self.now.position c.index-spot.result.now c.requires.code c.if-self-eq0.false
    (spot-within c.args.code.now c.args.self.now.position c.if-self-eq0.false c.requires.state.rest) c.index-spot.ensures in
    c.line_of_head.ensures ∙ first-line c.args.self.now.counts.items (part_of_head c.index-spot.result.now.head) found.0
    ∙ sym (ap line_of_tasks (of-rest c.args.code.now c.args.self.now none) ∙ ap (λ (rest : List Part). line_of_tasks (tasks_of c.args.self.now.counts.items rest)) found.1)
