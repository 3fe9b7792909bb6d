-- What is due goes into the lane, and the others stay.
use Rattle.std.proofs.Common.{◌++◌, ◌∙◌, ap, drop, ltb, map, rules}
use Rattle.std.proofs.lemmas.Fn.{filter_same}
use Rattle.v_design.specs.Plain.{due_of, update_of}
use Rattle.v_design.specs.declared.plan.Due.{Due}
use Rattle.moment_parts.specs.Turned.{activated}
use Rattle.moment_parts.proofs.Pending.{filter-later}
use Rattle.moment_parts.proofs.turning.activate.Goals as goal

pub returns-clause-later : goal.returns-clause-later
returns-clause-later c =
    let kept = filter_same _ (λ (d : Due). ltb c.args.now d.time) _ (λ x b f' k. search rules) _ _ c.retain.ensures.filtered in
    ap (map due_of) kept ∙ filter-later c.args.now c.args.later.now.items

pub returns-clause-lane : goal.returns-clause-lane
returns-clause-lane c =
    ap (λ n. drop n (map update_of c.push_due.new.updates.items)) c.clear.ensures.taken
    ∙ c.in_ok-push_due.ensures
    ∙ ap (λ l. map update_of l ++ activated c.args.now (map due_of c.deref.result.now)) c.clear.ensures.updates
    ∙ ap (λ l. activated c.args.now (map due_of l)) c.deref.ensures.value
