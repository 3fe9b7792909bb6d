use Rattle.std.proofs.Common.{ℕ, ◌+◌, List, Option, map, option_map, drop, ap, sym, ◌∙◌}
use Rattle.std.specs.Option.{option_or}
use Rattle.v_elab.specs.Parts.{Joining}
use Rattle.v_elab.specs.Walk.{joining_of}
use Rattle.module_scope.specs.Kept.{kept}
use Rattle.name_checks.specs.Rows.{drop-step, drop-past}
use Rattle.elab_items.specs.declared.joins.PortJoined.{PortJoined}
use Rattle.elab_items.specs.Joins.{port_joined_of, joining_seen}
use Rattle.elab_items.proofs.Names.{or-none, joined-turn}
use Rattle.elab_items.proofs.joins.joins_by_name.Goals as goal

pub ports-preserved : goal.ports-preserved
ports-preserved c = λ (name : List ℕ).
    ap (λ (o : Option Joining). option_or o (joining_of (map port_joined_of (drop (c.ports.joined-index + 1) c.args.ports.now)) name)) (c.in_ok-keep_first.ensures name)
    ∙ joined-turn (option_map joining_seen (kept c.ports.joins name)) (port_joined_of c.joined-item.result) (map port_joined_of (drop (c.ports.joined-index + 1) c.args.ports.now)) name
    ∙ ap (λ (js : List PortJoined). option_or (option_map joining_seen (kept c.ports.joins name)) (joining_of (map port_joined_of js) name))
    (sym (drop-step c.args.ports.now c.ports.joined-index c.joined-item.result c.ports-test.true c.joined-item.is))
    ∙ c.ports.invariant name

pub returns : goal.returns
returns c = λ (name : List ℕ).
    sym (or-none (option_map joining_seen (kept c.ports.joins name)))
    ∙ ap (λ (js : List PortJoined). option_or (option_map joining_seen (kept c.ports.joins name)) (joining_of (map port_joined_of js) name))
    (sym (drop-past c.args.ports.now c.ports.joined-index c.ports-test.false))
    ∙ c.ports.invariant name
