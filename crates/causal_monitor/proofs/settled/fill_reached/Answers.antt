use Rattle.std.proofs.Common.{◌++◌, [], ℕ, List, Bool, ap, sym, ◌∙◌, map, filter, get_or, rules}
use Rattle.std.specs.Prelude.{nat_lt}
use Rattle.std.proofs.lemmas.List.{take_all}
use Rattle.vf_base.specs.Base.{object_number}
use Rattle.v_design.specs.Paths.{is_wild, net_pieces, paths}
use Rattle.v_design.specs.Logs.{phase_changes}
use Rattle.v_design.specs.PlainDesigns.{design_of}
use Rattle.net_graph.specs.Tables.{before_if}
use Rattle.causal_monitor.proofs.TotalLaws.{filtered-more, filter_filter, capped_positive}
use Rattle.causal_monitor.proofs.AddLaws.{nets_below}
use Rattle.causal_monitor.proofs.settled.fill_reached.Goals as goal

pub paths-wanted-requires-clause-is_net : goal.paths-wanted-requires-clause-is_net
paths-wanted-requires-clause-is_net c =
    nets_below (design_of c.args.graph.now.design.now) (is_wild (design_of c.args.graph.now.design.now) (phase_changes (design_of c.args.graph.now.design.now) c.args.log.now.log)) c.args.wild.now
    c.requires.wild c.nets.net-index (record { 0 = 0 }) c.nets-test.true

pub nets-preserved : goal.nets-preserved
nets-preserved c =
    let design = design_of c.args.graph.now.design.now in
    let from : ℕ = object_number c.args.from in
    let net : ℕ = object_number (get_or c.args.wild.now c.nets.net-index (record { 0 = 0 })) in
    record {
      belongs = search rules;
      nets =
          c.in_ok-push_if.ensures ∙ ap (λ l. l ++ before_if (nat_lt 0 c.paths-wanted.result) net []) c.nets.invariant.nets
          ∙ sym (filtered-more (λ n. nat_lt 0 (paths design from n)) c.args.wild.now c.nets.net-index (record { 0 = 0 }) (nat_lt 0 c.paths-wanted.result) c.nets-test.true
          (capped_positive (paths design from net) c.paths-wanted.result c.paths-wanted.ensures.counted));
    }

pub returns-clause-nets : goal.returns-clause-nets
returns-clause-nets c =
    let design = design_of c.args.graph.now.design.now in
    let changes : List ℕ = phase_changes design c.args.log.now.log in
    let test : ℕ → Bool = λ n. nat_lt 0 (paths design (object_number c.args.from) n) in
    c.nets.invariant.nets ∙ ap (λ l. filter test (map object_number l)) (take_all c.nets.net-index c.args.wild.now c.nets-test.false) ∙ ap (filter test) c.requires.wild
    ∙ filter_filter (is_wild design changes) test (net_pieces design)
