use Rattle.std.proofs.Common.{◌∙◌}
use Rattle.v_design.specs.Logs.{log_accesses}
use Rattle.v_design.specs.PlainDesigns.{design_of}
use Rattle.causal_monitor.specs.Index.{accesses_in}
use Rattle.claimed_race.proofs.Finding.{all-low, places-found}
use Rattle.claimed_race.proofs.search.pair_in.Goals as goal

pub found_pair-requires-clause-firsts : goal.found_pair-requires-clause-firsts
found_pair-requires-clause-firsts c =
    all-low (design_of c.args.design.now) c.args.first.now (accesses_in c.args.index.now) c.as_slice.result.now (c.as_slice.ensures.value ∙ c.in_ok-firsts.ensures)

pub found_pair-requires-clause-seconds : goal.found_pair-requires-clause-seconds
found_pair-requires-clause-seconds c =
    all-low (design_of c.args.design.now) c.args.second.now (accesses_in c.args.index.now) c.as_slice-2.result.now (c.as_slice-2.ensures.value ∙ c.in_ok-seconds.ensures)

pub returns : goal.returns
returns c =
    let design = design_of c.args.design.now in
    c.found_pair.ensures
    ∙ places-found design c.args.log.now.log c.args.first.now c.args.second.now (accesses_in c.args.index.now) (log_accesses design c.args.log.now.log) c.args.time c.args.number
    c.as_slice.result.now c.as_slice-2.result.now c.requires.accesses (c.as_slice.ensures.value ∙ c.in_ok-firsts.ensures) (c.as_slice-2.ensures.value ∙ c.in_ok-seconds.ensures)
