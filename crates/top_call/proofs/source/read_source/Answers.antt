use Rattle.v_design.specs.PlainDesigns.{design_of}
use Rattle.vf_words.specs.Forms.{plain_source}
use Rattle.top_call.specs.Outside.{counts_of}
use Rattle.top_call.proofs.Making.{design-faulty, design-made}
use Rattle.top_call.proofs.source.read_source.Goals as goal

pub returns-in-Ok-clause-gives : goal.returns-in-Ok-clause-gives
returns-in-Ok-clause-gives g c =
    let old = counts_of g.S.Shelf c.args.shelf.now in
    let new = counts_of g.S.Shelf c.read_file.new.shelf in
    design-made (g.S.Shelf.held c.args.shelf.now) (plain_source c.args.source) old new c.in_ok-text.text.items c.as_slice.result.now c.as_bytes.result.now
    c.in_ok-text.ensures.gives.0 c.in_ok-text.ensures.gives.1 c.as_slice.ensures.value c.as_bytes.ensures.value (design_of c.in-Ok.design) c.in-Ok.ensures

pub returns-clause-gives : goal.returns-clause-gives
returns-clause-gives g c =
    let old = counts_of g.S.Shelf c.args.shelf.now in
    let new = counts_of g.S.Shelf c.read_file.new.shelf in
    design-faulty (g.S.Shelf.held c.args.shelf.now) (plain_source c.args.source) old new c.in_ok-text.text.items c.as_slice.result.now c.as_bytes.result.now
    c.in_ok-text.ensures.gives.0 c.in_ok-text.ensures.gives.1 c.as_slice.ensures.value c.as_bytes.ensures.value c.in-Err.fault c.design_status.result c.in-Err.ensures c.design_status.ensures
