-- Each fault has beside it what is said of it.
use Rattle.std.proofs.Common.{◌≡◌, ap, ◌∙◌}
use Rattle.std.specs.Iterator.Adapters.{zip_first, zip_second}
use Rattle.std.specs.Slice.Iter.{iter_rest}
use Rattle.std.proofs.lemmas.List.{length_push}
use Rattle.std.proofs.lemmas.Slice.Zip.{zip_turn, zip_end}
use Rattle.v_design.specs.Designs.{StuckAt}
use Rattle.v_design.specs.Plain.{fault_of}
use Rattle.v_design.specs.PlainDesigns.{design_of}
use Rattle.dict_text.specs.Texts.{Found, fault_word, found_line}
use Rattle.dict_text.specs.Views.{found_view}
use Rattle.dict_text.proofs.Written.{pairs-more, pairs-all}
use Rattle.dict_text.proofs.diagnosis.append_founds.Goals as goal
use Rattle.dict_text.proofs.diagnosis.append_founds.Goals.{At-founds}

-- both lists are walked from their beginnings
begins : (c : At-founds) → (iter_rest (zip_first c.into_iter-fault-iterator.result) ≡ c.args.faults.now) × (iter_rest (zip_second c.into_iter-fault-iterator.result) ≡ c.args.founds.now)
begins c =
    let second : iter_rest (zip_second c.zip-fault-items.result) ≡ c.args.founds.now = c.zip-fault-items.ensures.second.0 in (
      ap (λ z. iter_rest (zip_first z)) c.into_iter-fault-iterator.ensures.into_iter_gives ∙ ap iter_rest c.zip-fault-items.ensures.first ∙ c.iter.ensures.rest,
      ap (λ z. iter_rest (zip_second z)) c.into_iter-fault-iterator.ensures.into_iter_gives ∙ second,
    )

pub founds-preserved : goal.founds-preserved
founds-preserved c =
    let begun = begins (goal.at.founds-preserved c).At-founds in
    let turn =
    zip_turn c.args.faults.now c.args.founds.now c.founds.yielded c.into_iter-fault-iterator.result c.founds.fault-iterator c.next.new.self c.next.result begun.0 begun.1 c.founds.yielded_by
    (c.in-Some.fault, c.in-Some.found) c.in-Some.is c.next.ensures.steps in
    pairs-more (λ (fault : StuckAt) (found : Found). found_line (fault_word (design_of c.args.design.now) fault) found)
    fault_of found_view c.args.faults.now c.args.founds.now _ _ c.in-Some.fault.now c.in-Some.found.now
    c.founds.out.items c.append_found.new.out.items _ turn.0 turn.1 (turn.2 c.in-Some.fault.now) (turn.3 c.in-Some.found.now)
    (length_push c.founds.yielded (c.in-Some.fault, c.in-Some.found)) c.founds.invariant c.in_ok-append_found.ensures

pub returns : goal.returns
returns c =
    let begun = begins (goal.at.returns c).At-founds in
    let end =
    zip_end c.args.faults.now c.args.founds.now c.founds.yielded c.into_iter-fault-iterator.result c.founds.fault-iterator c.next.new.self c.next.result begun.0 begun.1 c.founds.yielded_by
    c.in-None.is c.next.ensures.steps in
    pairs-all (λ (fault : StuckAt) (found : Found). found_line (fault_word (design_of c.args.design.now) fault) found)
    fault_of found_view c.args.faults.now c.args.founds.now _ c.founds.out.items _ end c.founds.invariant
