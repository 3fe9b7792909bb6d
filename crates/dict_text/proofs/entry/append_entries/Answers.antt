-- Each fault has its entry beside it.
use Rattle.std.proofs.Common.{◌≡◌, ap, ◌∙◌}
use Rattle.std.specs.Iterator.Adapters.{zip_first, zip_second}
use Rattle.std.specs.Slice.Iter.{iter_rest}
use Rattle.std.proofs.lemmas.List.{length_push}
use Rattle.std.proofs.lemmas.Slice.Zip.{zip_turn, zip_end}
use Rattle.v_design.specs.Plain.{fault_of}
use Rattle.v_design.specs.PlainDesigns.{design_of}
use Rattle.dict_text.specs.Texts.{entry_text}
use Rattle.dict_text.specs.Dictionaries.{entry_kept}
use Rattle.dict_text.proofs.Written.{pairs-more, pairs-all}
use Rattle.dict_text.proofs.entry.append_entries.Goals as goal
use Rattle.dict_text.proofs.entry.append_entries.Goals.{At-entries}

-- both lists are walked from their beginnings
begins : (c : At-entries) → (iter_rest (zip_first c.into_iter-fault-iterator.result) ≡ c.args.faults.now) × (iter_rest (zip_second c.into_iter-fault-iterator.result) ≡ c.args.entries.now)
begins c =
    let second : iter_rest (zip_second c.zip-fault-items.result) ≡ c.args.entries.now = c.zip-fault-items.ensures.second.0 in (
      ap (λ z. iter_rest (zip_first z)) c.into_iter-fault-iterator.ensures.into_iter_gives ∙ ap iter_rest c.zip-fault-items.ensures.first ∙ c.iter.ensures.rest,
      ap (λ z. iter_rest (zip_second z)) c.into_iter-fault-iterator.ensures.into_iter_gives ∙ second,
    )

pub entries-preserved : goal.entries-preserved
entries-preserved c =
    let begun = begins (goal.at.entries-preserved c).At-entries in
    let turn =
    zip_turn c.args.faults.now c.args.entries.now c.entries.yielded c.into_iter-fault-iterator.result c.entries.fault-iterator c.next.new.self c.next.result begun.0 begun.1 c.entries.yielded_by
    (c.in-Some.fault, c.in-Some.kept) c.in-Some.is c.next.ensures.steps in
    pairs-more (entry_text (design_of c.args.design.now)) fault_of entry_kept c.args.faults.now c.args.entries.now _ _ c.in-Some.fault.now c.in-Some.kept.now
    c.entries.out.items c.append_entry.new.out.items _ turn.0 turn.1 (turn.2 c.in-Some.fault.now) (turn.3 c.in-Some.kept.now)
    (length_push c.entries.yielded (c.in-Some.fault, c.in-Some.kept)) c.entries.invariant c.in_ok-append_entry.ensures

pub returns : goal.returns
returns c =
    let begun = begins (goal.at.returns c).At-entries in
    let end =
    zip_end c.args.faults.now c.args.entries.now c.entries.yielded c.into_iter-fault-iterator.result c.entries.fault-iterator c.next.new.self c.next.result begun.0 begun.1 c.entries.yielded_by
    c.in-None.is c.next.ensures.steps in
    pairs-all (entry_text (design_of c.args.design.now)) fault_of entry_kept c.args.faults.now c.args.entries.now _ c.entries.out.items _ end c.entries.invariant
