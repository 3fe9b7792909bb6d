-- A strobe passes or doesn't.
use Rattle.std.proofs.Common.{◌≡◌, ◌+◌, ◌<◌, length, get_or, min, Some, sym, ap, ◌∙◌, cond}
use Rattle.std.specs.Iterator.Adapters.{zip_first, zip_second}
use Rattle.std.specs.Slice.Iter.{iter_rest}
use Rattle.std.proofs.lemmas.List.{length_push}
use Rattle.std.proofs.lemmas.Slice.Zip.{zip_turn, zip_end}
use Rattle.v_design.specs.Grades.{some_sample}
use Rattle.kept_samples.specs.declared.kept.Sample.{Sample}
use Rattle.vf_audit.specs.Strobes.{test_of}
use Rattle.vf_audit.proofs.SampleLists.{first_from, first-more, first-all}
use Rattle.vf_audit.proofs.strobes.first_strobe.Goals as goal
use Rattle.vf_audit.proofs.strobes.first_strobe.Goals.{At-strobes, In-Some, In-None, After-passes}

-- both lists are walked from their beginnings
begins : (c : At-strobes) → (iter_rest (zip_first c.into_iter-seen-iterator.result) ≡ c.args.good.now) × (iter_rest (zip_second c.into_iter-seen-iterator.result) ≡ c.args.faulty.now)
begins c =
    let second : iter_rest (zip_second c.zip-seen-items.result) ≡ c.args.faulty.now = c.zip-seen-items.ensures.second.0 in (
      ap (λ z. iter_rest (zip_first z)) c.into_iter-seen-iterator.ensures.into_iter_gives ∙ ap iter_rest c.zip-seen-items.ensures.first ∙ c.iter.ensures.rest,
      ap (λ z. iter_rest (zip_second z)) c.into_iter-seen-iterator.ensures.into_iter_gives ∙ second,
    )

-- the samples of both machines at a strobe
turn : (c : In-Some) → (length c.strobes.yielded < length c.args.good.now) × (length c.strobes.yielded < length c.args.faulty.now)
    × ((d : Sample) → c.in-Some.seen.now ≡ get_or c.args.good.now (length c.strobes.yielded) d) × ((d : Sample) → c.in-Some.own.now ≡ get_or c.args.faulty.now (length c.strobes.yielded) d)
turn c =
    let begun = begins (goal.at.In-Some c).At-strobes in
    zip_turn c.args.good.now c.args.faulty.now c.strobes.yielded c.into_iter-seen-iterator.result c.strobes.seen-iterator c.next.new.self c.next.result begun.0 begun.1 c.strobes.yielded_by
    (c.in-Some.seen, c.in-Some.own) c.in-Some.is c.next.ensures.steps

-- no strobe is left
end : (c : In-None) → length c.strobes.yielded ≡ min (length c.args.good.now) (length c.args.faulty.now)
end c =
    let begun = begins (goal.at.In-None c).At-strobes in
    zip_end c.args.good.now c.args.faulty.now c.strobes.yielded c.into_iter-seen-iterator.result c.strobes.seen-iterator c.next.new.self c.next.result begun.0 begun.1 c.strobes.yielded_by
    c.in-None.is c.next.ensures.steps

-- what is left behind the strobe
step : (c : After-passes) → first_from (test_of c.args.test) c.args.good.now c.args.faulty.now (length c.strobes.yielded)
    ≡ cond c.passes.result (Some c.in-Some.seen.now.time) (first_from (test_of c.args.test) c.args.good.now c.args.faulty.now (length c.strobes.yielded + 1))
step c =
    let t = turn (goal.at.After-passes c).In-Some in
    first-more (test_of c.args.test) c.args.good.now c.args.faulty.now (length c.strobes.yielded) c.in-Some.seen.now c.in-Some.own.now c.passes.result
    t.0 t.1 (t.2 c.in-Some.seen.now) (t.3 c.in-Some.own.now)
    (c.passes.ensures ∙ (λ i. some_sample (test_of c.args.test) (c.as_slice.ensures i) (c.as_slice-in-strobes.ensures i)))

pub strobes-preserved : goal.strobes-preserved
strobes-preserved c =
    let later = first_from (test_of c.args.test) c.args.good.now c.args.faulty.now (length c.strobes.yielded + 1) in
    ap (first_from (test_of c.args.test) c.args.good.now c.args.faulty.now) (length_push c.strobes.yielded (c.in-Some.seen, c.in-Some.own))
    ∙ (sym (step (goal.at.strobes-preserved c).After-passes ∙ ap (λ b. cond b (Some c.in-Some.seen.now.time) later) c.if-passes.false) ∙ c.strobes.invariant)

pub returns-then-passes : goal.returns-then-passes
returns-then-passes c =
    let later = first_from (test_of c.args.test) c.args.good.now c.args.faulty.now (length c.strobes.yielded + 1) in
    sym (step (goal.at.returns-then-passes c).After-passes ∙ ap (λ b. cond b (Some c.in-Some.seen.now.time) later) c.if-passes.true) ∙ c.strobes.invariant

pub returns : goal.returns
returns c = sym (first-all (test_of c.args.test) c.args.good.now c.args.faulty.now (length c.strobes.yielded) (end (goal.at.returns c).In-None)) ∙ c.strobes.invariant
