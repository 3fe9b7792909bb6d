-- Each strobe's answers are kept, or end the comparison.
use Rattle.std.proofs.Common.{◌≡◌, ◌<◌, [], ◌∷◌, ◌++◌, length, get_or, min, Bool, ◌||◌, ap, sym, ◌∙◌}
use Rattle.std.specs.Iterator.Adapters.{zip_first, zip_second}
use Rattle.std.specs.List.{zip, list_any}
use Rattle.std.specs.Slice.Iter.{iter_rest}
use Rattle.std.proofs.lemmas.List.{length_push}
use Rattle.std.proofs.lemmas.Slice.Zip.{zip_turn, zip_end}
use Rattle.four_value.specs.declared.logic.Bit.{Bit}
use Rattle.v_design.specs.Grades.{is_hard, is_possible}
use Rattle.kept_samples.specs.Kept.{samples_kept}
use Rattle.kept_samples.specs.declared.kept.Sample.{Sample}
use Rattle.dict_laws.specs.Responses.{some_observed, fit_by}
use Rattle.dict_text.specs.Merged.{merged}
use Rattle.dict_text.proofs.Observed.{some_from, strobe-more, no-more, yes-more, kept-yes, kept-no, observed-all}
use Rattle.dict_text.proofs.fit.fit_of.Goals as goal
use Rattle.dict_text.proofs.fit.fit_of.Goals.{At-strobes, In-Some, In-None, After-some_hard}

-- both lists are walked from their beginnings
begins : (c : At-strobes) → (iter_rest (zip_first c.into_iter-seen-iterator.result) ≡ c.args.observed.now) × (iter_rest (zip_second c.into_iter-seen-iterator.result) ≡ c.args.good.now)
begins c =
    let second : iter_rest (zip_second c.zip-seen-items.result) ≡ c.args.good.now = c.zip-seen-items.ensures.second.0 in (
      ap (λ z. iter_rest (zip_first z)) c.into_iter-seen-iterator.ensures.into_iter_gives ∙ ap iter_rest c.zip-seen-items.ensures.first ∙ c.iter.ensures.rest,
      ap (λ z. iter_rest (zip_second z)) c.into_iter-seen-iterator.ensures.into_iter_gives ∙ second,
    )

-- a strobe is observed beside a good sample
turn : (c : In-Some) → (length c.strobes.yielded < length c.args.observed.now) × (length c.strobes.yielded < length c.args.good.now)
    × ((d : Sample) → c.in-Some.seen.now ≡ get_or c.args.observed.now (length c.strobes.yielded) d) × ((d : Sample) → c.in-Some.expected.now ≡ get_or c.args.good.now (length c.strobes.yielded) d)
turn c =
    let begun = begins (goal.at.In-Some c).At-strobes in
    zip_turn c.args.observed.now c.args.good.now c.strobes.yielded c.into_iter-seen-iterator.result c.strobes.seen-iterator c.next.new.self c.next.result begun.0 begun.1 c.strobes.yielded_by
    (c.in-Some.seen, c.in-Some.expected) c.in-Some.is c.next.ensures.steps

-- no strobe is left
end : (c : In-None) → length c.strobes.yielded ≡ min (length c.args.observed.now) (length c.args.good.now)
end c =
    let begun = begins (goal.at.In-None c).At-strobes in
    zip_end c.args.observed.now c.args.good.now c.strobes.yielded c.into_iter-seen-iterator.result c.strobes.seen-iterator c.next.new.self c.next.result begun.0 begun.1 c.strobes.yielded_by
    c.in-None.is c.next.ensures.steps

-- what is left behind the strobe
step : (c : After-some_hard) (test : Bit → Bit → Bool) (answer : Bool) → answer ≡ list_any (λ (pair : Bit × Bit). test pair.0 pair.1) (zip c.in-Some.seen.now.bits c.beside.result.0.now.bits) →
    some_from test c.args.observed.now c.args.good.now (length c.strobes.yielded) (samples_kept c.strobes.left.now)
    ≡ (answer || some_from test c.args.observed.now c.args.good.now (length (c.strobes.yielded ++ (c.in-Some.seen, c.in-Some.expected) ∷ [])) (samples_kept c.beside.result.1.now))
step c test answer told =
    let t = turn (goal.at.After-some_hard c).In-Some in
    strobe-more test c.args.observed.now c.args.good.now (length c.strobes.yielded) (length (c.strobes.yielded ++ (c.in-Some.seen, c.in-Some.expected) ∷ []))
    c.in-Some.seen.now c.in-Some.expected.now c.beside.result.0.now (samples_kept c.strobes.left.now) c.beside.result.1.now answer
    t.0 t.1 (t.2 c.in-Some.seen.now) (t.3 c.in-Some.expected.now) (length_push c.strobes.yielded (c.in-Some.seen, c.in-Some.expected)) c.beside.ensures.sample c.beside.ensures.left told

hard : (c : After-some_hard) → some_from is_hard c.args.observed.now c.args.good.now (length c.strobes.yielded) (samples_kept c.strobes.left.now)
    ≡ (c.some_hard.result || some_from is_hard c.args.observed.now c.args.good.now (length (c.strobes.yielded ++ (c.in-Some.seen, c.in-Some.expected) ∷ [])) (samples_kept c.beside.result.1.now))
hard c =
    step c is_hard c.some_hard.result
    (c.some_hard.ensures ∙ (λ i. list_any (λ (pair : Bit × Bit). is_hard pair.0 pair.1) (zip (c.as_slice.ensures i) (c.as_slice-in-strobes.ensures i))))

pub strobes-preserved : goal.strobes-preserved
strobes-preserved c =
    let possible =
    step (goal.at.strobes-preserved c).After-some_hard is_possible c.some_possible-possible.result
    (c.some_possible-possible.ensures
    ∙ (λ i. list_any (λ (pair : Bit × Bit). is_possible pair.0 pair.1) (zip (c.as_slice-else-possible.ensures i) (c.as_slice-else-possible-2.ensures i)))) in
    let rest : Bool = some_from is_possible c.args.observed.now c.args.good.now (length (c.strobes.yielded ++ (c.in-Some.seen, c.in-Some.expected) ∷ [])) (samples_kept c.beside.result.1.now) in
    record {
      hard = no-more _ _ _ _ (hard (goal.at.strobes-preserved c).After-some_hard) c.if-some_hard.false c.strobes.invariant.hard;
      possible = kept-no c.strobes.possible c.some_possible-possible.result rest _ _ possible c.if-possible.false c.strobes.invariant.possible;
    }

pub strobes-preserved-then-possible : goal.strobes-preserved-then-possible
strobes-preserved-then-possible c = record {
  hard = no-more _ _ _ _ (hard (goal.at.strobes-preserved-then-possible c).After-some_hard) c.if-some_hard.false c.strobes.invariant.hard;
  possible = kept-yes _ _ _ _ c.if-possible.true c.strobes.invariant.possible;
}

pub returns-then-some_hard : goal.returns-then-some_hard
returns-then-some_hard c =
    let possible : Bool = some_observed is_possible (samples_kept c.args.observed.now) (merged (samples_kept c.args.good.now) (samples_kept c.args.differs.now)) in
    ap (λ b. fit_by b possible) (sym (yes-more _ _ _ _ (hard (goal.at.returns-then-some_hard c).After-some_hard) c.if-some_hard.true c.strobes.invariant.hard))

pub returns-then-possible-2 : goal.returns-then-possible-2
returns-then-possible-2 c =
    let done = end (goal.at.returns-then-possible-2 c).In-None in
    let none = sym c.strobes.invariant.hard ∙ observed-all is_hard c.args.observed.now c.args.good.now (length c.strobes.yielded) (samples_kept c.strobes.left.now) done in
    let rest : Bool = some_from is_possible c.args.observed.now c.args.good.now (length c.strobes.yielded) (samples_kept c.strobes.left.now) in
    let some = sym c.strobes.invariant.possible ∙ ap (λ b. b || rest) c.if-possible-2.true in
    (λ i. fit_by (sym none i) (sym some i))

pub returns-else-possible-2 : goal.returns-else-possible-2
returns-else-possible-2 c =
    let done = end (goal.at.returns-else-possible-2 c).In-None in
    let none = sym c.strobes.invariant.hard ∙ observed-all is_hard c.args.observed.now c.args.good.now (length c.strobes.yielded) (samples_kept c.strobes.left.now) done in
    let rest = observed-all is_possible c.args.observed.now c.args.good.now (length c.strobes.yielded) (samples_kept c.strobes.left.now) done in
    let kept = sym c.strobes.invariant.possible ∙ (λ i. c.if-possible-2.false i || rest i) in
    (λ i. fit_by (sym none i) (sym kept i))
