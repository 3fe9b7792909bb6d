-- Event by event.
use Rattle.std.proofs.Common.{◌≡◌, ℕ, ◌+◌, ◌<◌, List, [], ◌∷◌, ◌++◌, Bool, true, false, length, get_or, map, take, refl, sym, ap, subst, ◌∙◌, arith}
use Rattle.std.specs.Prelude.{Option, option_map}
use Rattle.std.proofs.lemmas.List.{append_assoc, map-append, take_more, take_all, map_push, length-map, length-take-le}
use Rattle.vf_base.specs.Base.{process_number}
use Rattle.v_design.specs.Laws.{place_if}
use Rattle.v_design.specs.States.{Event}
use Rattle.causal_monitor.specs.declared.slot.Actor.{Actor}
use Rattle.slot_record.specs.Records.{event_of}
use Rattle.window_blocks.specs.Gathered.{one_if, IsGreatest, begins_by, greatest_by, beginnings_from, firsts_from}
use Rattle.window_blocks.proofs.Greatest.{greatest-more, begins-is}
use Rattle.window_blocks.proofs.Listed.{beginnings-push, firsts-push}
use Rattle.window_blocks.proofs.table.push_beginnings.Goals as goal

actors-more : (actors : List Actor) (i : ℕ) (d : Actor) → i < length actors → map event_of (take (i + 1) actors) ≡ map event_of (take i actors) ++ event_of (get_or actors i d) ∷ []
actors-more actors i d low = ap (map event_of) (take_more actors i d low) ∙ map_push event_of (take i actors) (get_or actors i d)

moments-more : (actors : List Actor) (i : ℕ) (d : Actor) (first moment : ℕ) (old between new : List ℕ) (greatest : Option ℕ) (begins : Bool) → i < length actors →
    between ≡ old ++ beginnings_from [] first (map event_of (take i actors)) → moment ≡ first + i → IsGreatest greatest (map event_of (take i actors)) →
    begins ≡ begins_by greatest (event_of (get_or actors i d)) → new ≡ between ++ place_if begins moment [] →
    new ≡ old ++ beginnings_from [] first (map event_of (take (i + 1) actors))
moments-more actors i d first moment old between new greatest begins low had moment_is is told grown =
    grown ∙ (λ k. had k ++ place_if (tests k) (at k) []) ∙ append_assoc old (beginnings_from [] first earlier) (place_if (begins_by greatest event) (first + length earlier) [])
    ∙ ap (λ l. old ++ l)
    (ap (λ b. beginnings_from [] first earlier ++ place_if b (first + length earlier) []) (sym (begins-is greatest earlier event is)) ∙ sym (beginnings-push [] earlier first event)
    ∙ ap (beginnings_from [] first) (sym (actors-more actors i d low)))
  where
    earlier : List Event
    earlier = map event_of (take i actors)

    event : Event
    event = event_of (get_or actors i d)

    tests : begins ≡ begins_by greatest event
    tests = told

    at : moment ≡ first + length earlier
    at =
        let m : length earlier ≡ length (take i actors) = length-map (take i actors) event_of in
        let t : length (take i actors) ≡ i = length-take-le i actors (omega (arith, low)) in
        omega (arith, moment_is, m, t)

kept-mapped : (b : Bool) (actor : Actor) → map event_of (one_if b actor []) ≡ one_if b (event_of actor) []
kept-mapped true actor = refl
kept-mapped false actor = refl

firsts-more : (actors : List Actor) (i : ℕ) (d : Actor) (old between new : List Actor) (greatest : Option ℕ) (begins : Bool) → i < length actors →
    map event_of between ≡ map event_of old ++ firsts_from [] (map event_of (take i actors)) → IsGreatest greatest (map event_of (take i actors)) →
    begins ≡ begins_by greatest (event_of (get_or actors i d)) → new ≡ between ++ one_if begins (get_or actors i d) [] →
    map event_of new ≡ map event_of old ++ firsts_from [] (map event_of (take (i + 1) actors))
firsts-more actors i d old between new greatest begins low had is told grown =
    ap (map event_of) grown ∙ map-append event_of between (one_if begins (get_or actors i d) [])
    ∙ (λ k. had k ++ kept-mapped begins (get_or actors i d) k) ∙ append_assoc (map event_of old) (firsts_from [] earlier) (one_if begins event [])
    ∙ ap (λ l. map event_of old ++ l)
    (ap (λ b. firsts_from [] earlier ++ one_if b event []) (told ∙ sym (begins-is greatest earlier event is)) ∙ sym (firsts-push [] earlier event)
    ∙ ap (firsts_from []) (sym (actors-more actors i d low)))
  where
    earlier : List Event
    earlier = map event_of (take i actors)

    event : Event
    event = event_of (get_or actors i d)

greatest-grows : (actors : List Actor) (i : ℕ) (d : Actor) (greatest later : Option ℕ) → i < length actors → IsGreatest greatest (map event_of (take i actors)) →
    later ≡ greatest_by greatest (event_of (get_or actors i d)) → IsGreatest later (map event_of (take (i + 1) actors))
greatest-grows actors i d greatest later low is later_is =
    subst (λ g. IsGreatest g (map event_of (take (i + 1) actors))) (sym later_is)
    (subst (IsGreatest (greatest_by greatest (event_of (get_or actors i d)))) (sym (actors-more actors i d low))
    (greatest-more greatest (map event_of (take i actors)) (event_of (get_or actors i d)) is))

pub events-preserved : goal.events-preserved
events-preserved c = record {
  moments =
      moments-more c.args.actors.now c.events.actor-index _ c.args.first c.events.moment c.args.moments.now.items c.events.moments.items c.push_if.new.moments.items
      (option_map process_number c.events.greatest) c.begins_block-begins.result c.events-test.true c.events.invariant.moments c.events.invariant.moment c.events.invariant.greatest c.begins_block-begins.ensures
      c.in_ok-push_if.ensures.moments;
  firsts =
      firsts-more c.args.actors.now c.events.actor-index _ c.args.firsts.now.items c.events.firsts.items c.push_if.new.firsts.items (option_map process_number c.events.greatest)
      c.begins_block-begins.result c.events-test.true c.events.invariant.firsts c.events.invariant.greatest c.begins_block-begins.ensures c.in_ok-push_if.ensures.firsts;
  moment = (let z = c.in_ok-moment.ensures in let m = c.events.invariant.moment in omega (arith, z, m));
  greatest =
      greatest-grows c.args.actors.now c.events.actor-index _ (option_map process_number c.events.greatest) (option_map process_number c.greatest_after-greatest.result) c.events-test.true
      c.events.invariant.greatest c.greatest_after-greatest.ensures;
}

pub returns-clause-firsts : goal.returns-clause-firsts
returns-clause-firsts c =
    c.events.invariant.firsts
    ∙ ap (λ l. map event_of c.args.firsts.now.items ++ firsts_from [] (map event_of l)) (take_all c.events.actor-index c.args.actors.now c.events-test.false)

pub returns-clause-moments : goal.returns-clause-moments
returns-clause-moments c =
    c.events.invariant.moments
    ∙ ap (λ l. c.args.moments.now.items ++ beginnings_from [] c.args.first (map event_of l)) (take_all c.events.actor-index c.args.actors.now c.events-test.false)
