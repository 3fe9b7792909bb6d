-- Phase by phase.
use Rattle.std.proofs.Common.{◌≡◌, ℕ, ◌+◌, ◌<◌, List, [], ◌∷◌, ◌++◌, length, get_or, map, take, sym, ap, subst, ◌∙◌}
use Rattle.std.proofs.lemmas.List.{take_more, map_push}
use Rattle.v_design.specs.States.{Event}
use Rattle.causal_monitor.specs.declared.slot.Actor.{Actor}
use Rattle.slot_record.specs.Records.{event_of}
use Rattle.window_blocks.specs.Gathered.{GathersBlocks}
use Rattle.window_blocks.specs.declared.table.BlockTable.{BlockTable}
use Rattle.window_blocks.proofs.Listed.{GathersBlocks-more}
use Rattle.window_blocks.proofs.table.BlockTable.push_slot.Goals as goal

abbrev own_events : List Actor → List Event
own_events actors = map event_of actors

lists-more : (phases : List (List Actor)) (i : ℕ) (own : List Actor) → i < length phases → own ≡ get_or phases i own →
    map own_events (take (i + 1) phases) ≡ map own_events (take i phases) ++ own_events own ∷ []
lists-more phases i own low at =
    ap (map own_events) (take_more phases i own low) ∙ map_push own_events (take i phases) (get_or phases i own) ∙ ap (λ a. map own_events (take i phases) ++ own_events a ∷ []) (sym at)

one-more : (phases : List (List Actor)) (i : ℕ) (own read : List Actor) (old between new : BlockTable) → i < length phases → own ≡ get_or phases i own → read ≡ own →
    GathersBlocks (map own_events (take i phases)) old between → GathersBlocks (own_events read ∷ []) between new → GathersBlocks (map own_events (take (i + 1) phases)) old new
one-more phases i own read old between new low at same had grown =
    subst (λ l. GathersBlocks l old new) (sym (lists-more phases i own low at))
    (GathersBlocks-more (map own_events (take i phases)) (own_events own ∷ []) old between new had (subst (λ a. GathersBlocks (own_events a ∷ []) between new) same grown))

pub phases-preserved : goal.phases-preserved
phases-preserved c =
    one-more c.as_slice-phases.result.now c.phases.actors-index c.actors-item.result c.as_slice.result.now c.args.self.now c.phases.self c.push_phase.new.self c.phases-test.true c.actors-item.is
    c.as_slice.ensures c.phases.invariant c.in_ok-push_phase.ensures
