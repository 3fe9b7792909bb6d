-- The accesses come to those of the events before, and the event after these.
use Rattle.std.proofs.Common.{◌≡◌, ℕ, ◌+◌, ◌<◌, ◌∙◌, ◌++◌, ◌∷◌, [], length, List, map, ap, sym, subst, arith, rules, length-append}
use Rattle.std.specs.Prelude.{Result, Ok, Err, OnErr}
use Rattle.std.specs.Option.{ForSome}
use Rattle.causal_monitor.specs.declared.noted.Noted.{Noted}
use Rattle.causal_monitor.specs.declared.log.Entry.{Entry}
use Rattle.causal_monitor.specs.Phases.{PhaseOfSlot, with_event}
use Rattle.causal_monitor.specs.Notes.{noted_access}
use Rattle.causal_monitor.specs.Entries.{logged_phase, StandsWithin, IsKept}
use Rattle.causal_monitor.proofs.Kept.{IsKept-more, IsKept-event, logged-same, logged-more, length-logged}
use Rattle.causal_monitor.proofs.log.PhaseLog.note.Goals as goal

kept-as : (held accesses others : List Noted) (entries later : List Entry) → accesses ≡ others → entries ≡ later → IsKept held others later → IsKept held accesses entries
kept-as held accesses others entries later same grown had = subst (IsKept held accesses) (sym grown) (subst (λ a. IsKept held a later) (sym same) had)

on_err : {T E : Type 0} (P : Type 0) (r : Result T E) → P → OnErr r P
on_err P (Ok x) p = tt
on_err P (Err e) p = p

phase_of : ℕ → ℕ → List Noted → List Noted → List Entry → PhaseOfSlot
phase_of time phase held accesses entries = record { time = time; phase = phase; log = logged_phase held accesses entries }

same-phase : (time phase : ℕ) (held accesses others : List Noted) (entries later : List Entry) → accesses ≡ others → entries ≡ later →
    phase_of time phase held accesses entries ≡ phase_of time phase held others later
same-phase time phase held accesses others entries later same grown = λ i. phase_of time phase held (same i) (grown i)

pub invariant_of-self-in_err-push : goal.invariant_of-self-in_err-push
invariant_of-self-in_err-push c =
    let l = c.self.inside in
    kept-as l.held.items c.extend_from_slice.new.self.items (l.accesses.items ++ c.args.accesses.now) c.push.new.self.items l.events.items c.in_ok-extend_from_slice.ensures.items
    c.in_err-push.ensures.items
    (IsKept-more l.held.items l.accesses.items c.args.accesses.now l.events.items c.self.invariant c.requires.noted)

pub returns-in_err-push-clause-err : goal.returns-in_err-push-clause-err
unfolding phase_of
returns-in_err-push-clause-err c =
    let l = c.self.inside in
    on_err _ c.from_residual-in_err-push.result
    (same-phase l.time l.phase l.held.items c.extend_from_slice.new.self.items (l.accesses.items ++ c.args.accesses.now) c.push.new.self.items l.events.items c.in_ok-extend_from_slice.ensures.items
    c.in_err-push.ensures.items
    ∙ (λ i. record {
      time = l.time;
      phase = l.phase;
      log = record {
        held = map noted_access l.held.items;
        events = logged-same l.accesses.items c.args.accesses.now l.events.items c.self.invariant.stand i;
      };
    })
    ∙ c.self.view_is)

pub invariant_of-self-2 : goal.invariant_of-self-2
invariant_of-self-2 c =
    let l = c.self.inside in
    let entry : Entry = record { cause = c.args.cause; start = c.len-start.result; end = c.len-end.result } in
    let long : length (l.accesses.items ++ c.args.accesses.now) ≡ length l.accesses.items + length c.args.accesses.now = length-append l.accesses.items c.args.accesses.now in
    let same : length c.extend_from_slice.new.self.items ≡ length (l.accesses.items ++ c.args.accesses.now) = ap length c.in_ok-extend_from_slice.ensures.items in
    let stands : StandsWithin (length (l.accesses.items ++ c.args.accesses.now)) entry = (omega arith, omega arith) in
    let earlier : ForSome c.args.cause (λ cause. cause < length l.events.items) = λ cause e.
    let Within : PhaseOfSlot → Type 0 = λ p. cause < length p.log.events in
    let less = subst Within (sym c.self.view_is) (c.requires.earlier cause e) in
    let logged = length-logged l.accesses.items l.events.items in
    omega (arith, less, logged) in
    kept-as l.held.items c.extend_from_slice.new.self.items (l.accesses.items ++ c.args.accesses.now) c.push.new.self.items
    (l.events.items ++ entry ∷ []) c.in_ok-extend_from_slice.ensures.items c.in_ok-push.ensures.items
    (IsKept-event l.held.items (l.accesses.items ++ c.args.accesses.now) l.events.items entry
    (IsKept-more l.held.items l.accesses.items c.args.accesses.now l.events.items c.self.invariant c.requires.noted) stands earlier)

pub returns-clause-ok : goal.returns-clause-ok
unfolding phase_of
returns-clause-ok c =
    let l = c.self.inside in
    let entry : Entry = record { cause = c.args.cause; start = c.len-start.result; end = c.len-end.result } in
    let start : c.len-start.result ≡ length l.accesses.items = search rules in
    let end : c.len-end.result ≡ length c.extend_from_slice.new.self.items = search rules in
    same-phase l.time l.phase l.held.items c.extend_from_slice.new.self.items (l.accesses.items ++ c.args.accesses.now) c.push.new.self.items
    (l.events.items ++ entry ∷ []) c.in_ok-extend_from_slice.ensures.items c.in_ok-push.ensures.items
    ∙ (λ i. record {
      time = l.time;
      phase = l.phase;
      log = record {
        held = map noted_access l.held.items;
        events = logged-more l.accesses.items c.args.accesses.now l.events.items entry c.self.invariant.stand start (end ∙ ap length c.in_ok-extend_from_slice.ensures.items) i;
      };
    })
    ∙ ap (with_event (record { cause = c.args.cause; accesses = map noted_access c.args.accesses.now })) c.self.view_is
