-- There is a list of lanes for a time just where an update is due at it.
use Rattle.std.proofs.Common.{◌≡◌, ◌∙◌, List, [], ◌∷◌, Option, Some, None, sym, ap, refl, subst, map}
use Rattle.std.specs.Prelude.{is_some}
use Rattle.std.specs.Option.{option_map}
use Rattle.vf_base.specs.Lists.{AllHold}
use Rattle.v_design.specs.States.{is_any, some_in, is_due}
use Rattle.event_queue.specs.Queues.{HeldProcess, ComesAfter, lanes_from}
use Rattle.event_queue.specs.Arranged.{held_by_process, updates_at, lane_of, listed_in}
use Rattle.event_queue.proofs.Releases.{lanes_from-is_any}
use Rattle.event_queue.proofs.Turns.{due-some_in}
use Rattle.event_queue.proofs.queue.Queue.has_due.Goals as goal

is_some-map : {A B : Type 0} (f : A → B) (o : Option A) → is_some (option_map f o) ≡ is_some o
is_some-map f None = refl
is_some-map f (Some x) = refl

is_some-listed : {A : Type 0} (xs : List A) → is_some (listed_in xs) ≡ is_any xs
is_some-listed [] = refl
is_some-listed (x ∷ xs) = refl

pub returns : goal.returns
returns c =
    let held : List HeldProcess = held_by_process c.self.inside.processes.items in
    let t = c.args.now in
    let after : AllHold (ComesAfter t) held = subst (AllHold (ComesAfter t)) (sym c.self.view_is) c.requires in
    c.contains_key.ensures ∙ sym (is_some-map (map lane_of) _) ∙ ap is_some (c.self.invariant.lanes_are t) ∙ is_some-listed (lanes_from (updates_at t) 0 held)
    ∙ lanes_from-is_any t 0 held ∙ sym (due-some_in t held after) ∙ ap (some_in (λ (h : HeldProcess). some_in (is_due t) h.later)) c.self.view_is
