-- The list of the postponed has an element just where a process is postponed.
use Rattle.std.proofs.Common.{◌≡◌, suc, ◌∙◌, not, nat_eq, length, List, [], ◌∷◌, ap, refl, arith}
use Rattle.std.proofs.lemmas.Bool.{ne_eqb}
use Rattle.v_design.specs.States.{is_any, some_in}
use Rattle.event_queue.specs.Queues.{HeldProcess, is_postponed}
use Rattle.event_queue.specs.Arranged.{held_by_process}
use Rattle.event_queue.proofs.Releases.{processes_where-is_any}
use Rattle.event_queue.proofs.queue.Queue.has_postponed.Goals as goal

is_any-length : {A : Type 0} (xs : List A) → not (nat_eq (length xs) 0) ≡ is_any xs
is_any-length [] = refl
is_any-length (x ∷ xs) = ap not (ne_eqb (suc (length xs)) 0 (λ z. absurd (omega arith)))

pub returns : goal.returns
returns c =
    let held : List HeldProcess = held_by_process c.self.inside.processes.items in
    ap not c.is_empty.ensures ∙ is_any-length c.as_slice.result.now ∙ ap is_any (c.as_slice.ensures ∙ c.self.invariant.postponed_are) ∙ processes_where-is_any is_postponed held
    ∙ ap (some_in (λ (h : HeldProcess). is_postponed h.holding)) c.self.view_is
