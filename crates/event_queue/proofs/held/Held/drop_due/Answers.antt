-- What is retained is what isn't due at the time.
use Rattle.std.proofs.Common.{◌∙◌, List, ap, refl, not, nat_eq, map, rules}
use Rattle.std.proofs.lemmas.Fn.{filter_same}
use Rattle.v_design.specs.declared.plan.Due.{Due}
use Rattle.v_design.specs.States.{LaterUpdate}
use Rattle.v_design.specs.Plain.{due_of}
use Rattle.event_queue.specs.Queues.{HeldProcess}
use Rattle.event_queue.specs.Arranged.{is_at}
use Rattle.event_queue.proofs.Views.{map-filter}
use Rattle.event_queue.proofs.held.Held.drop_due.Goals as goal

pub returns : goal.returns
returns c =
    let kept = filter_same _ (λ (d : Due). not (nat_eq d.time c.args.time)) _ (λ x b f' k. search rules) _ _ c.retain.ensures.filtered in
    let seen = ap (map due_of) kept ∙ map-filter due_of (λ (d : Due). not (nat_eq d.time c.args.time)) (λ later. not (is_at c.args.time later)) (λ x. refl) c.args.self.now.later.items in
    let with : List LaterUpdate → HeldProcess = λ later. record { holding = c.args.self.now.holding; later = later } in
    ap with seen
