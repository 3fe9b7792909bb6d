use Rattle.std.proofs.Common.{◌≡◌, ◌∙◌, ◌++◌, ◌∷◌, [], ◌^◌, ◌<◌, Bool, List, ap, sym, subst, arith}
use Rattle.event_queue.specs.Queues.{repeated}
use Rattle.process_table.specs.Sets.{IsSet}
use Rattle.process_table.proofs.Members.{set-new, repeated-push}
use Rattle.process_table.proofs.set.ProcessSet.new.Goals as goal

pub members-preserved : goal.members-preserved
members-preserved c = c.in_ok-push.ensures.items ∙ ap (λ (ms : List Bool). ms ++ c.args.all ∷ []) c.members.invariant ∙ repeated-push c.args.all c.members.counter

pub returns : goal.returns
returns c = let t = c.members-test.false in let b = c.members.auto in let all : c.members.counter ≡ c.args.count = omega arith in c.members.invariant ∙ ap (repeated c.args.all) all

pub invariant_of-result : goal.invariant_of-result
invariant_of-result c =
    let t = c.members-test.false in
    let b = c.members.auto in
    let all : c.members.counter ≡ c.args.count = omega arith in
    let few : c.args.count < 2 ^ 32 = omega arith in
    subst (λ ms. IsSet ms c.first_least-least.result) (sym (c.members.invariant ∙ ap (repeated c.args.all) all))
    (subst (IsSet (repeated c.args.all c.args.count)) (sym c.first_least-least.ensures) (set-new c.args.all c.args.count few))
