use Rattle.std.proofs.Common.{◌≡◌, ◌∙◌, ℕ, Bool, List, false, length, ap, sym, subst, arith}
use Rattle.event_queue.specs.Queues.{repeated}
use Rattle.process_table.specs.Sets.{IsSet}
use Rattle.process_table.proofs.Members.{set-none, repeated-length}
use Rattle.process_table.proofs.set.ProcessSet.clear.Goals as goal

pub overflow_cast-self : goal.overflow_cast-self
overflow_cast-self c =
    let n : ℕ = length c.self.inside.members.items in
    omega (arith, c.self.invariant.few, c.len.ensures, ap length c.clear_members.ensures, repeated-length false n)

pub invariant_of-self : goal.invariant_of-self
invariant_of-self c =
    let n : ℕ = length c.self.inside.members.items in
    let long : c.len.result ≡ n = omega (arith, c.len.ensures, ap length c.clear_members.ensures, repeated-length false n) in
    subst (λ (members : List Bool). IsSet members c.len.result) (sym c.clear_members.ensures)
    (subst (λ (k : ℕ). IsSet (repeated false n) k) (sym long) (set-none n c.self.invariant.few))

pub returns : goal.returns
returns c = c.clear_members.ensures ∙ ap (λ (members : List Bool). repeated false (length members)) c.self.view_is
