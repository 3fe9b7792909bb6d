-- Each slot was visited once.
use Rattle.std.proofs.Common.{◌≡◌, ℕ, ap, subst, ◌∙◌}
use Rattle.verdict_words.specs.Last.{sizes_of}
use Rattle.verdict_words.specs.Rule.{once_below, times}
use Rattle.verdict_words.specs.declared.rule.Sizes.{Sizes}
use Rattle.verdict_words.specs.declared.view.View.{View}
use Rattle.shard_turns.specs.Backups.{visited_by, visits_in}
use Rattle.shard_turns.proofs.Counts.{add-up}
use Rattle.shard_turns.proofs.backups.Backups.end.Goals as goal

pub returns : goal.returns
returns g c representatives f counted =
    let closed = c.in_ok-_closed.ensures in
    let once : (x : ℕ) → times x (visited_by c.args.seat) ≡ once_below x (visits_in c.args.self) = λ x.
    subst (λ (s : Sizes). times x (visited_by c.args.seat) ≡ once_below x s.claims) closed.0
    (subst (λ (u : View). times x u.claimed ≡ once_below x (sizes_of c.in_ok-_closed._closed).claims) closed.1 (closed.2.claimed (ap (λ (u : View). u.dry) closed.1 ∙ c.requires.dry) x)) in
    add-up (visits_in c.args.self) (visited_by c.args.seat) once representatives f counted
