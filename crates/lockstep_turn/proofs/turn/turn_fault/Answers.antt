-- Where it goes its updates turn.
use Rattle.std.proofs.Common.{refl, subst}
use Rattle.race_notes.specs.Notes.{HasNoNotes}
use Rattle.lockstep_turn.proofs.turn.turn_fault.Goals as goal

pub turn_all_writes-requires-clause-there : goal.turn_all_writes-requires-clause-there
turn_all_writes-requires-clause-there g c κs within = c.requires.there c.if-not-each.false

pub returns-then-not-each : goal.returns-then-not-each
returns-then-not-each g c = record {
  fault = refl;
  goes = refl;
  spare = refl;
  tried = refl;
  turns = λ still. (let no : ⊥ = cc in absurd no);
  cleared = λ still. (let no : ⊥ = cc in absurd no);
  together = λ still. (let no : ⊥ = cc in absurd no);
}

pub returns : goal.returns
returns g c = record {
  fault = refl;
  goes = refl;
  spare = refl;
  tried = refl;
  turns = λ still. c.in_ok-turn_all_writes.ensures;
  together = λ still. c.clear-2.ensures.items;
  cleared = λ still. subst (λ n. HasNoNotes n c.clear.new.self) c.moment.ensures c.clear.ensures;
}
