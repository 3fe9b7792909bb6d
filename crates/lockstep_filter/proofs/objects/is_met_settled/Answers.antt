-- From the moment that is noted on, nothing that is written reaches the object.
use Rattle.std.proofs.Common.{◌≡◌, ◌≤◌, Bool, true, false, not, refl, sym, ap, subst, ◌∙◌, nat_lt}
use Rattle.vf_base.specs.Base.{object_number}
use Rattle.v_design.specs.Paths.{paths}
use Rattle.v_design.specs.States.{found_or}
use Rattle.race_notes.specs.declared.note.ObjectNote.{ObjectNote}
use Rattle.phase_reach.specs.lockstep_notes.Notes.{some_reaches}
use Rattle.lockstep_filter.proofs.objects.is_met_settled.Goals as goal

unless : (b c : Bool) → (b ≡ true → c ≡ true) → c ≡ false → b ≡ false
unless true c f e = sym (f refl) ∙ e
unless false c f e = refl

is-false : (b : Bool) → not b ≡ true → b ≡ false
is-false true e = cc
is-false false e = refl

pub returns-clause-settled : goal.returns-clause-settled
returns-clause-settled g c = λ yes.
    let design = g.N.World.design in
    let object = object_number c.args.object in
    let met = c.is_met_alone.ensures c.if-not-is_met_alone.false in
    let same : met.since ≡ c.in-Some.since = ap (found_or 0) (sym met.since_is ∙ ap (λ (note : ObjectNote). note.since) (sym c.note_of.ensures) ∙ c.in-Some.is) in
    record {
      met = met;
      unreached = record {
        own = unless (some_reaches design c.args.notes.now.changed object) c.contains.result (λ there. c.contains.ensures ∙ c.requires.own object there) c.if-contains.false;
        good = λ source moment since before written.
            unless (nat_lt 0 (paths design source object)) c.contains-2.result
            (λ reaches.
            c.contains-2.ensures ∙ c.reach_between.ensures.all c.if-not-reach_between.false source moment object (subst (λ n. n ≤ moment) same since) before written reaches)
            (is-false c.contains-2.result yes);
      };
    }
