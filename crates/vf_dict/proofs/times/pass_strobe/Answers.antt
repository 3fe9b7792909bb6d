-- The sample that comes next is none, of another time, or of this one.
use Rattle.std.proofs.Common.{◌≡◌, ℕ, ◌<◌, ◌+◌, List, [], ◌∷◌, ◌++◌, Bool, true, false, drop, get_or, length, refl, sym, ap, ◌∙◌, append-nil}
use Rattle.std.specs.Prelude.{cond}
use Rattle.std.proofs.lemmas.List.{drop_all, drop_more}
use Rattle.v_design.specs.Grades.{is_hard, some_sample}
use Rattle.kept_samples.specs.declared.kept.Sample.{Sample}
use Rattle.vf_dict.proofs.Sides.{passes-none, passes-other, passes-same}
use Rattle.vf_dict.proofs.times.pass_strobe.Goals as goal
use Rattle.vf_dict.proofs.times.pass_strobe.Goals.{then-hard+in_ok-push, else-hard}

-- the sample that comes next
front : (differs : List Sample) (next : ℕ) (own : Sample) → next < length differs → own ≡ get_or differs next own → drop next differs ≡ own ∷ drop (next + 1) differs
front differs next own below is = drop_more differs next own below ∙ ap (λ x. x ∷ drop (next + 1) differs) (sym is)

-- what is noted
noted : (b : Bool) (before after : List ℕ) (time : ℕ) → b ≡ true → after ≡ before ++ time ∷ [] → after ≡ before ++ cond b (time ∷ []) []
noted b before after time e is = is ∙ ap (λ c. before ++ cond c (time ∷ []) []) (sym e)

nothing-noted : (b : Bool) (before after : List ℕ) (time : ℕ) → b ≡ false → after ≡ before → after ≡ before ++ cond b (time ∷ []) []
nothing-noted b before after time e is = is ∙ sym (ap (λ c. before ++ cond c (time ∷ []) []) e ∙ append-nil before)

pub returns-in_default : goal.returns-in_default
returns-in_default c = passes-none c.args.good.now (drop c.args.next c.args.differs.now) c.args.times.now.items (drop_all c.args.next c.args.differs.now c.in_default.ensures.lookup.3)

pub returns-then-own-good : goal.returns-then-own-good
returns-then-own-good c =
    let there = c.in-Some.ensures.lookup in
    passes-other c.args.good.now c.in-Some.own.now (drop c.args.next c.args.differs.now) (drop (c.args.next + 1) c.args.differs.now) c.args.times.now.items
    (front c.args.differs.now c.args.next c.in-Some.own.now there.3.0 (there.3.1 c.in-Some.own.now)) c.if-own-good.true

pub returns : goal.returns
returns c =
    let there = c.in-Some.ensures.lookup in
    let same : some_sample is_hard c.args.good.now.bits c.in-Some.own.now.bits ≡ c.is_detected-hard.result =
    (λ i. some_sample is_hard (sym c.as_slice.ensures i) (sym c.as_slice-2.ensures i)) ∙ sym c.is_detected-hard.ensures in
    passes-same c.args.good.now c.in-Some.own.now (drop c.args.next c.args.differs.now) (drop (c.args.next + 1) c.args.differs.now) c.args.times.now.items c.if-hard.times.items
    (front c.args.differs.now c.args.next c.in-Some.own.now there.3.0 (there.3.1 c.in-Some.own.now)) c.if-own-good.false
    (elim c.if-hard.branch [
      | then-hard+in_ok-push w ↦ noted (some_sample is_hard c.args.good.now.bits c.in-Some.own.now.bits) c.args.times.now.items c.if-hard.times.items c.in-Some.own.now.time (same ∙ w.if-hard.true)
          (rw w.times-is w.in_ok-push.ensures.items)
      | else-hard w ↦ nothing-noted (some_sample is_hard c.args.good.now.bits c.in-Some.own.now.bits) c.args.times.now.items c.if-hard.times.items c.in-Some.own.now.time (same ∙ w.if-hard.false)
          (rw w.times-is refl)
    ])
