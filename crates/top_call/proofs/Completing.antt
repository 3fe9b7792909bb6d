-- A form that has what it needs ends done, unless memory is wanting or the outside failed.
use Rattle.std.proofs.Common.{◌≡◌, ℕ, List, Option, Some, None, Err, sym, subst, ◌∙◌, inl, inr}
use Rattle.vf_base.specs.Shelf.{Files}
use Rattle.vf_words.specs.Words.{Form, Fits}
use Rattle.vf_status.specs.declared.status.Status.{Status}
use Rattle.vf_status.specs.declared.status.Status.TheVariants.{Done, Refused, Usage, ReadFault, WriteFault, NoMemory, GoodLoop, TooLong}
use Rattle.top_call.specs.Answers.{Answer, Outputs, Refuses, Lacks, Exceeds, Loops, IsAnswer, IsTheAnswer}
use Rattle.top_call.specs.Inputs.{HasInput, AnswersExist}
use Rattle.top_call.specs.Outside.{IfTold, ShelfCounts, files_for, ReadFailed, PutGives, EndsDone}
use Rattle.top_call.specs.Making.{OutputGives}
use Rattle.top_call.proofs.Making.{same-form, as-told-for}

module _ (form : Form) (held : Option Files) (old new : ShelfCounts) (sink_old sink_new : ℕ) (files : Files) (told : held ≡ Some files)
    (some : ((text : List ℕ) → IsAnswer form files (Outputs text) → ⊥) → ⊥) where
  -- what is no output isn't the answer
  not-the : (answer : Answer) → ((text : List ℕ) → Outputs text ≡ answer → ⊥) → IsTheAnswer form files answer → ⊥
  not-the answer other is = some (λ text h. other text (is.only (Outputs text) h))

  not-told : (answer : Answer) → ((text : List ℕ) → Outputs text ≡ answer → ⊥) → IfTold held (λ found. IsTheAnswer form found answer) → ⊥
  not-told answer other h = not-the answer other (subst (λ t. IfTold t (λ found. IsTheAnswer form found answer)) told h)

  not-found : (answer : Answer) → ((text : List ℕ) → Outputs text ≡ answer → ⊥) → (found : Files) → held ≡ Some found → IsTheAnswer form found answer → ⊥
  not-found answer other found e is =
      let same : Some found ≡ Some files = sym e ∙ told in
      let one : found ≡ files = cc in not-the answer other (subst (λ fs. IsTheAnswer form fs answer) one is)

  pub ends-at-err : (status : Status) → OutputGives form held old new (Err status) → EndsDone form files old new sink_old sink_new status
  ends-at-err Done h = absurd h
  ends-at-err (Refused why) h = not-told (Refuses why) (λ text e. cc) h
  ends-at-err Usage h = absurd h
  ends-at-err (ReadFault which) (inl failed) = subst (λ t. ReadFailed form t which old new) told failed
  ends-at-err (ReadFault which) (inr lacks) = absurd (not-found (Lacks which) (λ text e. cc) lacks.0 lacks.1 lacks.2)
  ends-at-err WriteFault h = absurd h
  ends-at-err NoMemory h = tt
  ends-at-err (GoodLoop time) h = not-told (Loops time) (λ text e. cc) h
  ends-at-err (TooLong which) (inl long) = let none : None ≡ Some files = sym long.untold ∙ told in cc
  ends-at-err (TooLong which) (inr long) = not-found (Exceeds which) (λ text e. cc) long.0 long.1 long.2

-- what putting the output answers
ends-at-put : (form : Form) (files : Files) (old new : ShelfCounts) (text : List ℕ) (before after : Option (List ℕ)) (sink_old sink_new : ℕ) (status : Status) →
    PutGives before text after sink_old sink_new status → EndsDone form files old new sink_old sink_new status
ends-at-put form files old new text before after sink_old sink_new Done h = tt
ends-at-put form files old new text before after sink_old sink_new (Refused why) h = absurd h
ends-at-put form files old new text before after sink_old sink_new Usage h = absurd h
ends-at-put form files old new text before after sink_old sink_new (ReadFault which) h = absurd h
ends-at-put form files old new text before after sink_old sink_new WriteFault h = h.1
ends-at-put form files old new text before after sink_old sink_new NoMemory h = tt
ends-at-put form files old new text before after sink_old sink_new (GoodLoop time) h = absurd h
ends-at-put form files old new text before after sink_old sink_new (TooLong which) h = absurd h

-- The call at its end

module _ (asked : Option Form) (form : Form) (is_form : Some form ≡ asked) (fits : Fits form) (exist : AnswersExist) (held : Option Files) (old new : ShelfCounts) where
  pub done-at-err : (sink_old sink_new : ℕ) (status : Status) → OutputGives form (files_for form held) old new (Err status) → (other : Form) (files : Files) → asked ≡ Some other →
      files_for other held ≡ Some files →
      HasInput other files → EndsDone other files old new sink_old sink_new status
  done-at-err sink_old sink_new status h other files e told input =
      let same : other ≡ form = same-form asked form is_form held old new other e in
      subst (λ f. EndsDone f files old new sink_old sink_new status) (sym same)
      (ends-at-err form (files_for form held) old new sink_old sink_new files (as-told-for asked form is_form held old new other files e told)
      (exist form files fits (subst (λ f. HasInput f files) same input)) status h)

  pub done-at-end : (text : List ℕ) (sink_held sink_after : Option (List ℕ)) (before after : ℕ) (status : Status) → PutGives sink_held text sink_after before after status →
      (other : Form) (files : Files) → asked ≡ Some other → files_for other held ≡ Some files → HasInput other files → EndsDone other files old new before after status
  done-at-end text sink_held sink_after before after status h other files e told input = ends-at-put other files old new text sink_held sink_after before after status h
