-- What comes before lines behind an open one goes on with it, or stands behind it.
use Rattle.std.proofs.Common.{◌≡◌, ℕ, ◌+◌, Bool, true, false, List, [], ◌∷◌, ◌++◌, refl, sym, ap, subst, ◌∙◌, arith, append_assoc}
use Rattle.std.specs.Prelude.{Option, Some, None, nat_eq}
use Rattle.std.proofs.lemmas.Bool.{eqb-true, eq-eqb}
use Rattle.vf_base.specs.Lists.{AllHold}
use Rattle.v_design.specs.Runs.{only_if}
use Rattle.cert_laws.specs.Replays.{RunLine, SlotAt, PhaseNumber, StepsOf, UpdatesOf}
use Rattle.cert_laws.specs.Written.{with_step, with_update, run_line_text}
use Rattle.cert_text.specs.Fits.{RunFits}
use Rattle.run_lines.specs.Open.{lines_text, with_steps, with_updates, onto, step_more, update_more, IsAfter, GoesOn}

-- One step, or one update

steps-one : (process : ℕ) (lines : List RunLine) → with_step process lines ≡ with_steps process 1 lines
steps-one process [] = refl
steps-one process (StepsOf other count ∷ lines) = refl
steps-one process (UpdatesOf other count ∷ lines) = refl
steps-one process (SlotAt time ∷ lines) = refl
steps-one process (PhaseNumber number ∷ lines) = refl

updates-one : (process : ℕ) (lines : List RunLine) → with_update process lines ≡ with_updates process 1 lines
updates-one process [] = refl
updates-one process (StepsOf other count ∷ lines) = refl
updates-one process (UpdatesOf other count ∷ lines) = refl
updates-one process (SlotAt time ∷ lines) = refl
updates-one process (PhaseNumber number ∷ lines) = refl

-- Lines of one process

steps-join : (process count more : ℕ) (lines : List RunLine) → with_steps process count (StepsOf process more ∷ lines) ≡ StepsOf process (more + count) ∷ lines
steps-join process count more lines =
    ap (λ b. elim b [ true ↦ StepsOf process (more + count) ∷ lines | false ↦ StepsOf process count ∷ StepsOf process more ∷ lines ]) (eq-eqb process process refl)

updates-join : (process count more : ℕ) (lines : List RunLine) → with_updates process count (UpdatesOf process more ∷ lines) ≡ UpdatesOf process (more + count) ∷ lines
updates-join process count more lines =
    ap (λ b. elim b [ true ↦ UpdatesOf process (more + count) ∷ lines | false ↦ UpdatesOf process count ∷ UpdatesOf process more ∷ lines ]) (eq-eqb process process refl)

steps-front : (process count : ℕ) (lines : List RunLine) → with_steps process count (StepsOf process 1 ∷ lines) ≡ StepsOf process (count + 1) ∷ lines
steps-front process count lines = steps-join process count 1 lines ∙ (let e : 1 + count ≡ count + 1 = omega arith in ap (λ n. StepsOf process n ∷ lines) e)

updates-front : (process count : ℕ) (lines : List RunLine) → with_updates process count (UpdatesOf process 1 ∷ lines) ≡ UpdatesOf process (count + 1) ∷ lines
updates-front process count lines = updates-join process count 1 lines ∙ (let e : 1 + count ≡ count + 1 = omega arith in ap (λ n. UpdatesOf process n ∷ lines) e)

steps-more : (process count : ℕ) (lines : List RunLine) → with_steps process count (with_steps process 1 lines) ≡ with_steps process (count + 1) lines
steps-more process count [] = steps-front process count []
steps-more process count (UpdatesOf other more ∷ lines) = steps-front process count (UpdatesOf other more ∷ lines)
steps-more process count (SlotAt time ∷ lines) = steps-front process count (SlotAt time ∷ lines)
steps-more process count (PhaseNumber number ∷ lines) = steps-front process count (PhaseNumber number ∷ lines)
steps-more process count (StepsOf other more ∷ lines) = go (nat_eq other process)
  where
    go : (b : Bool) → with_steps process count (elim b [ true ↦ StepsOf process (more + 1) ∷ lines | false ↦ StepsOf process 1 ∷ StepsOf other more ∷ lines ])
        ≡ elim b [ true ↦ StepsOf process (more + (count + 1)) ∷ lines | false ↦ StepsOf process (count + 1) ∷ StepsOf other more ∷ lines ]
    go true = steps-join process count (more + 1) lines ∙ (let e : more + 1 + count ≡ more + (count + 1) = omega arith in ap (λ n. StepsOf process n ∷ lines) e)
    go false = steps-front process count (StepsOf other more ∷ lines)

updates-more : (process count : ℕ) (lines : List RunLine) → with_updates process count (with_updates process 1 lines) ≡ with_updates process (count + 1) lines
updates-more process count [] = updates-front process count []
updates-more process count (StepsOf other more ∷ lines) = updates-front process count (StepsOf other more ∷ lines)
updates-more process count (SlotAt time ∷ lines) = updates-front process count (SlotAt time ∷ lines)
updates-more process count (PhaseNumber number ∷ lines) = updates-front process count (PhaseNumber number ∷ lines)
updates-more process count (UpdatesOf other more ∷ lines) = go (nat_eq other process)
  where
    go : (b : Bool) → with_updates process count (elim b [ true ↦ UpdatesOf process (more + 1) ∷ lines | false ↦ UpdatesOf process 1 ∷ UpdatesOf other more ∷ lines ])
        ≡ elim b [ true ↦ UpdatesOf process (more + (count + 1)) ∷ lines | false ↦ UpdatesOf process (count + 1) ∷ UpdatesOf other more ∷ lines ]
    go true = updates-join process count (more + 1) lines ∙ (let e : more + 1 + count ≡ more + (count + 1) = omega arith in ap (λ n. UpdatesOf process n ∷ lines) e)
    go false = updates-front process count (UpdatesOf other more ∷ lines)

-- Lines of others

-- the first line of steps before lines
record Begins (make : ℕ → RunLine) (lines : List RunLine) : Type 0 where
  count : ℕ
  rest : List RunLine
  is : lines ≡ make count ∷ rest

steps-begin : (process : ℕ) (lines : List RunLine) → Begins (StepsOf process) (with_steps process 1 lines)
steps-begin process [] = record { count = 1; rest = []; is = refl }
steps-begin process (UpdatesOf other more ∷ lines) = record { count = 1; rest = UpdatesOf other more ∷ lines; is = refl }
steps-begin process (SlotAt time ∷ lines) = record { count = 1; rest = SlotAt time ∷ lines; is = refl }
steps-begin process (PhaseNumber number ∷ lines) = record { count = 1; rest = PhaseNumber number ∷ lines; is = refl }
steps-begin process (StepsOf other more ∷ lines) = go (nat_eq other process)
  where
    go : (b : Bool) → Begins (StepsOf process) (elim b [ true ↦ StepsOf process (more + 1) ∷ lines | false ↦ StepsOf process 1 ∷ StepsOf other more ∷ lines ])
    go true = record { count = more + 1; rest = lines; is = refl }
    go false = record { count = 1; rest = StepsOf other more ∷ lines; is = refl }

updates-begin : (process : ℕ) (lines : List RunLine) → Begins (UpdatesOf process) (with_updates process 1 lines)
updates-begin process [] = record { count = 1; rest = []; is = refl }
updates-begin process (StepsOf other more ∷ lines) = record { count = 1; rest = StepsOf other more ∷ lines; is = refl }
updates-begin process (SlotAt time ∷ lines) = record { count = 1; rest = SlotAt time ∷ lines; is = refl }
updates-begin process (PhaseNumber number ∷ lines) = record { count = 1; rest = PhaseNumber number ∷ lines; is = refl }
updates-begin process (UpdatesOf other more ∷ lines) = go (nat_eq other process)
  where
    go : (b : Bool) → Begins (UpdatesOf process) (elim b [ true ↦ UpdatesOf process (more + 1) ∷ lines | false ↦ UpdatesOf process 1 ∷ UpdatesOf other more ∷ lines ])
    go true = record { count = more + 1; rest = lines; is = refl }
    go false = record { count = 1; rest = UpdatesOf other more ∷ lines; is = refl }

symmetric : (one other : ℕ) → nat_eq one other ≡ false → nat_eq other one ≡ false
symmetric one other e = go (nat_eq other one) refl
  where
    go : (b : Bool) → nat_eq other one ≡ b → nat_eq other one ≡ false
    go true f = absurd (differ (sym e ∙ eq-eqb one other (sym (eqb-true other one f))))
      where
        differ : false ≡ true → ⊥
        differ g = cc
    go false f = f

steps-apart : (process other count : ℕ) (lines : List RunLine) → nat_eq other process ≡ false → with_steps other count (with_steps process 1 lines) ≡ StepsOf other count ∷ with_steps process 1 lines
steps-apart process other count lines e =
    let b = steps-begin process lines in
    subst (λ behind. with_steps other count behind ≡ StepsOf other count ∷ behind) (sym b.is)
    (ap (λ t. elim t [ true ↦ StepsOf other (b.count + count) ∷ b.rest | false ↦ StepsOf other count ∷ StepsOf process b.count ∷ b.rest ]) (symmetric other process e))

updates-apart : (process other count : ℕ) (lines : List RunLine) → nat_eq other process ≡ false →
    with_updates other count (with_updates process 1 lines) ≡ UpdatesOf other count ∷ with_updates process 1 lines
updates-apart process other count lines e =
    let b = updates-begin process lines in
    subst (λ behind. with_updates other count behind ≡ UpdatesOf other count ∷ behind) (sym b.is)
    (ap (λ t. elim t [ true ↦ UpdatesOf other (b.count + count) ∷ b.rest | false ↦ UpdatesOf other count ∷ UpdatesOf process b.count ∷ b.rest ]) (symmetric other process e))

steps-behind : (process other count : ℕ) (lines : List RunLine) → with_updates other count (with_steps process 1 lines) ≡ UpdatesOf other count ∷ with_steps process 1 lines
steps-behind process other count lines =
    let b = steps-begin process lines in subst (λ behind. with_updates other count behind ≡ UpdatesOf other count ∷ behind) (sym b.is) refl

updates-behind : (process other count : ℕ) (lines : List RunLine) → with_steps other count (with_updates process 1 lines) ≡ StepsOf other count ∷ with_updates process 1 lines
updates-behind process other count lines =
    let b = updates-begin process lines in subst (λ behind. with_steps other count behind ≡ StepsOf other count ∷ behind) (sym b.is) refl

-- An open line

-- an open line that goes on by one more, and one that doesn't
abbrev GoesOrStands : RunLine → List RunLine → Option RunLine → List RunLine → List RunLine → Type 0
GoesOrStands last before None lines next = onto last before ≡ last ∷ next
GoesOrStands last before (Some longer) lines next = onto last before ≡ onto longer lines

step-onto : (process : ℕ) (last : RunLine) (lines : List RunLine) → GoesOrStands last (with_steps process 1 lines) (step_more process last) lines (with_steps process 1 lines)
step-onto process (SlotAt time) lines = refl
step-onto process (PhaseNumber number) lines = refl
step-onto process (UpdatesOf other count) lines = steps-behind process other count lines
step-onto process (StepsOf other count) lines = go (nat_eq other process) refl
  where
    go : (b : Bool) → nat_eq other process ≡ b →
        GoesOrStands (StepsOf other count) (with_steps process 1 lines) (only_if b (StepsOf process (count + 1))) lines (with_steps process 1 lines)
    go true e = subst (λ p. with_steps p count (with_steps process 1 lines) ≡ with_steps process (count + 1) lines) (sym (eqb-true other process e)) (steps-more process count lines)
    go false e = steps-apart process other count lines e

update-onto : (process : ℕ) (last : RunLine) (lines : List RunLine) → GoesOrStands last (with_updates process 1 lines) (update_more process last) lines (with_updates process 1 lines)
update-onto process (SlotAt time) lines = refl
update-onto process (PhaseNumber number) lines = refl
update-onto process (StepsOf other count) lines = updates-behind process other count lines
update-onto process (UpdatesOf other count) lines = go (nat_eq other process) refl
  where
    go : (b : Bool) → nat_eq other process ≡ b →
        GoesOrStands (UpdatesOf other count) (with_updates process 1 lines) (only_if b (UpdatesOf process (count + 1))) lines (with_updates process 1 lines)
    go true e = subst (λ p. with_updates p count (with_updates process 1 lines) ≡ with_updates process (count + 1) lines) (sym (eqb-true other process e)) (updates-more process count lines)
    go false e = updates-apart process other count lines e

-- the text goes on so, and the numbers fit
goes-on : (old new : List ℕ) (last next line : RunLine) (longer : Option RunLine) (lines before : List RunLine) → IsAfter old last longer next new line →
    GoesOrStands last before longer lines (onto next lines) →
    (new ++ lines_text (onto line lines) ≡ old ++ lines_text (onto last before)) × (AllHold RunFits (onto line lines) → AllHold RunFits (onto last before))
goes-on old new last next line None lines before a s = (
  (λ i. a.0 i ++ lines_text (onto (a.1 i) lines)) ∙ append_assoc old (run_line_text last) (lines_text (onto next lines)) ∙ ap (λ l. old ++ lines_text l) (sym s),
  λ fits. subst (AllHold RunFits) (sym s) (a.2, subst (λ l. AllHold RunFits (onto l lines)) a.1 fits),
)
goes-on old new last next line (Some longer) lines before a s = (
  (λ i. a.0 i ++ lines_text (onto (a.1 i) lines)) ∙ ap (λ l. old ++ lines_text l) (sym s),
  λ fits. subst (AllHold RunFits) (sym s) (subst (λ l. AllHold RunFits (onto l lines)) a.1 fits),
)

pub step-goes : (old new : List ℕ) (last line : RunLine) (process : ℕ) → IsAfter old last (step_more process last) (StepsOf process 1) new line → GoesOn old last (with_step process) new line
step-goes old new last line process a lines =
    subst (λ before. (new ++ lines_text (onto line lines) ≡ old ++ lines_text (onto last before)) × (AllHold RunFits (onto line lines) → AllHold RunFits (onto last before)))
    (sym (steps-one process lines))
    (goes-on old new last (StepsOf process 1) line (step_more process last) lines (with_steps process 1 lines) a (step-onto process last lines))

pub update-goes : (old new : List ℕ) (last line : RunLine) (process : ℕ) → IsAfter old last (update_more process last) (UpdatesOf process 1) new line → GoesOn old last (with_update process) new line
update-goes old new last line process a lines =
    subst (λ before. (new ++ lines_text (onto line lines) ≡ old ++ lines_text (onto last before)) × (AllHold RunFits (onto line lines) → AllHold RunFits (onto last before)))
    (sym (updates-one process lines))
    (goes-on old new last (UpdatesOf process 1) line (update_more process last) lines (with_updates process 1 lines) a (update-onto process last lines))

-- before nothing an open line is the last
pub onto-nothing : (last : RunLine) → onto last [] ≡ last ∷ []
onto-nothing (SlotAt time) = refl
onto-nothing (PhaseNumber number) = refl
onto-nothing (StepsOf process count) = refl
onto-nothing (UpdatesOf process count) = refl
