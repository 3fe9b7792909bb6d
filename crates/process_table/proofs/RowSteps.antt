-- What a row does, by the stage of its process (nothing of the language).
use Rattle.std.proofs.Common.{◌≡◌, ℕ, zero, suc, ◌+◌, ◌<◌, ◌≤◌, true, List, [], ◌∷◌, length, map, take, drop, get_or, Some, refl, sym, ap, ◌∙◌, arith}
use Rattle.std.proofs.lemmas.List.{take_all}
use Rattle.four_value.specs.Values.{LogicValue}
use Rattle.v_design.specs.Plain.{process_of, update_of}
use Rattle.v_design.specs.declared.plan.Update.{Update}
use Rattle.v_design.specs.Processes as does
use Rattle.v_design.specs.Processes.{Activity, process_step}
use Rattle.v_design.specs.States.{is_ready, is_any, next_activity, first_update, rest_of}
use Rattle.process_code.specs.Codes.{rests_in_code}
use Rattle.process_code.specs.Points.{Point, point_of, said_by, said_of, tasks_at, activity_of, activity_by}
use Rattle.process_code.specs.StatesOf.{StepsAsDefined}
use Rattle.process_code.specs.Lines.{line_of_tasks, step-line}
use Rattle.process_code.specs.declared.code.Code.{Code}
use Rattle.process_code.specs.declared.state.Did.{Did}
use Rattle.process_code.specs.declared.state.Stage.{Stage}
use Rattle.process_code.specs.declared.state.Stage.TheVariants.{Ready, Waiting, Asleep, Postponed, Done}
use Rattle.process_code.specs.declared.state.ProcState.{ProcState}
use Rattle.process_table.specs.Rows.{step_from, readied, lane_left}

-- a process that is ready is so at its stage
pub ready-stage : (rests : List _) (point : Point) (stage : Stage) → is_ready (activity_by rests point stage) ≡ true → stage ≡ Ready
ready-stage rests point Ready e = refl
ready-stage rests point (Waiting at) e = absurd (cc)
ready-stage rests point (Asleep time) e = absurd (cc)
ready-stage rests point Postponed e = absurd (cc)
ready-stage rests point Done e = absurd (cc)

-- A step on the code is the step of what the row does

module _ (code : Code) (old new : ProcState) (now : ℕ) (values : List LogicValue) (line : ℕ) (did : Did) (ready : old.stage ≡ Ready)
    (lines : line ≡ line_of_tasks (tasks_at (rests_in_code code) (point_of old))) (steps : StepsAsDefined now values code old new did) where
  stands : step_from (process_of code.process.now) now (activity_of code old) ≡ process_step (process_of code.process.now) now (tasks_at (rests_in_code code) (point_of old)) old.operands.items
  stands = ap (λ stage. step_from (process_of code.process.now) now (activity_by (rests_in_code code) (point_of old) stage)) ready

  pub row-line : line ≡ (step_from (process_of code.process.now) now (activity_of code old)).line
  row-line =
      lines ∙ sym (step-line (process_of code.process.now) now (tasks_at (rests_in_code code) (point_of old)) old.operands.items)
      ∙ ap (λ (s : does.ProcessStep). s.line) (sym stands)

  pub row-said : said_by did ≡ said_of now (step_from (process_of code.process.now) now (activity_of code old)).action (step_from (process_of code.process.now) now (activity_of code old)).next
  row-said = steps.says ∙ ap (λ (s : does.ProcessStep). said_of now s.action s.next) (sym stands)

  pub row-activity : activity_of code new ≡ next_activity values (step_from (process_of code.process.now) now (activity_of code old)).action
      (step_from (process_of code.process.now) now (activity_of code old)).next
  row-activity = steps.activity ∙ ap (λ (s : does.ProcessStep). next_activity values s.action s.next) (sym stands)

-- A process is made ready

-- one that is done stays so
pub done-readied : (rests : List _) (point : Point) (stage : Stage) → stage ≡ Done → activity_by rests point stage ≡ readied (activity_by rests point stage)
done-readied rests point Ready e = absurd (cc)
done-readied rests point (Waiting at) e = absurd (cc)
done-readied rests point (Asleep time) e = absurd (cc)
done-readied rests point Postponed e = absurd (cc)
done-readied rests point Done e = refl

-- any other is ready with no operand read
pub others-readied : (rests : List _) (point : Point) (stage : Stage) → (stage ≡ Done → ⊥) → does.Ready (tasks_at rests point) [] ≡ readied (activity_by rests point stage)
others-readied rests point Ready other = refl
others-readied rests point (Waiting at) other = refl
others-readied rests point (Asleep time) other = refl
others-readied rests point Postponed other = refl
others-readied rests point Done other = absurd (other refl)

-- Lanes

-- a lane of which all is taken
pub lane-end : (taken : ℕ) (lane : List Update) → length lane ≤ taken → lane_left taken lane ≡ []
lane-end zero [] past = refl
lane-end zero (update ∷ lane) past = absurd (omega (arith, past))
lane-end (suc taken) [] past = refl
lane-end (suc taken) (update ∷ lane) past = lane-end taken lane (omega (arith, past))

-- the first update that isn't taken
pub lane-first : (taken : ℕ) (lane : List Update) (update : Update) → taken < length lane → update ≡ get_or lane taken update → Some (update_of update) ≡ first_update (lane_left taken lane)
lane-first taken [] update low is = absurd (omega (arith, low))
lane-first zero (first ∷ lane) update low is = ap (λ (u : Update). Some (update_of u)) is
lane-first (suc taken) (first ∷ lane) update low is = lane-first taken lane update (omega (arith, low)) is

-- what is left after it
rest-suc : (taken : ℕ) (lane : List Update) → taken < length lane → lane_left (suc taken) lane ≡ rest_of (lane_left taken lane)
rest-suc taken [] low = absurd (omega (arith, low))
rest-suc zero (first ∷ lane) low = refl
rest-suc (suc taken) (first ∷ lane) low = rest-suc taken lane (omega (arith, low))

pub lane-rest : (taken : ℕ) (lane : List Update) → taken < length lane → lane_left (taken + 1) lane ≡ rest_of (lane_left taken lane)
lane-rest taken lane low = (let e : taken + 1 ≡ suc taken = omega arith in ap (λ n. lane_left n lane) e) ∙ rest-suc taken lane low

-- whether there is one
pub lane-some : (taken : ℕ) (lane : List Update) → taken < length lane → is_any (lane_left taken lane) ≡ true
lane-some taken [] low = absurd (omega (arith, low))
lane-some zero (first ∷ lane) low = refl
lane-some (suc taken) (first ∷ lane) low = lane-some taken lane (omega (arith, low))

-- the updates from where the lane isn't taken
pub lane-from : (taken start n : ℕ) (lane : List Update) → start ≤ taken → start ≤ length lane → (start < taken → length lane ≤ start) → length lane ≤ n + start →
    map update_of (take n (drop start lane)) ≡ lane_left taken lane
lane-from zero zero n lane low within end all = ap (map update_of) (take_all n lane (omega (arith, all)))
lane-from (suc taken) zero n [] low within end all = ap (map update_of) (take_all n [] (omega arith))
lane-from (suc taken) zero n (update ∷ lane) low within end all = absurd (omega (arith, end (omega arith)))
lane-from zero (suc start) n lane low within end all = absurd (omega (arith, low))
lane-from (suc taken) (suc start) n [] low within end all = absurd (omega (arith, within))
lane-from (suc taken) (suc start) n (update ∷ lane) low within end all =
    lane-from taken start n lane (omega (arith, low)) (omega (arith, within)) (λ less. omega (arith, end (omega (arith, less)))) (omega (arith, all))
