-- What a copy's states do, by any codes of the design's processes (nothing of the language).
use Rattle.std.proofs.Common.{◌≡◌, ℕ, ◌<◌, ◌≤◌, List, [], ◌∷◌, length, sym, ap, ◌∙◌, arith, inl, inr}
use Rattle.std.specs.Prelude.{Option, Some, None, slice_get}
use Rattle.std.proofs.lemmas.Option.{slice_get_cases, slice_get_past, slice_get_within}
use Rattle.vf_base.specs.Lists.{AllHold}
use Rattle.v_design.specs.Designs.{FlatDesign, FlatProcess}
use Rattle.v_design.specs.Plain.{process_of}
use Rattle.v_design.specs.Processes.{Activity, Done}
use Rattle.process_code.specs.Layouts.{Layout, layout_of_body}
use Rattle.process_code.specs.OneCode.{CodesReadAlike}
use Rattle.process_code.specs.Points.{activity_at, point_of}
use Rattle.process_code.specs.StatesOf.{IsStateOf}
use Rattle.process_code.specs.declared.code.Code.{Code}
use Rattle.process_code.specs.declared.state.ProcState.{ProcState}
use Rattle.run_ends.specs.RunEnds.{AreCodesOf, IsCodeAt}
use Rattle.copy_state.specs.Entries.{each_by}
use Rattle.copy_state.specs.Kept.{CopyKept, AreStatesOf, done_by, differences_of}
use Rattle.copy_window.specs.Copies.{done_in, differences_in}

some-is : {A : Type 0} (one other : A) → Some one ≡ Some other → one ≡ other
some-is one other e = cc

-- what a process does in a state, if it is one of the design
abbrev done_if : Option FlatProcess → ProcState → Activity
done_if process state = elim process [ None ↦ Done | Some own ↦ activity_at (layout_of_body own.body).rests (point_of state) ]

-- the design tells what a state does by a code of its process
done-is : (design : FlatDesign) (codes : List Code) → AreCodesOf design codes → (process : ℕ) (state : ProcState) → done_by (slice_get codes process) state ≡ done_in design process state
done-is design codes are process state = elim (slice_get_cases codes process).1 [
  | inl found ↦
      let at : IsCodeAt design process found.0 = are.each process found.0 found.2 in
      ap (λ (o : Option Code). done_by o state) found.2
      ∙ ap (λ (l : Layout). activity_at l.rests (point_of state)) at.code_of.layout
      ∙ sym (ap (λ (o : Option FlatProcess). done_if o state) at.process_is)
  | inr past ↦
      ap (λ (o : Option Code). done_by o state) past.1
      ∙ sym (ap (λ (o : Option FlatProcess). done_if o state) (slice_get_past design.processes process (omega (arith, are.count, past.0))))
]

-- so it tells the differences for which a copy stands
pub differences-are : (design : FlatDesign) (codes : List Code) (kept : CopyKept) → AreCodesOf design codes → differences_of codes kept ≡ differences_in design kept
differences-are design codes kept are =
    λ i. record {
      values = kept.values;
      activities = each_by (λ (process : ℕ) (state : ProcState). done-is design codes are process state i) kept.states;
      updates = kept.updates;
    }

-- states of some codes are states of any others
pub states-alike : CodesReadAlike → (design : FlatDesign) (codes others : List Code) (states : List (ℕ × ProcState)) → AreCodesOf design codes → AreCodesOf design others →
    AreStatesOf codes states → AreStatesOf others states
states-alike read design codes others [] are also all = tt
states-alike read design codes others (entry ∷ states) are also all = (λ other there. here other there, states-alike read design codes others states are also all.1)
  where
    here : (other : Code) → slice_get others entry.0 ≡ Some other → IsStateOf other entry.1
    here other there = elim (slice_get_cases codes entry.0).1 [
      | inl found ↦
          let one : IsCodeAt design entry.0 found.0 = are.each entry.0 found.0 found.2 in
          let two : IsCodeAt design entry.0 other = also.each entry.0 other there in
          (read found.0 other
          (record {
            same = some-is (process_of found.0.process.now) (process_of other.process.now) (sym one.process_is ∙ two.process_is);
            first = one.code_of;
            second = two.code_of;
          })).states entry.1 (all.0 found.0 found.2)
      | inr past ↦
          let low : entry.0 < length others = slice_get_within others entry.0 other there in
          absurd (omega (arith, low, past.0, are.count, also.count))
    ]
