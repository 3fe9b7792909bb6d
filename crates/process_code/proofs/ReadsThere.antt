-- A step reads an object that the body names (IEEE 1364-2001, clause 9).
use Rattle.std.proofs.Common.{◌≡◌, ℕ, zero, suc, ◌+◌, List, [], ◌∷◌, ◌++◌, Bool, true, false, Option, Some, None, refl, sym, subst}
use Rattle.vf_base.specs.Base.{SourcePlace}
use Rattle.four_value.specs.Values.{LogicValue, is_true}
use Rattle.v_design.specs.Trees.{Null, Block, If, Case, For, While, Repeat, Forever, Delay, EventControl, Wait, Blocking, Nonblocking, Finish}
use Rattle.v_design.specs.Reads.{named_in, named_in_targets, named_by, named_by_items}
use Rattle.v_design.specs.Expressions.{Progress, Needs, Has, read_expression}
use Rattle.v_design.specs.Assignments.{ValueUpdate, read_assignment}
use Rattle.v_design.specs.Processes.{read_case}
use Rattle.expr_eval.specs.WidthLaws.{AllHold-left, AllHold-right}
use Rattle.process_operands.specs.Bounds.{Bounds, reads_most, reads_most_items, reads_most_targets}
use Rattle.process_operands.specs.BoundsLaws.{bounds-expression, bounds-case, bounds-assignment}
use Rattle.process_code.specs.Rests.{Part, Runs, TurnsLeft}
use Rattle.process_code.specs.Positions.{PartLeads}
use Rattle.process_code.specs.Points.{Point, StepSaid, ReadsBelow, TakesFirst, said_update, said_delay, SaysInner, SaysAwait, SaysFinished}
use Rattle.process_code.specs.Acts.{Acts, GoesTo, IsDone, Assigns, WaitsUnless, ActsPart, filled}
use Rattle.process_code.specs.StatesOf.{IsGoodPart}
use Rattle.process_code.specs.declared.code.Ways.{Ways}

-- What reads nothing

inner-reads : (limit : ℕ) (said : StepSaid) → said ≡ SaysInner → ReadsBelow limit said
inner-reads limit said e = subst (ReadsBelow limit) (sym e) tt

awaits-reads : (limit : ℕ) (said : StepSaid) → said ≡ SaysAwait → ReadsBelow limit said
awaits-reads limit said e = subst (ReadsBelow limit) (sym e) tt

finished-reads : (limit : ℕ) (said : StepSaid) → said ≡ SaysFinished → ReadsBelow limit said
finished-reads limit said e = subst (ReadsBelow limit) (sym e) tt

delay-reads : (limit now delay : ℕ) (said : StepSaid) → said ≡ said_delay now delay → ReadsBelow limit said
delay-reads limit now zero said e = subst (ReadsBelow limit) (sym e) tt
delay-reads limit now (suc delay) said e = subst (ReadsBelow limit) (sym e) tt

said-reads : (limit now : ℕ) (delay : Option ℕ) (update : Option ValueUpdate) → ReadsBelow limit (said_update delay now update)
said-reads limit now None None = tt
said-reads limit now None (Some update) = tt
said-reads limit now (Some delay) None = tt
said-reads limit now (Some delay) (Some update) = tt

-- an update that is written or appended
pub takes-reads : (limit now : ℕ) (old new : Point) (said : StepSaid) (updates : List (Option ValueUpdate)) → TakesFirst now old new said updates → ReadsBelow limit said
takes-reads limit now old new said [] h = absurd h
takes-reads limit now old new said (update ∷ others) h = subst (ReadsBelow limit) (sym h.1) (said-reads limit now old.delay update)

assigns-reads : (limit now : ℕ) (old : Point) (place : SourcePlace) (delay : Option ℕ) (position : ℕ) (updates : List (Option ValueUpdate)) (new : Point) (said : StepSaid) →
    Assigns now old place delay position updates new said → ReadsBelow limit said
assigns-reads limit now old place None position updates new said h = takes-reads limit now (filled old place None position updates) new said updates h
assigns-reads limit now old place (Some delay) position updates new said h = delay-reads limit now delay said h.1

waits-reads : (limit : ℕ) (old : Point) (inner : ℕ) (holds : Bool) (new : Point) (said : StepSaid) → WaitsUnless old inner holds new said → ReadsBelow limit said
waits-reads limit old inner true new said h = inner-reads limit said h.1
waits-reads limit old inner false new said h = awaits-reads limit said h.1

-- the end of the body
pub end-reads : (limit : ℕ) (always : Bool) (old new : Point) (start : ℕ) (said : StepSaid) → (always ≡ true → GoesTo old start new said) → (always ≡ false → IsDone old new said) →
    ReadsBelow limit said
end-reads limit true old new start said again done = inner-reads limit said (again refl).1
end-reads limit false old new start said again done = finished-reads limit said (done refl).1

-- What reads, or acts with what was read

acts-reads : {A : Type 0} (most limit : ℕ) (values operands : List LogicValue) (progress : Progress A) (act : A → Point → StepSaid → Type 0) (old new : Point) (said : StepSaid) →
    Bounds most limit operands progress → ((answer : A) → act answer new said → ReadsBelow limit said) → Acts values progress act old new said → ReadsBelow limit said
acts-reads most limit values operands (Needs object) act old new said bounds goes h = subst (ReadsBelow limit) (sym h.1) bounds.0
acts-reads most limit values operands (Has answer left) act old new said bounds goes h = goes answer h

-- a step of a part whose statement names objects below a limit
pub part-reads : (limit now : ℕ) (values : List LogicValue) (rests : List (List Part)) (repeats : ℕ) (part : Part) (after : List Part) (ways : Ways) (next : ℕ) (old new : Point) (said : StepSaid) →
    PartLeads repeats rests ways part after → IsGoodPart limit part → ActsPart now values part ways next old new said → ReadsBelow limit said
part-reads limit now values rests repeats (Runs Null) after ways next old new said leads good h = absurd leads
part-reads limit now values rests repeats (Runs (Block many)) after ways next old new said leads good h = absurd leads
part-reads limit now values rests repeats (Runs (If place condition first second)) after ways next old new said leads good h =
    acts-reads (reads_most condition) limit values old.operands (read_expression condition old.operands) _ old new said
    (bounds-expression limit condition old.operands (AllHold-left _ (named_in condition) (named_by first ++ named_by second) good.1)) (λ value g. inner-reads limit said g.1) h
part-reads limit now values rests repeats (Runs (Case place kind value items default)) after ways next old new said leads good h =
    acts-reads (reads_most value + reads_most_items items) limit values old.operands (read_case kind value items default old.operands) _ old new said
    (bounds-case limit kind value items default old.operands (AllHold-left _ (named_in value) (named_by_items items ++ named_by default) good.1)
    (AllHold-left _ (named_by_items items) (named_by default) (AllHold-right _ (named_in value) (named_by_items items ++ named_by default) good.1)))
    (λ statement g. inner-reads limit said g.goes.1) h
part-reads limit now values rests repeats (Runs (For place first_targets first condition next_targets last body)) after ways next old new said leads good h =
    acts-reads (reads_most first + reads_most_targets first_targets) limit values old.operands (read_assignment place.line first_targets first old.operands) _ old new said
    (bounds-assignment limit place.line first_targets first old.operands (AllHold-left _ (named_in_targets first_targets) _ good.1)
    (AllHold-left _ (named_in first) _ (AllHold-right _ (named_in_targets first_targets) _ good.1)))
    (λ updates g. assigns-reads limit now old place None ways.inner updates new said g) h
part-reads limit now values rests repeats (Runs (While place condition body)) after ways next old new said leads good h =
    acts-reads (reads_most condition) limit values old.operands (read_expression condition old.operands) _ old new said
    (bounds-expression limit condition old.operands (AllHold-left _ (named_in condition) (named_by body) good.1)) (λ value g. inner-reads limit said g.1) h
part-reads limit now values rests repeats (Runs (Repeat place count body)) after ways next old new said leads good h =
    acts-reads (reads_most count) limit values old.operands (read_expression count old.operands) _ old new said
    (bounds-expression limit count old.operands (AllHold-left _ (named_in count) (named_by body) good.1)) (λ value g. inner-reads limit said g.1) h
part-reads limit now values rests repeats (Runs (Forever place body)) after ways next old new said leads good h = inner-reads limit said h.1
part-reads limit now values rests repeats (Runs (Delay place delay body)) after ways next old new said leads good h = delay-reads limit now delay said h.1
part-reads limit now values rests repeats (Runs (EventControl place entries body)) after ways next old new said leads good h = awaits-reads limit said h.1
part-reads limit now values rests repeats (Runs (Wait place condition body)) after ways next old new said leads good h =
    acts-reads (reads_most condition) limit values old.operands (read_expression condition old.operands) _ old new said
    (bounds-expression limit condition old.operands (AllHold-left _ (named_in condition) (named_by body) good.1))
    (λ value g. waits-reads limit old ways.inner (is_true value) new said g) h
part-reads limit now values rests repeats (Runs (Blocking place targets delay value)) after ways next old new said leads good h =
    acts-reads (reads_most value + reads_most_targets targets) limit values old.operands (read_assignment place.line targets value old.operands) _ old new said
    (bounds-assignment limit place.line targets value old.operands (AllHold-left _ (named_in_targets targets) (named_in value) good.1)
    (AllHold-right _ (named_in_targets targets) (named_in value) good.1))
    (λ updates g. assigns-reads limit now old place delay next updates new said g) h
part-reads limit now values rests repeats (Runs (Nonblocking place targets delay value)) after ways next old new said leads good h =
    acts-reads (reads_most value + reads_most_targets targets) limit values old.operands (read_assignment place.line targets value old.operands) _ old new said
    (bounds-assignment limit place.line targets value old.operands (AllHold-left _ (named_in_targets targets) (named_in value) good.1)
    (AllHold-right _ (named_in_targets targets) (named_in value) good.1))
    (λ updates g. takes-reads limit now (filled old place (Some delay) next updates) new said updates g) h
part-reads limit now values rests repeats (Runs (Finish place)) after ways next old new said leads good h = finished-reads limit said h.1
part-reads limit now values rests repeats (TurnsLeft number place body) after ways next old new said leads good h = inner-reads limit said h.1
