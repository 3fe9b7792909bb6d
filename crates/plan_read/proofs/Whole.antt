-- The whole text.
use Rattle.std.proofs.Common.{◌≡◌, ℕ, ◌+◌, ◌≤◌, ◌<◌, ◌↔◌, List, length, map, Contains, Option, Some, None, refl, sym, ◌∙◌, ap, subst}
use Rattle.std.proofs.lemmas.List.{length-map}
use Rattle.v_design.specs.Designs.{FlatDesign, TestPlan}
use Rattle.v_design.specs.WellFormed.{IsAscending}
use Rattle.fault_list.specs.Listed.{stuck}
use Rattle.plan_read.specs.declared.draft.Draft.{Draft}
use Rattle.plan_read.specs.declared.fault.PlanFault.{PlanFault}
use Rattle.plan_read.specs.declared.fault.PlanFault.TheVariants.{BadLine, UnknownSite, TooMany, TooLong, NoMemory}
use Rattle.text_lines.specs.Text.{lines_of, words_of}
use Rattle.plan_read.specs.Forms.{line_of}
use Rattle.plan_read.specs.Plain.{watched_bits}
use Rattle.plan_read.specs.Spelled.{lines_say, plan_lines, most_bytes, NoneRefused, LinesSpell, HaveNoEnd, IsBadAt, bad_line, no_end, Spells, Refuses}
use Rattle.plan_read.specs.Steps.{IsRead, FaultOf}

-- what was read over the same design and the same lines
read-there : (design there : FlatDesign) (text : List ℕ) (said : List (List ℕ)) (draft : Draft) → there ≡ design → said ≡ lines_of text → IsRead there (lines_say said) draft →
    IsRead design (plan_lines text) draft
read-there design there text said draft same lines is =
    let P : FlatDesign → Type 0 = λ d. IsRead d (lines_say said) draft in
    let Q : List (List ℕ) → Type 0 = λ s. IsRead design (lines_say s) draft in
    let here : Q said = subst P same is in
    subst Q lines here

pub spelled-from : (design there : FlatDesign) (text : List ℕ) (said : List (List ℕ)) (draft : Draft) (end : ℕ) (plan : TestPlan) →
    there ≡ design → said ≡ lines_of text → length text ≤ most_bytes → IsRead there (lines_say said) draft → draft.end ≡ Some end →
    plan.end ≡ end → plan.watched ≡ watched_bits draft.watched.items → plan.faults ≡ stuck draft.faults.items → IsAscending plan.strobes →
    ((time : ℕ) → Contains plan.strobes time ↔ Contains draft.strobes.items time) →
    Spells design text plan
spelled-from design there text said draft end plan same lines short is ends e w f ascending strobes =
    let read = read-there design there text said draft same lines is in
    record {
      short = short;
      lines = record {
        sound = read.sound;
        end = sym read.end ∙ (ends ∙ ap (λ t. Some t) (sym e));
        watched = w ∙ read.watched;
        faults = f ∙ read.faults;
        ascending = ascending;
        strobes = λ time. rw read.strobes at (strobes time);
      };
    }

pub endless-from : (design there : FlatDesign) (text : List ℕ) (said : List (List ℕ)) (draft : Draft) (number : ℕ) →
    there ≡ design → said ≡ lines_of text → length text ≤ most_bytes → IsRead there (lines_say said) draft → draft.end ≡ None → number ≡ length said + 1 → Refuses design text (BadLine number)
endless-from design there text said draft number same lines short is none count =
    let read = read-there design there text said draft same lines is in
    let size : length (plan_lines text) ≡ length said = length-map (lines_of text) (λ line. line_of (words_of line)) ∙ ap length (sym lines) in
    (short, no_end (count ∙ ap (λ n. n + 1) (sym size)) (record { sound = read.sound; endless = sym read.end ∙ none }))

refused-there : (design : FlatDesign) (text : List ℕ) (fault : PlanFault) → length text ≤ most_bytes → FaultOf design (plan_lines text) fault → Refuses design text fault
refused-there design text (BadLine number) short h = (short, bad_line h)
refused-there design text (UnknownSite number) short h = (short, h)
refused-there design text (TooMany number) short h = (short, h)
refused-there design text TooLong short h = absurd h
refused-there design text NoMemory short h = tt

pub refused-from : (design there : FlatDesign) (text : List ℕ) (said : List (List ℕ)) (fault : PlanFault) → there ≡ design → said ≡ lines_of text → length text ≤ most_bytes →
    FaultOf there (lines_say said) fault → Refuses design text fault
refused-from design there text said fault same lines short h =
    let P : FlatDesign → Type 0 = λ d. FaultOf d (lines_say said) fault in
    let Q : List (List ℕ) → Type 0 = λ s. FaultOf design (lines_say s) fault in
    let here : Q said = subst P same h in
    refused-there design text fault short (subst Q lines here)
