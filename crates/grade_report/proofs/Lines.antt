-- The lines of the findings so far.
use Rattle.std.proofs.Common.{◌≡◌, ℕ, zero, suc, ◌+◌, ◌<◌, ◌≤◌, List, [], ◌∷◌, ◌++◌, length, get_or, take, map, refl, ap, sym, ◌∙◌, subst, arith, append_assoc, append-nil, take_all}
use Rattle.std.proofs.lemmas.List.{take_more, map_push, length-map, length-take-le}
use Rattle.vf_base.specs.declared.finding.Finding.{Finding}
use Rattle.vf_base.specs.Lists.{joined, zip_with}
use Rattle.v_design.specs.Expressions.{up_from}
use Rattle.v_design.specs.Designs.{FlatDesign, StuckAt}
use Rattle.v_design.specs.Grades.{FaultGrade}
use Rattle.v_design.specs.Plain.{fault_of, grade_of}
use Rattle.v_design.specs.declared.plan.Fault.{Fault}
use Rattle.grade_report.specs.Report.{fault_line, fault_lines}
use Rattle.v_design.specs.Findings.{grades_of, AreInOrder}

lines-push : {A B C : Type 0} (f : A → B → List C) (xs : List A) (ys : List B) (x : A) (y : B) → length xs ≡ length ys →
    joined (zip_with f (xs ++ x ∷ []) (ys ++ y ∷ [])) ≡ joined (zip_with f xs ys) ++ f x y
lines-push f [] [] x y same = append-nil (f x y)
lines-push f [] (b ∷ bs) x y same = absurd (omega arith)
lines-push f (a ∷ as') [] x y same = absurd (omega arith)
lines-push f (a ∷ as') (b ∷ bs) x y same =
    ap (λ l. f a b ++ l) (lines-push f as' bs x y (omega arith)) ∙ sym (append_assoc (f a b) (joined (zip_with f as' bs)) (f x y))

-- one more line
pub lines-more : (design : FlatDesign) (faults : List Fault) (findings : List Finding) (n : ℕ) (d : Fault) (e : Finding) (base out more : List ℕ) → n < length faults → n < length findings →
    out ≡ base ++ fault_lines design (map fault_of (take n faults)) (grades_of (take n findings)) →
    more ≡ out ++ fault_line design (fault_of (get_or faults n d)) (grade_of (get_or findings n e).end) →
    more ≡ base ++ fault_lines design (map fault_of (take (n + 1) faults)) (grades_of (take (n + 1) findings))
lines-more design faults findings n d e base out more low within had added =
    let grade : Finding → FaultGrade = λ (f : Finding). grade_of f.end in
    let left : map fault_of (take (n + 1) faults) ≡ map fault_of (take n faults) ++ fault_of (get_or faults n d) ∷
    [] = ap (map fault_of) (take_more faults n d low) ∙ map_push fault_of (take n faults) (get_or faults n d) in
    let right : grades_of (take (n + 1) findings) ≡ grades_of (take n findings) ++ grade_of (get_or findings n e).end ∷ [] =
    ap grades_of (take_more findings n e within) ∙ map_push (λ (f : Finding). grade_of f.end) (take n findings) (get_or findings n e) in
    let count : length (map fault_of (take n faults)) ≡ length (grades_of (take n findings)) =
    length-map (take n faults) fault_of ∙ (length-take-le n faults (omega arith) ∙ sym (length-map (take n findings) (λ (f : Finding). grade_of f.end) ∙ length-take-le n findings (omega arith))) in
    let line : List ℕ = fault_line design (fault_of (get_or faults n d)) (grade_of (get_or findings n e).end) in
    added ∙ (ap (λ l. l ++ line) had ∙ (append_assoc base (fault_lines design (map fault_of (take n faults)) (grades_of (take n findings))) line
    ∙ ap (λ l. base ++ l) (sym (lines-push (fault_line design) (map fault_of (take n faults)) (grades_of (take n findings)) (fault_of (get_or faults n d)) (grade_of (get_or findings n e).end) count)
    ∙ (ap (λ l. fault_lines design l (grades_of (take n findings) ++ grade_of (get_or findings n e).end ∷ [])) (sym left)
    ∙ ap (λ l. fault_lines design (map fault_of (take (n + 1) faults)) l) (sym right)))))

up_from-length : (start count : ℕ) → length (up_from start count) ≡ count
up_from-length start zero = refl
up_from-length start (suc count) = let rest : length (up_from (start + 1) count) ≡ count = up_from-length (start + 1) count in omega arith

-- there are as many findings as faults
pub in-order-count : (faults : List Fault) (findings : List Finding) → AreInOrder (length (map fault_of faults)) findings → length findings ≡ length faults
in-order-count faults findings order =
    sym (length-map findings _) ∙ (ap length order ∙ (up_from-length 0 (length (map fault_of faults)) ∙ length-map faults fault_of))

-- after the last line come the totals
pub lines-done : (design : FlatDesign) (faults list : List Fault) (findings : List Finding) (n : ℕ) (base out text total : List ℕ) → list ≡ faults → length list ≤ n → length findings ≤ n →
    out ≡ base ++ fault_lines design (map fault_of (take n list)) (grades_of (take n findings)) → text ≡ out ++ total →
    text ≡ base ++ (fault_lines design (map fault_of faults) (grades_of findings) ++ total)
lines-done design faults list findings n base out text total same low within had added =
    added ∙ (ap (λ l. l ++ total) (had ∙ (ap (λ l. base ++ fault_lines design (map fault_of l) (grades_of (take n findings))) (take_all n list low ∙ same)
    ∙ ap (λ l. base ++ fault_lines design (map fault_of faults) (grades_of l)) (take_all n findings within)))
    ∙ append_assoc base (fault_lines design (map fault_of faults) (grades_of findings)) total)
