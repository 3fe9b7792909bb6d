-- Lists of updates, one by one.
use Rattle.std.proofs.Common.{◌≡◌, ℕ, ◌+◌, ◌<◌, List, [], ◌∷◌, ◌++◌, length, map, take, get_or, Bool, true, false, cond, not, refl, sym, ap, ◌∙◌, arith, append-nil, append_assoc}
use Rattle.std.specs.Prelude.{filter, nat_le}
use Rattle.std.proofs.lemmas.List.{get_or-map, map_push, map-append}
use Rattle.std.proofs.lemmas.List.Elements.{filter-append}
use Rattle.v_design.specs.Assignments.{ValueUpdate}
use Rattle.v_design.specs.Plain.{due_of, update_of}
use Rattle.v_design.specs.States.{LaterUpdate, is_due}
use Rattle.v_design.specs.declared.plan.Due.{Due}
use Rattle.v_design.specs.declared.plan.Update.{Update}
use Rattle.lockstep_laws.specs.Lockstep.{due_times}
use Rattle.lockstep_copy.specs.Kept.{time_of, ArePartedBy}

-- lists that are equal are equal at each place
pub element-same : {A B : Type 0} (f : A → B) (xs ys : List A) (i : ℕ) (x y : A) → i < length xs → length xs ≡ length ys → x ≡ get_or xs i x → y ≡ get_or ys i y →
    map f xs ≡ map f ys → f x ≡ f y
element-same f xs ys i x y low lengths here there same =
    ap f here ∙ sym (get_or-map f xs i x (f x) low) ∙ ap (λ l. get_or l i (f x)) same ∙ get_or-map f ys i y (f x) (omega (arith, low, lengths)) ∙ ap f (sym there)

-- the times of updates
pub times-map : (updates : List Due) → due_times (map due_of updates) ≡ map time_of updates
times-map [] = refl
times-map (update ∷ updates) = ap (λ l. update.time ∷ l) (times-map updates)

-- Updates parted by a time

abbrev update-of : LaterUpdate → ValueUpdate
update-of later = later.update

pub part-none : (now : ℕ) (rest : List Due) (lane : List Update) → ArePartedBy now [] rest rest lane lane
part-none now rest lane = record { rest = sym (append-nil (map due_of rest)); lane = sym (append-nil (map update_of lane)) }

pub part-due : (now : ℕ) (update : Due) (rest : List Due) (lane : List Update) → is_due now (due_of update) ≡ true → ArePartedBy now (update ∷ []) rest rest lane (lane ++ update.update ∷ [])
part-due now update rest lane due = record {
  rest = sym (ap (λ b. map due_of rest ++ cond (not b) (due_of update ∷ []) []) due ∙ append-nil (map due_of rest));
  lane = map_push update_of lane update.update ∙ sym (ap (λ b. map update_of lane ++ map update-of (cond b (due_of update ∷ []) [])) due);
}

pub part-late : (now : ℕ) (update : Due) (rest : List Due) (lane : List Update) → is_due now (due_of update) ≡ false → ArePartedBy now (update ∷ []) rest (rest ++ update ∷ []) lane lane
part-late now update rest lane late = record {
  rest = map_push due_of rest update ∙ sym (ap (λ b. map due_of rest ++ cond (not b) (due_of update ∷ []) []) late);
  lane = sym (ap (λ b. map update_of lane ++ map update-of (cond b (due_of update ∷ []) [])) late ∙ append-nil (map update_of lane));
}

-- one more
pub part-more : (now : ℕ) (updates more : List Due) (rest rest' rest'' : List Due) (lane lane' lane'' : List Update) → ArePartedBy now updates rest rest' lane lane' →
    ArePartedBy now more rest' rest'' lane' lane'' → ArePartedBy now (updates ++ more) rest rest'' lane lane''
part-more now updates more rest rest' rest'' lane lane' lane'' one next = record {
  rest =
      next.rest ∙ ap (λ l. l ++ filter late (map due_of more)) one.rest ∙ append_assoc (map due_of rest) (filter late (map due_of updates)) (filter late (map due_of more))
      ∙ ap (λ l. map due_of rest ++ l)
      (sym (ap (filter late) (map-append due_of updates more) ∙ filter-append late (map due_of updates) (map due_of more)));
  lane =
      next.lane ∙ ap (λ l. l ++ map update-of (filter (is_due now) (map due_of more))) one.lane
      ∙ append_assoc (map update_of lane) (map update-of (filter (is_due now) (map due_of updates))) (map update-of (filter (is_due now) (map due_of more)))
      ∙ ap (λ l. map update_of lane ++ l)
      (sym (ap (λ l. map update-of (filter (is_due now) l)) (map-append due_of updates more)
      ∙ ap (map update-of) (filter-append (is_due now) (map due_of updates) (map due_of more))
      ∙ map-append update-of (filter (is_due now) (map due_of updates)) (filter (is_due now) (map due_of more))));
}
  where
    late : LaterUpdate → Bool
    late later = not (is_due now later)
