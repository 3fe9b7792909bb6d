-- Rows and sets of which some elements change, one after another (nothing of the language).
use Rattle.std.proofs.Common.{◌≡◌, ℕ, ◌+◌, ◌<◌, List, [], ◌∷◌, ◌++◌, length, map, get_or, take, refl, sym, ap, ◌∙◌}
use Rattle.std.proofs.lemmas.List.{length-map, take_more, map_push}
use Rattle.vf_base.specs.Lists.{change_at}
use Rattle.v_design.specs.Assignments.{ValueUpdate}
use Rattle.process_table.specs.declared.row.Row.{Row}
use Rattle.process_table.specs.Rows.{RowState, row_states, row_text, made_ready, with_lane, RowsChange}
use Rattle.process_table.specs.Turned.{each_changed, lanes_put, ReadiesRows, FillsLanes}
use Rattle.event_queue.specs.ChangeLaws.{length-change}

-- one number more
pub each-push : {A : Type 0} (change : A → A) (numbers : List ℕ) (n : ℕ) (xs : List A) → each_changed change (numbers ++ n ∷ []) xs ≡ change_at (each_changed change numbers xs) n change
each-push change [] n xs = refl
each-push change (number ∷ numbers) n xs = each-push change numbers n (change_at xs number change)

pub each-length : {A : Type 0} (change : A → A) (numbers : List ℕ) (xs : List A) → length (each_changed change numbers xs) ≡ length xs
each-length change [] xs = refl
each-length change (number ∷ numbers) xs = each-length change numbers (change_at xs number change) ∙ length-change xs number change

pub put-push : (lanes : List (ℕ × List ValueUpdate)) (lane : ℕ × List ValueUpdate) (xs : List RowState) → lanes_put (lanes ++ lane ∷ []) xs ≡ change_at (lanes_put lanes xs) lane.0 (with_lane lane.1)
put-push [] lane xs = refl
put-push (first ∷ lanes) lane xs = put-push lanes lane (change_at xs first.0 (with_lane first.1))

-- images of one element more
pub images-more : {A B : Type 0} (f : A → B) (xs : List A) (i : ℕ) (d : A) → i < length xs → map f (take (i + 1) xs) ≡ map f (take i xs) ++ f (get_or xs i d) ∷ []
images-more f xs i d low = ap (map f) (take_more xs i d low) ∙ map_push f (take i xs) (get_or xs i d)

-- rows with the same texts are as many
pub as-many : (old new : List Row) → map row_text new ≡ map row_text old → length new ≡ length old
as-many old new texts = sym (length-map new row_text) ∙ ap length texts ∙ length-map old row_text

-- one row more
pub readies-none : (rows : List Row) → ReadiesRows rows rows []
readies-none rows = record { texts = refl; good = λ h. h; states = refl }

pub readies-more : (old now new : List Row) (numbers : List ℕ) (n : ℕ) → ReadiesRows old now numbers → RowsChange now new n made_ready → ReadiesRows old new (numbers ++ n ∷ [])
readies-more old now new numbers n had more = record {
  texts = more.texts ∙ had.texts;
  good = λ h. more.good (had.good h);
  states = more.states ∙ ap (λ states. change_at states n made_ready) had.states ∙ sym (each-push made_ready numbers n (row_states old));
}

pub fills-more : (old now new : List Row) (lanes : List (ℕ × List ValueUpdate)) (lane : ℕ × List ValueUpdate) → FillsLanes old now lanes → RowsChange now new lane.0 (with_lane lane.1) →
    FillsLanes old new (lanes ++ lane ∷ [])
fills-more old now new lanes lane had more = record {
  texts = more.texts ∙ had.texts;
  good = λ h. more.good (had.good h);
  states = more.states ∙ ap (λ states. change_at states lane.0 (with_lane lane.1)) had.states ∙ sym (put-push lanes lane (row_states old));
}
