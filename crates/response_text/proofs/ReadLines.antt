-- A response that is read line by line.
use Rattle.std.proofs.Common.{arith, ◌≡◌, ℕ, ◌+◌, ◌-◌, ◌<◌, min, List, [], ◌∷◌, ◌++◌, length, drop, get_or, Bor, Option, Some, None, Result, Ok, Err, refl, sym, ◌∙◌, ap, subst, append_assoc}
use Rattle.std.proofs.lemmas.List.{drop_more, append-nil, length-map, length-drop, get_or-map}
use Rattle.v_design.specs.Grades.{Sample}
use Rattle.text_lines.specs.Plain.{plain_texts}
use Rattle.response_text.specs.Reading.{sample_on, with_sample, samples_on}

-- samples behind others, where no line is at fault
abbrev pub samples_behind : List Sample → Result (List Sample) ℕ → Result (List Sample) ℕ
samples_behind done (Ok samples) = Ok (done ++ samples)
samples_behind done (Err number) = Err number

-- no line is at fault
abbrev pub all_read : List Sample → Result (List Sample) ℕ
all_read samples = Ok samples

pub samples-first : (meant : Result (List Sample) ℕ) → meant ≡ samples_behind [] meant
samples-first (Ok samples) = refl
samples-first (Err number) = refl

samples_behind-with : (done : List Sample) (sample : Sample) (number : ℕ) (rest : Result (List Sample) ℕ) →
    samples_behind done (with_sample (Some sample) number rest) ≡ samples_behind (done ++ sample ∷ []) rest
samples_behind-with done sample number (Ok samples) = ap all_read (sym (append_assoc done (sample ∷ []) samples))
samples_behind-with done sample number (Err later) = refl

-- what is left from a place on, where a strobe and a line stand there
samples-step : (width place : ℕ) (strobes : List ℕ) (lines : List (List ℕ)) → place < length strobes → place < length lines →
    samples_on width (place + 1) (drop place strobes) (drop place lines)
    ≡ with_sample (sample_on width (get_or strobes place 0) (get_or lines place [])) (place + 1) (samples_on width (place + 1 + 1) (drop (place + 1) strobes) (drop (place + 1) lines))
samples-step width place strobes lines strobe line =
    ap (λ s. samples_on width (place + 1) s (drop place lines)) (drop_more strobes place 0 strobe)
    ∙ ap (λ l. samples_on width (place + 1) (get_or strobes place 0 ∷ drop (place + 1) strobes) l) (drop_more lines place [] line)

length-texts : (lines : List (Bor (List ℕ))) → length (plain_texts lines) ≡ length lines
length-texts lines = length-map lines (λ (text : Bor (List ℕ)). text.now)

-- the same for the code's lines
step : (width place : ℕ) (strobes : List ℕ) (lines : List (Bor (List ℕ))) (d : Bor (List ℕ)) (meant : Result (List Sample) ℕ) (done : List Sample) (read : Option Sample) →
    place < length strobes → place < length lines →
    meant ≡ samples_behind done (samples_on width (place + 1) (drop place strobes) (drop place (plain_texts lines))) →
    read ≡ sample_on width (get_or strobes place 0) (get_or lines place d).now →
    meant ≡ samples_behind done (with_sample read (place + 1) (samples_on width (place + 1 + 1) (drop (place + 1) strobes) (drop (place + 1) (plain_texts lines))))
step width place strobes lines d meant done read strobe line is here =
    let P : ℕ → Type 0 = λ n. place < n in
    let there : place < length (plain_texts lines) = subst P (sym (length-texts lines)) line in
    let rest = samples_on width (place + 1 + 1) (drop (place + 1) strobes) (drop (place + 1) (plain_texts lines)) in
    let text : get_or (plain_texts lines) place [] ≡ (get_or lines place d).now = get_or-map (λ (text : Bor (List ℕ)). text.now) lines place d [] line in
    is
    ∙ (ap (samples_behind done) (samples-step width place strobes (plain_texts lines) strobe there)
    ∙ ap (λ r. samples_behind done (with_sample r (place + 1) rest)) (ap (sample_on width (get_or strobes place 0)) text ∙ sym here))

-- one line more is read
pub line-read : (width place : ℕ) (strobes : List ℕ) (lines : List (Bor (List ℕ))) (d : Bor (List ℕ)) (meant : Result (List Sample) ℕ) (done now : List Sample) (sample : Sample) →
    place < length strobes → place < length lines →
    meant ≡ samples_behind done (samples_on width (place + 1) (drop place strobes) (drop place (plain_texts lines))) →
    Some sample ≡ sample_on width (get_or strobes place 0) (get_or lines place d).now → now ≡ done ++ sample ∷ [] →
    meant ≡ samples_behind now (samples_on width (place + 1 + 1) (drop (place + 1) strobes) (drop (place + 1) (plain_texts lines)))
line-read width place strobes lines d meant done now sample strobe line is here pushed =
    let rest = samples_on width (place + 1 + 1) (drop (place + 1) strobes) (drop (place + 1) (plain_texts lines)) in
    step width place strobes lines d meant done (Some sample) strobe line is here ∙ (samples_behind-with done sample (place + 1) rest ∙ ap (λ l. samples_behind l rest) (sym pushed))

-- a line is at fault
pub line-bad : (width place : ℕ) (strobes : List ℕ) (lines : List (Bor (List ℕ))) (d : Bor (List ℕ)) (meant : Result (List Sample) ℕ) (done : List Sample) →
    place < length strobes → place < length lines →
    meant ≡ samples_behind done (samples_on width (place + 1) (drop place strobes) (drop place (plain_texts lines))) →
    None ≡ sample_on width (get_or strobes place 0) (get_or lines place d).now → meant ≡ Err (place + 1)
line-bad width place strobes lines d meant done strobe line is here = step width place strobes lines d meant done None strobe line is here

-- The end

samples-odd : (width number : ℕ) (strobes : List ℕ) (lines : List (List ℕ)) → min (length lines) (length strobes) ≡ 0 → (length lines ≡ length strobes → ⊥) →
    samples_on width number strobes lines ≡ Err number
samples-odd width number [] [] none odd = absurd (odd refl)
samples-odd width number [] (line ∷ lines) none odd = refl
samples-odd width number (strobe ∷ strobes) [] none odd = refl
samples-odd width number (strobe ∷ strobes) (line ∷ lines) none odd = absurd (omega arith)

samples-none : (width number : ℕ) (strobes : List ℕ) (lines : List (List ℕ)) → length strobes ≡ 0 → length lines ≡ 0 → samples_on width number strobes lines ≡ Ok []
samples-none width number [] [] no_strobe no_line = refl
samples-none width number [] (line ∷ lines) no_strobe no_line = absurd (omega arith)
samples-none width number (strobe ∷ strobes) lines no_strobe no_line = absurd (omega arith)

-- more lines than strobes, or fewer
pub lines-odd : (width count : ℕ) (strobes : List ℕ) (lines : List (Bor (List ℕ))) (meant : Result (List Sample) ℕ) (done : List Sample) →
    count ≡ min (length lines) (length strobes) → (length lines ≡ length strobes → ⊥) →
    meant ≡ samples_behind done (samples_on width (count + 1) (drop count strobes) (drop count (plain_texts lines))) → meant ≡ Err (count + 1)
lines-odd width count strobes lines meant done least odd is =
    let texts = plain_texts lines in
    let size : length texts ≡ length lines = length-texts lines in
    let left : length (drop count texts) ≡ length texts - count = length-drop count texts in
    let to_come : length (drop count strobes) ≡ length strobes - count = length-drop count strobes in
    let none : min (length (drop count texts)) (length (drop count strobes)) ≡ 0 = omega arith in
    is ∙ ap (samples_behind done) (samples-odd width (count + 1) (drop count strobes) (drop count texts) none (λ e. odd (omega arith)))

-- as many
pub lines-all : (width count : ℕ) (strobes : List ℕ) (lines : List (Bor (List ℕ))) (meant : Result (List Sample) ℕ) (done : List Sample) →
    count ≡ min (length lines) (length strobes) → length lines ≡ length strobes →
    meant ≡ samples_behind done (samples_on width (count + 1) (drop count strobes) (drop count (plain_texts lines))) → meant ≡ Ok done
lines-all width count strobes lines meant done least even is =
    let texts = plain_texts lines in
    let size : length texts ≡ length lines = length-texts lines in
    let left : length (drop count texts) ≡ length texts - count = length-drop count texts in
    let to_come : length (drop count strobes) ≡ length strobes - count = length-drop count strobes in
    is ∙ (ap (samples_behind done) (samples-none width (count + 1) (drop count strobes) (drop count texts) (omega arith) (omega arith)) ∙ ap all_read (append-nil done))
