-- The lines behind one that says something.
use Rattle.std.proofs.Common.{◌≡◌, ℕ, List, [], ◌∷◌, length, Bor, refl, sym, ap, subst, ◌∙◌, arith}
use Rattle.std.specs.Prelude.{Option, Some, None}
use Rattle.text_lines.specs.Plain.{plain_texts}
use Rattle.cert_laws.specs.Valid.{CertLine, Formless, line_of, lines_said}
use Rattle.cert_text.specs.Views.{run_line_said, cert_line_plain, cert_line_said}
use Rattle.cert_text.specs.declared.line.RunLine.{RunLine}
use Rattle.cert_text.specs.declared.line.RunLine.TheVariants.{Slot, Phase, Steps, Updates}
use Rattle.cert_text.specs.declared.line.CertLine.{CertLine as LineRead}
use Rattle.cert_text.specs.declared.line.CertLine.TheVariants.{Good, Faulty, Run, End}
use Rattle.vf_audit.specs.Stages.{BeginsOtherwise}

-- Lines that are read

run-same : (one other : RunLine) → run_line_said one ≡ run_line_said other → one ≡ other
run-same (Slot t) (Slot u) e = let z : t ≡ u = cc in ap Slot z
run-same (Slot t) (Phase n) e = cc
run-same (Slot t) (Steps p n) e = cc
run-same (Slot t) (Updates p n) e = cc
run-same (Phase n) (Slot t) e = cc
run-same (Phase n) (Phase m) e = let z : n ≡ m = cc in ap Phase z
run-same (Phase n) (Steps p m) e = cc
run-same (Phase n) (Updates p m) e = cc
run-same (Steps p n) (Slot t) e = cc
run-same (Steps p n) (Phase m) e = cc
run-same (Steps p n) (Steps q m) e = let z : p ≡ q = cc in let w : n ≡ m = cc in (λ i. Steps (z i) (w i))
run-same (Steps p n) (Updates q m) e = cc
run-same (Updates p n) (Slot t) e = cc
run-same (Updates p n) (Phase m) e = cc
run-same (Updates p n) (Steps q m) e = cc
run-same (Updates p n) (Updates q m) e = let z : p ≡ q = cc in let w : n ≡ m = cc in (λ i. Updates (z i) (w i))

line-same : (one other : LineRead) → cert_line_plain one ≡ cert_line_plain other → one ≡ other
line-same Good Good e = refl
line-same Good Faulty e = cc
line-same Good (Run line) e = cc
line-same Good End e = cc
line-same Faulty Good e = cc
line-same Faulty Faulty e = refl
line-same Faulty (Run line) e = cc
line-same Faulty End e = cc
line-same (Run line) Good e = cc
line-same (Run line) Faulty e = cc
line-same (Run line) (Run other) e = let z : run_line_said line ≡ run_line_said other = cc in ap Run (run-same line other z)
line-same (Run line) End e = cc
line-same End Good e = cc
line-same End Faulty e = cc
line-same End (Run line) e = cc
line-same End End e = refl

has-form : (wanted : LineRead) → Formless ≡ cert_line_plain wanted → ⊥
has-form Good e = cc
has-form Faulty e = cc
has-form (Run line) e = cc
has-form End e = cc

-- The first line

-- there is none
pub behind-none : (wanted : LineRead) (lines : List (Bor (List ℕ))) → length lines ≡ 0 → BeginsOtherwise (cert_line_plain wanted) (lines_said (plain_texts lines))
behind-none wanted [] none = tt
behind-none wanted (first ∷ rest) none = absurd (omega arith)

module _ (wanted : LineRead) (lines : List (Bor (List ℕ))) (first : Bor (List ℕ)) (rest : List (Bor (List ℕ))) (is : lines ≡ first ∷ rest) where
  said-so : lines_said (plain_texts lines) ≡ line_of first.now ∷ lines_said (plain_texts rest)
  said-so = ap (λ (l : List (Bor (List ℕ))). lines_said (plain_texts l)) is

  -- it is of no form, or says something else
  pub behind-formless : (said : Option LineRead) → cert_line_said said ≡ line_of first.now → said ≡ None → BeginsOtherwise (cert_line_plain wanted) (lines_said (plain_texts lines))
  behind-formless said read none =
      subst (BeginsOtherwise (cert_line_plain wanted)) (sym said-so) (λ e. has-form wanted (sym (ap cert_line_said none) ∙ read ∙ e))

  pub behind-other : (said : Option LineRead) (one : LineRead) → cert_line_said said ≡ line_of first.now → said ≡ Some one → ¬ (one ≡ wanted) →
      BeginsOtherwise (cert_line_plain wanted) (lines_said (plain_texts lines))
  behind-other said one read some other =
      subst (BeginsOtherwise (cert_line_plain wanted)) (sym said-so) (λ e. other (line-same one wanted (sym (ap cert_line_said some) ∙ read ∙ e)))

  -- it says this
  pub behind-same : (said : Option LineRead) (one : LineRead) → cert_line_said said ≡ line_of first.now → said ≡ Some one → one ≡ wanted →
      lines_said (plain_texts lines) ≡ cert_line_plain wanted ∷ lines_said (plain_texts rest)
  behind-same said one read some same =
      said-so ∙ ap (λ (l : CertLine). l ∷ lines_said (plain_texts rest)) (sym read ∙ ap cert_line_said some ∙ ap cert_line_plain same)
