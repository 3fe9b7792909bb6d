-- What is spelled is read, and what the turns of a loop read.
use Rattle.std.proofs.Common.{◌≡◌, ℕ, ◌<◌, true, false, List, [], ◌∷◌, ◌++◌, length, Option, Some, None, Ok, Err, refl, sym, ◌∙◌, ap, subst, arith, append_assoc, length-append, lt-ltb}
use Rattle.std.proofs.lemmas.List.{append-nil}
use Rattle.std.specs.Prelude.{if◌then◌else◌}
use Rattle.vf_base.specs.Base.{SourcePlace}
use Rattle.four_value.specs.Values.{LogicValue}
use Rattle.v_tree.specs.declared.token.NumberForm.{NumberForm}
use Rattle.v_tree.specs.Tokens.{SourceToken}
use Rattle.v_tree.specs.Trees.{Identifier}
use Rattle.v_readers.specs.declared.class.Class.{Class}
use Rattle.v_readers.specs.declared.class.Class.TheVariants as classes
use Rattle.v_readers.specs.declared.stop.Stop.{Stop}
use Rattle.v_readers.specs.declared.stop.Stop.TheVariants as stops
use Rattle.v_readers.specs.Classes.{class_of, same_class, token_of, name_token, number_token, IsName}
use Rattle.v_readers.specs.ClassLaws.{same_class-same, class_of-kind_of}
use Rattle.v_readers.specs.Reading.{Wrong, Deep, Reader, Reading, Stopped, followed, ◌>>=◌, give, wrong, deep, turned, place_of, next_class, is_class, pass, expect, step, ready, down, name, number}
use Rattle.v_readers.specs.Reading.{repeat}
use Rattle.v_readers.specs.Exact.{Language}
use Rattle.v_readers.specs.Separated.{SpellsBehind, SpellsList, element_turn, separated}
use Rattle.v_readers.specs.SeparatedLaws.{EachFits}
use Rattle.v_readers.specs.Repeat.{repeat-turn}
use Rattle.v_readers.specs.Given.{Fails}

-- Tokens

pub pass-reads : (class : Class) (token : SourceToken) (rest : List SourceToken) → class_of token.kind ≡ class → pass class (token ∷ rest) ≡ Ok (token, rest)
pass-reads class token rest e =
    ap (λ b. if b then give token rest else wrong (token ∷ rest)) (ap (same_class class) e ∙ same_class-same class)

pub next-class : (class : Class) (place : SourcePlace) (rest : List SourceToken) → next_class (token_of class place ∷ rest) ≡ Some class
next-class class place rest = ap Some (class_of-kind_of class)

pub expect-reads : (class : Class) (place : SourcePlace) (rest : List SourceToken) → expect class (token_of class place ∷ rest) ≡ Ok (place, rest)
expect-reads class place rest =
    ap (λ r. followed r (λ token. give (place_of token))) (pass-reads class (token_of class place) rest (class_of-kind_of class))

pub name-reads : (bytes : Identifier) (place : SourcePlace) (rest : List SourceToken) → IsName bytes → name (name_token bytes place ∷ rest) ≡ Ok ((bytes, place), rest)
name-reads bytes place rest h = rw (pass-reads classes.Name (name_token bytes place) rest h) refl

pub number-reads : (value : LogicValue) (form : NumberForm) (place : SourcePlace) (rest : List SourceToken)
    → number (number_token value form place ∷ rest) ≡ Ok (((value, form), place), rest)
number-reads value form place rest = refl

pub ready-reads : (low levels : ℕ) (tokens : List SourceToken) → low < levels → ready low levels tokens ≡ Ok (tt, tokens)
ready-reads low levels tokens h = ap (λ b. if b then give (tt {0}) tokens else deep tokens) (lt-ltb low levels h)

pub down-reads : (low levels : ℕ) (token : SourceToken) (rest : List SourceToken) → low < levels → down low levels (token ∷ rest) ≡ Ok (place_of token, rest)
down-reads low levels token rest h = ap (λ r. followed r (λ level. step)) (ready-reads low levels (token ∷ rest) h)

-- Loops

-- a turn of repeat that gives another state
pub turn-is : {S : Type 0} (turn : S → Reader (Option S)) (s t : S) (tokens rest : List SourceToken) → turn s tokens ≡ Ok (Some t, rest) → length rest < length tokens →
    repeat turn s tokens ≡ repeat turn t rest
turn-is turn s t tokens rest e h = repeat-turn turn s tokens ∙ ap (λ w. followed w (turned (repeat turn) s tokens)) e
    ∙ ap (λ b. if b then repeat turn t rest else wrong rest) (lt-ltb (length rest) (length tokens) h)

-- the last turn of repeat
pub last-is : {S : Type 0} (turn : S → Reader (Option S)) (s : S) (tokens : List SourceToken) → turn s tokens ≡ Ok (None, tokens) → repeat turn s tokens ≡ Ok (s, tokens)
last-is turn s tokens e = repeat-turn turn s tokens ∙ ap (λ w. followed w (turned (repeat turn) s tokens)) e

-- a turn of repeat that stops
pub stop-is : {S : Type 0} (turn : S → Reader (Option S)) (s : S) (tokens : List SourceToken) (stop : Stopped) → turn s tokens ≡ Err stop → repeat turn s tokens ≡ Err stop
stop-is turn s tokens stop e = repeat-turn turn s tokens ∙ ap (λ w. followed w (turned (repeat turn) s tokens)) e

-- a reading that stops where another does
pub Fails-through : {A B : Type 0} (stop : Stop) (r : Reading A) (s : Reading B) → ((e : Stopped) → r ≡ Err e → s ≡ Err e) → Fails stop r → Fails stop s
Fails-through stops.Memory r s through h = tt
Fails-through (stops.Wrong rest) r s through h = through (record { why = Wrong; rest = rest.now }) h
Fails-through (stops.Deep rest) r s through h = through (record { why = Deep; rest = rest.now }) h

-- what comes of a reading that stops
pub Fails-followed : {A B : Type 0} (stop : Stop) (r : Reading A) (next : A → Reader B) → Fails stop r → Fails stop (followed r next)
Fails-followed stop r next h = Fails-through stop r (followed r next) (λ e fails. ap (λ w. followed w next) fails) h

-- Lists

-- every spelled list is read
module _ {A : Type 0} (P : Reader A) (L : Language A) (F : A → Type 0) (Ends : Option Class → Type 0) (m : Class) (ends : Ends (Some m))
    (reads : (x : A) (ts rest : List SourceToken) → L x ts → F x → Ends (next_class rest) → P (ts ++ rest) ≡ Ok (x, rest)) where
  pub behind-ends : (xs : List A) (ts rest : List SourceToken) → SpellsBehind L m xs ts → Ends (next_class rest) → Ends (next_class (ts ++ rest))
  behind-ends [] ts rest h e = subst (λ f. Ends (next_class (f ++ rest))) (sym h) e
  behind-ends (x ∷ xs) ts rest h e = subst (λ f. Ends (next_class (f ++ rest))) (sym h.5) (subst Ends (sym (next-class m h.0 (h.1 ++ (h.2 ++ rest)))) ends)

  pub behind-reads : (xs done : List A) (ts rest : List SourceToken) → SpellsBehind L m xs ts → EachFits F xs → Ends (next_class rest) → is_class m (next_class rest) ≡ false
      → repeat (element_turn m P) done (ts ++ rest) ≡ Ok (done ++ xs, rest)
  behind-reads [] done ts rest h fits e other =
      ap (λ f. repeat (element_turn m P) done (f ++ rest)) h
      ∙ last-is (element_turn m P) done rest (ap (λ b. (if b then (step >>= λ place. P >>= λ x. give (Some (done ++ x ∷ []))) else give None) rest) other)
      ∙ ap (λ w. Ok (w, rest)) (sym (append-nil done))
  behind-reads (x ∷ xs) done ts rest h fits e other =
      let tokens = token_of m h.0 ∷ (h.1 ++ (h.2 ++ rest)) in
      let read = reads x h.1 (h.2 ++ rest) h.3 fits.0 (behind-ends xs h.2 rest h.4 e) in
      let turn : element_turn m P done tokens ≡ Ok (Some (done ++ x ∷ []), h.2 ++ rest) = rw (class_of-kind_of m, same_class-same m, read) refl in
      ap (λ f. repeat (element_turn m P) done (f ++ rest)) h.5
      ∙ ap (λ f. repeat (element_turn m P) done (token_of m h.0 ∷ f)) (append_assoc h.1 h.2 rest)
      ∙ turn-is (element_turn m P) done (done ++ x ∷ []) tokens (h.2 ++ rest) turn (omega (arith, length-append h.1 (h.2 ++ rest)))
      ∙ behind-reads xs (done ++ x ∷ []) h.2 rest h.4 fits.1 e other
      ∙ ap (λ w. Ok (w, rest)) (append_assoc done (x ∷ []) xs)

  pub separated-reads : (xs : List A) (ts rest : List SourceToken) → SpellsList L m xs ts → EachFits F xs → Ends (next_class rest) → is_class m (next_class rest) ≡ false →
      separated m P (ts ++ rest) ≡ Ok (xs, rest)
  unfolding separated
  separated-reads [] ts rest h fits e other = absurd h
  separated-reads (x ∷ xs) ts rest h fits e other =
      let read = reads x h.0 (h.1 ++ rest) h.2 fits.0 (behind-ends xs h.1 rest h.3 e) in
      let others = behind-reads xs (x ∷ []) h.1 rest h.3 fits.1 e other in
      ap (λ f. separated m P (f ++ rest)) h.4 ∙ ap (separated m P) (append_assoc h.0 h.1 rest) ∙ rw (read, others) refl

-- what the turns of a loop over such a list read
module _ {A : Type 0} (m : Class) (P : Reader A) (xs : List A) (rest : List SourceToken) where
  pub element_turn-is : is_class m (next_class rest) ≡ true → (place : SourcePlace) (between : List SourceToken) → step rest ≡ Ok (place, between)
      → element_turn m P xs rest ≡ followed (P between) (λ x. give (Some (xs ++ x ∷ [])))
  element_turn-is b place between s = ap (λ t. (if t then (step >>= λ place. P >>= λ x. give (Some (xs ++ x ∷ []))) else give None) rest) b ∙ rw s refl

  pub element-next : (place : SourcePlace) (between after : List SourceToken) (x : A) → is_class m (next_class rest) ≡ true → step rest ≡ Ok (place, between) → P between ≡ Ok (x, after)
      → length after < length rest → repeat (element_turn m P) xs rest ≡ repeat (element_turn m P) (xs ++ x ∷ []) after
  element-next place between after x b s r h = turn-is (element_turn m P) xs (xs ++ x ∷ []) rest after (element_turn-is b place between s ∙ rw r refl) h

  pub element-fail : (place : SourcePlace) (between : List SourceToken) (stop : Stop) → is_class m (next_class rest) ≡ true → step rest ≡ Ok (place, between) → Fails stop (P between)
      → Fails stop (repeat (element_turn m P) xs rest)
  element-fail place between stop b s h = Fails-through stop (P between) (repeat (element_turn m P) xs rest)
      (λ e fails. stop-is (element_turn m P) xs rest e (element_turn-is b place between s ∙ rw fails refl)) h

  pub element-end : is_class m (next_class rest) ≡ false → repeat (element_turn m P) xs rest ≡ Ok (xs, rest)
  element-end b = last-is (element_turn m P) xs rest (ap (λ t. (if t then (step >>= λ place. P >>= λ x. give (Some (xs ++ x ∷ []))) else give None) rest) b)
