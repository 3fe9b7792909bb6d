-- Names that are declared once each (IEEE 1364-2001, clause 12.5).
use Rattle.std.proofs.Common.{◌≡◌, false, List, [], ◌∷◌, ◌++◌, length, filter, cond, refl, ap, ◌∙◌}
use Rattle.std.specs.Prelude.{not}
use Rattle.vf_base.specs.Lists.{AllHold}
use Rattle.v_tree.specs.Trees.{Identifier, same_name}
use Rattle.v_comb.proofs.Tables.{equal-same, same-turned}
use Rattle.v_names.specs.Faults.{DeclaredTwice, fault_if}
use Rattle.v_names.specs.Scopes.{Scope}
use Rattle.v_names.specs.Readings.{is_empty}
use Rattle.v_names.specs.Names.{Declared, DeclaredParameter, DeclaredPort, DeclaredNet, DeclaredReg, DeclaredMemory, DeclaredGate, DeclaredInstance, Declaration, is_port, of_name, joined_declared}
use Rattle.v_names.specs.Names.{joined_declaration, first_of_name, first_declarations, may_follow, twice_faults, is_parameter_declared, parameter_count}

-- Facts of each

pub all-weaker : {A : Type 0} (P Q : A → Type 0) → ((x : A) → P x → Q x) → (xs : List A) → AllHold P xs → AllHold Q xs
all-weaker P Q h [] all = tt
all-weaker P Q h (x ∷ xs) all = (h x all.0, all-weaker P Q h xs all.1)

pub all-both : {A : Type 0} (P Q R : A → Type 0) → ((x : A) → P x → Q x → R x) → (xs : List A) → AllHold P xs → AllHold Q xs → AllHold R xs
all-both P Q R h [] p q = tt
all-both P Q R h (x ∷ xs) p q = (h x p.0 q.0, all-both P Q R h xs p.1 q.1)

pub all-parts : {A : Type 0} (P : A → Type 0) (xs ys : List A) → AllHold P (xs ++ ys) → AllHold P xs × AllHold P ys
all-parts P [] ys h = (tt, h)
all-parts P (x ∷ xs) ys h = let r = all-parts P xs ys h.1 in ((h.0, r.0), r.1)

pub all-append : {A : Type 0} (P : A → Type 0) (xs ys : List A) → AllHold P xs → AllHold P ys → AllHold P (xs ++ ys)
all-append P [] ys h d = d
all-append P (x ∷ xs) ys h d = (h.0, all-append P xs ys h.1 d)

-- Names that differ

-- what is named, each by another name than all later ones
module _ {A : Type 0} (name : A → Identifier) where
  abbrev pub DiffersBy : A → A → Type 0
  DiffersBy one other = same_name (name one) (name other) ≡ false

  abbrev pub ApartBy : List A → Type 0
  ApartBy [] = Unit {0}
  ApartBy (x ∷ xs) = AllHold (DiffersBy x) xs × ApartBy xs

  -- those of a name
  abbrev pub of_that_name : Identifier → List A → List A
  of_that_name n xs = filter (λ x. same_name (name x) n) xs

  pub none-of-name : (n : Identifier) (xs : List A) → AllHold (λ x. same_name (name x) n ≡ false) xs → of_that_name n xs ≡ []
  none-of-name n [] all = refl
  none-of-name n (x ∷ xs) all = ap (λ b. cond b (x ∷ of_that_name n xs) (of_that_name n xs)) all.0 ∙ none-of-name n xs all.1

  -- each is the only one of its name
  pub once-of-name : (xs : List A) → ApartBy xs → AllHold (λ x. of_that_name (name x) xs ≡ x ∷ []) xs
  once-of-name [] apart = tt
  once-of-name (x ∷ xs) apart = (
    ap (λ b. cond b (x ∷ of_that_name (name x) xs) (of_that_name (name x) xs)) (equal-same (name x) (name x) refl)
        ∙ ap (λ l. x ∷ l) (none-of-name (name x) xs (all-weaker (DiffersBy x) (λ y. same_name (name y) (name x) ≡ false) (λ y h. same-turned (name y) (name x) ∙ h) xs apart.0)),
    all-both (DiffersBy x) (λ y. of_that_name (name y) xs ≡ y ∷ []) (λ y. of_that_name (name y) (x ∷ xs) ≡ y ∷ [])
        (λ y differs once. ap (λ b. cond b (x ∷ of_that_name (name y) xs) (of_that_name (name y) xs)) differs ∙ once) xs apart.0 (once-of-name xs apart.1),
  )

abbrev name_of : Declaration → Identifier
name_of d = d.name

abbrev pub Differs : Declaration → Declaration → Type 0
Differs one other = DiffersBy name_of one other

abbrev pub Apart : List Declaration → Type 0
Apart ds = ApartBy name_of ds

pub apart-both : {A : Type 0} (name : A → Identifier) (xs ys : List A) → ApartBy name xs → ApartBy name ys → AllHold (λ x. AllHold (DiffersBy name x) ys) xs → ApartBy name (xs ++ ys)
apart-both name [] ys p q cross = q
apart-both name (x ∷ xs) ys p q cross = (all-append (DiffersBy name x) xs ys p.0 cross.0, apart-both name xs ys p.1 q cross.1)

none-named : (name : Identifier) (ds : List Declaration) → AllHold (λ (d : Declaration). same_name d.name name ≡ false) ds → of_name name ds ≡ []
none-named name ds all = none-of-name name_of name ds all

pub named-once : (ds : List Declaration) → Apart ds → AllHold (λ (d : Declaration). of_name d.name ds ≡ d ∷ []) ds
named-once ds apart = once-of-name name_of ds apart

-- earlier declarations, each of another name than all later ones
abbrev Before : List Declaration → List Declaration → Type 0
Before earlier ds = AllHold (λ e. AllHold (Differs e) ds) earlier

first-new : (earlier : List Declaration) (d : Declaration) (ds : List Declaration) → Before earlier (d ∷ ds) → of_name d.name earlier ≡ []
first-new earlier d ds before = none-named d.name earlier (all-weaker (λ e. AllHold (Differs e) (d ∷ ds)) (λ e. Differs e d) (λ e h. h.0) earlier before)

before-more : (earlier : List Declaration) (d : Declaration) (ds : List Declaration) → Before earlier (d ∷ ds) → AllHold (Differs d) ds → Before (d ∷ earlier) ds
before-more earlier d ds before differs = (differs, all-weaker (λ e. AllHold (Differs e) (d ∷ ds)) (λ e. AllHold (Differs e) ds) (λ e h. h.1) earlier before)

none-twice : (scope : Scope) (earlier ds : List Declaration) → Before earlier ds → Apart ds → twice_faults scope earlier ds ≡ []
none-twice scope earlier [] before apart = refl
none-twice scope earlier (d ∷ ds) before apart =
    ap (λ l. fault_if (not (may_follow scope l d)) d.place DeclaredTwice ++ twice_faults scope (d ∷ earlier) ds) (first-new earlier d ds before)
    ∙ none-twice scope (d ∷ earlier) ds (before-more earlier d ds before apart.0) apart.1

-- nothing is declared twice
pub no-twice : (scope : Scope) (ds : List Declaration) → Apart ds → twice_faults scope [] ds ≡ []
no-twice scope ds apart = none-twice scope [] ds tt apart

-- what is no port and no parameter
pub record IsPlainName (d : Declaration) : Type 0 where
  pub no_port : is_port d.declared ≡ false
  pub no_parameter : is_parameter_declared d.declared ≡ false

port-joined : (d : Declared) (all : List Declaration) → is_port d ≡ false → joined_declared d all ≡ d
port-joined d [] h = refl
port-joined (DeclaredParameter is_local signed bounds value) (x ∷ all) h = refl
port-joined (DeclaredPort direction is_reg signed bounds first) (x ∷ all) h = absurd (cc)
port-joined (DeclaredNet signed bounds) (x ∷ all) h = refl
port-joined (DeclaredReg signed bounds first) (x ∷ all) h = refl
port-joined (DeclaredMemory signed bounds addresses) (x ∷ all) h = refl
port-joined DeclaredGate (x ∷ all) h = refl
port-joined DeclaredInstance (x ∷ all) h = refl

joined-same : (all : List Declaration) (d : Declaration) → is_port d.declared ≡ false → joined_declaration all d ≡ d
joined-same all d h = ap (λ (x : Declared). record { name = d.name; place = d.place; declared = x }) (port-joined d.declared _ h)

all-first : (all earlier ds : List Declaration) → Before earlier ds → Apart ds → AllHold IsPlainName ds → first_declarations all earlier ds ≡ ds
all-first all earlier [] before apart plain = refl
all-first all earlier (d ∷ ds) before apart plain =
    ap (λ l. first_of_name (is_empty l) (joined_declaration all d) (first_declarations all (d ∷ earlier) ds)) (first-new earlier d ds before)
    ∙ (ap (λ x. x ∷ first_declarations all (d ∷ earlier) ds) (joined-same all d plain.0.no_port)
    ∙ ap (λ l. d ∷ l) (all-first all (d ∷ earlier) ds (before-more earlier d ds before apart.0) apart.1 plain.1))

-- the names of a module are what it declares
pub names-all : (ds : List Declaration) → Apart ds → AllHold IsPlainName ds → first_declarations ds [] ds ≡ ds
names-all ds apart plain = all-first ds [] ds tt apart plain

pub no-parameters : (ds : List Declaration) → AllHold IsPlainName ds → parameter_count ds ≡ 0
no-parameters [] plain = refl
no-parameters (d ∷ ds) plain =
    ap (λ b. length (cond b (d ∷ filter (λ (d : Declaration). is_parameter_declared d.declared) ds) (filter (λ (d : Declaration). is_parameter_declared d.declared) ds))) plain.0.no_parameter
    ∙ no-parameters ds plain.1
