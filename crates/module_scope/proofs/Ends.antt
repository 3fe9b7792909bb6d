-- The scope that the code answers, or the fault.
use Rattle.std.proofs.Common.{◌≡◌, ◌+◌, List, [], ◌++◌, flat_map, Option, None, refl, sym, ap, ◌∙◌}
use Rattle.v_tree.specs.Trees.{Identifier, SourceModule}
use Rattle.v_names.specs.Faults.{Fault, first_fault, or_fault}
use Rattle.v_names.specs.Scopes.{Scope}
use Rattle.v_names.specs.Names.{Declaration, GivenParameter, given_of, declarations_of, first_declarations, scope_after, parameter_count, scope_of, twice_faults, parameters_faults, heads_faults}
use Rattle.v_names.specs.Names.{item_name_faults, module_name_faults, names}
use Rattle.name_checks.specs.Noted.{noted, noted_none}
use Rattle.module_scope.proofs.Passes.{scope-given}
use Rattle.name_checks.specs.Noted.{noted-two, noted-three}

pub scope-is : (m : SourceModule) (given values : List GivenParameter) (ds all : List Declaration) (s : Scope) → all ≡ declarations_of m → ds ≡ first_declarations all [] all
    → ((name : Identifier) → given_of values name ≡ given_of given name) → s ≡ scope_after (parameter_count ds + 1) values ds → s ≡ scope_of m given
scope-is m given values ds all s e f g h =
    h ∙ scope-given (parameter_count ds + 1) values given ds g ∙ ap (λ (xs : List Declaration). scope_after (parameter_count xs + 1) given xs)
    (f ∙ ap (λ (xs : List Declaration). first_declarations xs [] xs) e)

-- what is wrong with a module, by its declarations
abbrev pub faults_by : Scope → SourceModule → List Declaration → List Fault
faults_by s m all = twice_faults s [] all ++ (flat_map (parameters_faults s) m.parameters ++ (heads_faults s m.heads ++ flat_map (item_name_faults s) m.items))

pub names-are : (m : SourceModule) (given values : List GivenParameter) (ds all : List Declaration) (s : Scope) (found : Option Fault) → all ≡ declarations_of m → ds ≡ first_declarations all [] all
    → ((name : Identifier) → given_of values name ≡ given_of given name) → s ≡ scope_after (parameter_count ds + 1) values ds → found ≡ first_fault (faults_by s m all) →
    names m given ≡ or_fault s found
names-are m given values ds all s found e f g h k =
    ap (λ (x : Scope). or_fault x (first_fault (module_name_faults x m))) (sym (scope-is m given values ds all s e f g h))
    ∙ ap (or_fault s) (sym (k ∙ ap (λ (xs : List Declaration). first_fault (faults_by s m xs)) e))

-- the first of faults that are noted in four steps
pub four-noted : (start one two three last : Option Fault) (a b c d : List Fault) → start ≡ None → one ≡ noted start a → two ≡ noted one b → three ≡ noted two c → last ≡ noted three d →
    last ≡ first_fault (a ++ (b ++ (c ++ d)))
four-noted start one two three last a b c d e f g h k =
    noted-two start one last a (b ++ (c ++ d)) (a ++ (b ++ (c ++ d))) f (noted-three one two three last b c d (b ++ (c ++ d)) g h k refl) refl
    ∙ ap (λ (o : Option Fault). noted o (a ++ (b ++ (c ++ d)))) e ∙ noted_none (a ++ (b ++ (c ++ d)))
