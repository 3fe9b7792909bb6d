-- The form that the code answers.
use Rattle.std.proofs.Common.{◌≡◌, Bool, true, false, ◌&&◌, List, [], replicate, length, refl, sym, ap, ap₂, ◌∙◌}
use Rattle.v_tree.specs.Trees.{Identifier}
use Rattle.v_tree.specs.Views.{statement_of}
use Rattle.v_tree.specs.declared.statement.Stmt.{Stmt}
use Rattle.v_comb.specs.CombinationalForm.{BlockWaits, BlockForm, NetForm, ProcessForm, form_if, block_form, all_assigned, assigned_after, waits_for, each_once}
use Rattle.v_comb.specs.Flags.{flags_after, all_set}
use Rattle.v_comb.specs.Occurrences.{assigned_names_of, names_read_of}
use Rattle.v_comb.proofs.FlagLaws.{flags-are-assigned}
use Rattle.v_comb.proofs.Once.{once-apart}

abbrev ends_set : Stmt → List Identifier → Bool
ends_set body targets = all_set (flags_after targets (replicate (length targets) false) (statement_of body))

assigned-set : (body : Stmt) (targets : List Identifier) → targets ≡ each_once [] (assigned_names_of body)
    → ends_set body targets ≡ all_assigned (each_once [] (assigned_names_of body)) (assigned_after (each_once [] (assigned_names_of body)) [] (statement_of body))
assigned-set body targets e = ap (ends_set body) e ∙ flags-are-assigned (each_once [] (assigned_names_of body)) (statement_of body) (once-apart [] (assigned_names_of body))

pub not-assigned : (body : Stmt) (waits : BlockWaits) (targets : List Identifier) (assigned : Bool) → targets ≡ each_once [] (assigned_names_of body)
    → assigned ≡ all_set (flags_after targets (replicate (length targets) false) (statement_of body)) → assigned ≡ false → ProcessForm ≡ block_form (statement_of body) waits
not-assigned body waits targets assigned e s fails =
    ap (λ b. form_if (b && waits_for waits (each_once (each_once [] (assigned_names_of body)) (names_read_of body))) (each_once [] (assigned_names_of body))
    (each_once (each_once [] (assigned_names_of body)) (names_read_of body)))
    (sym fails ∙ s ∙ assigned-set body targets e)

both-true : (b c : Bool) → b ≡ true → c ≡ true → (b && c) ≡ true
both-true true c e s = s
both-true false c e s = e

one-false : (b c : Bool) → c ≡ false → (b && c) ≡ false
one-false true c e = e
one-false false c e = refl

pub not-waited : (body : Stmt) (waits : BlockWaits) (targets reads : List Identifier) (waited : Bool) → targets ≡ each_once [] (assigned_names_of body)
    → reads ≡ each_once targets (names_read_of body) → waited ≡ waits_for waits reads → waited ≡ false → ProcessForm ≡ block_form (statement_of body) waits
not-waited body waits targets reads waited e r w fails =
    ap (λ b. form_if b (each_once [] (assigned_names_of body)) (each_once (each_once [] (assigned_names_of body)) (names_read_of body)))
    (sym (one-false (all_assigned (each_once [] (assigned_names_of body)) (assigned_after (each_once [] (assigned_names_of body)) [] (statement_of body)))
    (waits_for waits (each_once (each_once [] (assigned_names_of body)) (names_read_of body)))
    (sym (w ∙ ap (waits_for waits) (r ∙ ap (λ t. each_once t (names_read_of body)) e)) ∙ fails)))

pub is-node : (body : Stmt) (waits : BlockWaits) (targets reads targets' reads' : List Identifier) (assigned waited : Bool) → targets ≡ each_once [] (assigned_names_of body)
    → assigned ≡ all_set (flags_after targets (replicate (length targets) false) (statement_of body)) → assigned ≡ true
    → reads ≡ each_once targets (names_read_of body) → waited ≡ waits_for waits reads → waited ≡ true → targets' ≡ targets → reads' ≡ reads →
    NetForm targets' reads' ≡ block_form (statement_of body) waits
is-node body waits targets reads targets' reads' assigned waited e s holds r w met t u =
    let read : reads ≡ each_once (each_once [] (assigned_names_of body)) (names_read_of body) = r ∙ ap (λ t. each_once t (names_read_of body)) e in
    ap₂ NetForm (t ∙ e) (u ∙ read)
    ∙ ap (λ b. form_if b (each_once [] (assigned_names_of body)) (each_once (each_once [] (assigned_names_of body)) (names_read_of body)))
    (sym (both-true (all_assigned (each_once [] (assigned_names_of body)) (assigned_after (each_once [] (assigned_names_of body)) [] (statement_of body)))
    (waits_for waits (each_once (each_once [] (assigned_names_of body)) (names_read_of body)))
    (sym (s ∙ assigned-set body targets e) ∙ holds) (sym (w ∙ ap (waits_for waits) read) ∙ met)))
