-- A name that is written is read as its site.
use Rattle.std.proofs.Common.{◌≡◌, ◌≢◌, ℕ, zero, suc, ◌+◌, ◌<◌, ◌≤◌, Bool, true, false, List, [], ◌∷◌, ◌++◌, length, map, filter, get_or, Option, Some, None, refl, ap, sym, ◌∙◌, subst, arith, ◌⊎◌}
use Rattle.std.proofs.Common.{inl, inr, ⊎_elim, cond, find}
use Rattle.std.specs.Prelude.{slice_get, nat_eq}
use Rattle.std.specs.List.{Contains}
use Rattle.std.specs.Option.{option_and_then, option_map}
use Rattle.std.specs.Str.{bytes_eq}
use Rattle.std.proofs.lemmas.Bool.{or_cases, or_left, or_right, eqb-true, eq-eqb, false≢true}
use Rattle.std.proofs.lemmas.Slice.Eq.{bytes_eq-Decides}
use Rattle.vf_base.specs.Lists.{joined, map_numbered, has, first_place, earlier_place, AllHold}
use Rattle.v_design.specs.Expressions.{up_from}
use Rattle.v_design.specs.Paths.{is_net, numbers_of, net_pieces}
use Rattle.v_design.specs.Designs.{FlatObject, FlatNode, FlatDesign, FaultSite, VariableBit, OutputBit, GateTerminal, width_in}
use Rattle.v_design.specs.WellFormed.{KeepsRules}
use Rattle.v_design.specs.Sites.{is_variable, bits_if, bit_name, terminal_name, site_name, variable_sites, output_sites, terminal_sites, terminal_count, sites_of, AllDiffer}
use Rattle.v_design.specs.declared.logic.ObjectKind.{ObjectKind}
use Rattle.v_design.specs.declared.logic.ObjectKind.TheVariants.{Var, Word, Net}
use Rattle.fault_list.specs.RoundTrip.{HasNumber, NamesAreRead}
use Rattle.fault_list.specs.Spelled.{or_else, first_answer, name_spelled, driver_of, site_by_kind, bit_spelled, object_spelled, numbered_terminals, terminal_spelled, node_spelled, site_spelled}
use Rattle.fault_list.specs.Members.{In, here, there, in-left, in-right, in-append, in-map, in-cons, map-in, in-joined, joined-in, in-numbered, numbered-in, in-contains, up-in, in-up, find-sound}
use Rattle.fault_list.specs.Members.{find-complete, answer-sound, answer-complete, AllHold-in, has-filter, has-number, width-at, driver-complete, has-in}
use Rattle.fault_list.specs.ListedSites.{kind-in, terminal-in}

-- no two elements have one name
differ-one : (f : FaultSite → List ℕ) (xs : List FaultSite) (x y : FaultSite) → AllDiffer (map f xs) → In x xs → In y xs → f x ≡ f y → x ≡ y
differ-one f [] x y differ hx hy e = elim hx [ ]
differ-one f (z ∷ zs) x y differ hx hy e =
    ⊎_elim
    (λ (a : z ≡ x). ⊎_elim (λ (b : z ≡ y). sym a ∙ b)
    (λ (b : In y zs). absurd (AllHold-in (λ other. f z ≢ other) (map f zs) (f y) differ.0 (in-map f y zs b) (ap f a ∙ e))) (in-cons y z zs hy))
    (λ (a : In x zs). ⊎_elim (λ (b : z ≡ y). absurd (AllHold-in (λ other. f z ≢ other) (map f zs) (f x) differ.0 (in-map f x zs a) (ap f b ∙ sym e)))
    (λ (b : In y zs). differ-one f zs x y differ.1 a b e) (in-cons y z zs hy))
    (in-cons x z zs hx)

-- What is read is a site of that name

module _ (design : FlatDesign) (rules : KeepsRules design) (word : List ℕ) where
  same-text : (a : List ℕ) → bytes_eq a word ≡ true → a ≡ word
  same-text a e = (bytes_eq-Decides a word).0 e

  is-variable : (kind : ObjectKind) → kind ≡ Var → is_variable kind ≡ true
  is-variable kind e = ap is_variable e

  kind-named : (kind : ObjectKind) (number bit : ℕ) (object : FlatObject) (site : FaultSite) → slice_get design.objects number ≡ Some object → bit_name (Some object) bit ≡ word →
      site_by_kind design kind number bit ≡ Some site → site_name design site ≡ word
  kind-named Var number bit object site at named e = let same : VariableBit number bit ≡ site = cc in subst (λ s. site_name design s ≡ word) same (ap (λ o. bit_name o bit) at ∙ named)
  kind-named Word number bit object site at named e = absurd (cc)
  kind-named Net number bit object site at named e = driven (driver_of design number) e
    where
      driven : (o : Option ℕ) → option_map (λ node. OutputBit node number bit) o ≡ Some site → site_name design site ≡ word
      driven None h = absurd (cc)
      driven (Some node) h = let same : OutputBit node number bit ≡ site = cc in subst (λ s. site_name design s ≡ word) same (ap (λ o. bit_name o bit) at ∙ named)

  object-sound : (number : ℕ) (object : FlatObject) (site : FaultSite) → slice_get design.objects number ≡ Some object → object_spelled design word number object ≡ Some site →
      (In site (sites_of design)) × (site_name design site ≡ word)
  object-sound number object site at e = by (bit_spelled object word) refl e
    where
      by : (o : Option ℕ) → bit_spelled object word ≡ o → option_and_then (site_by_kind design object.kind number) o ≡ Some site → (In site (sites_of design)) × (site_name design site ≡ word)
      by None found h = absurd (cc)
      by (Some bit) found h =
          let r = find-sound (λ b. bytes_eq (bit_name (Some object) b) word) (up_from 0 object.width) bit found in
          let range = up-in 0 object.width bit r.0 in
          (kind-in design object.kind number bit object site at refl (omega (arith, range.1)) h, kind-named object.kind number bit object site at (same-text (bit_name (Some object) bit) r.1) h)

  node-sound : (number : ℕ) (node : FlatNode) (site : FaultSite) → slice_get design.nodes number ≡ Some node → node_spelled word number node ≡ Some site →
      (In site (sites_of design)) × (site_name design site ≡ word)
  node-sound number node site at e = by (terminal_spelled node word) refl e
    where
      by : (o : Option ℕ) → terminal_spelled node word ≡ o → option_map (GateTerminal number) o ≡ Some site → (In site (sites_of design)) × (site_name design site ≡ word)
      by None found h = absurd (cc)
      by (Some terminal) found h =
          let same : GateTerminal number terminal ≡ site = cc in
          let r = find-sound (λ t. bytes_eq (terminal_name (Some node) t) word) (up_from 1 (numbered_terminals node)) terminal found in
          let range = up-in 1 (numbered_terminals node) terminal r.0 in (
            subst (λ s. In s (sites_of design)) same (terminal-in design number terminal node at range.0 (omega (arith, range.1))),
            subst (λ s. site_name design s ≡ word) same (ap (λ o. terminal_name o terminal) at ∙ same-text (terminal_name (Some node) terminal) r.1),
          )

  -- Each site is read

  bit-read : (number bit : ℕ) (object : FlatObject) → slice_get design.objects number ≡ Some object → bit < object.width → bit_name (Some object) bit ≡ word →
      (m : ℕ) × (bit_spelled object word ≡ Some m)
  bit-read number bit object at low named =
      find-complete (λ b. bytes_eq (bit_name (Some object) b) word) (up_from 0 object.width) bit (in-up 0 object.width bit (omega arith) (omega arith))
      ((bytes_eq-Decides (bit_name (Some object) bit) word).1 named)

  variable-read : (kind : ObjectKind) (number : ℕ) (object : FlatObject) (site : FaultSite) → slice_get design.objects number ≡ Some object → object.kind ≡ kind →
      In site (bits_if (is_variable kind) (VariableBit number) object.width) → site_name design site ≡ word → (z : FaultSite) × (object_spelled design word number object ≡ Some z)
  variable-read Word number object site at is h named = elim h [ ]
  variable-read Net number object site at is h named = elim h [ ]
  variable-read Var number object site at is h named =
      let r = map-in (VariableBit number) site (up_from 0 object.width) h in
      let low : r.0 < object.width = omega (arith, (up-in 0 object.width r.0 r.1).1) in
      let text : bit_name (Some object) r.0 ≡ word = ap (λ o. bit_name o r.0) (sym at) ∙ (ap (site_name design) r.2 ∙ named) in
      let m = bit-read number r.0 object at low text in
      (VariableBit number m.0, ap (option_and_then (site_by_kind design object.kind number)) m.1 ∙ ap (λ k. site_by_kind design k number m.0) is)

  net-read : (kind : ObjectKind) (number bit node : ℕ) (found : FlatNode) (object : FlatObject) → slice_get design.objects number ≡ Some object → object.kind ≡ kind → is_net kind ≡ true →
      bit < object.width →
      bit_name (Some object) bit ≡ word → slice_get design.nodes node ≡ Some found → has found.outputs number ≡ true → (z : FaultSite) × (object_spelled design word number object ≡ Some z)
  net-read Var number bit node found object at is net low text there_at drives = absurd (false≢true net)
  net-read Word number bit node found object at is net low text there_at drives = absurd (false≢true net)
  net-read Net number bit node found object at is net low text there_at drives =
      let m = bit-read number bit object at low text in
      let k = driver-complete number design.nodes node found there_at drives in (
        OutputBit k.0 number m.0,
        ap (option_and_then (site_by_kind design object.kind number)) m.1
            ∙ (ap (λ kind. site_by_kind design kind number m.0) is ∙ ap (option_map (λ n. OutputBit n number m.0)) k.1),
      )

  output-read : (number : ℕ) (node : FlatNode) (site : FaultSite) → slice_get design.nodes number ≡ Some node → In site (output_sites design number node) → site_name design site ≡ word →
      (i : ℕ) × (object : FlatObject) × (z : FaultSite) × (slice_get design.objects i ≡ Some object) × (object_spelled design word i object ≡ Some z)
  output-read number node site at h named =
      let lists : List (List FaultSite) = map (λ object. map (OutputBit number object) (up_from 0 (width_in design object))) (filter (has node.outputs) (net_pieces design)) in
      let l = joined-in site lists h in
      let o = map-in (λ object. map (OutputBit number object) (up_from 0 (width_in design object))) l.0 (filter (has node.outputs) (net_pieces design)) l.2 in
      let inside : In site (map (OutputBit number o.0) (up_from 0 (width_in design o.0))) = subst (λ m. In site m) (sym o.2) l.1 in
      let b = map-in (OutputBit number o.0) site (up_from 0 (width_in design o.0)) inside in
      let both = has-filter (has node.outputs) (net_pieces design) o.0 (has-in (filter (has node.outputs) (net_pieces design)) o.0 o.1) in
      let place = has-number (λ (x : FlatObject). is_net x.kind) 0 o.0 design.objects both.0 in
      let same : o.0 ≡ place.0 = omega (arith, place.2) in
      let stands : slice_get design.objects o.0 ≡ Some place.1 = subst (λ k. slice_get design.objects k ≡ Some place.1) (sym same) place.3 in
      let width : width_in design o.0 ≡ place.1.width = width-at design.objects o.0 place.1 stands in
      let low : b.0 < place.1.width = omega (arith, (up-in 0 (width_in design o.0) b.0 b.1).1, width) in
      let text : bit_name (Some place.1) b.0 ≡ word = ap (λ x. bit_name x b.0) (sym stands) ∙ (ap (site_name design) b.2 ∙ named) in
      let z = net-read place.1.kind o.0 b.0 number node place.1 stands refl place.4 low text at both.1 in
      (o.0, place.1, z.0, stands, z.1)

  terminal-read : (number : ℕ) (node : FlatNode) (site : FaultSite) → slice_get design.nodes number ≡ Some node → HasNumber site → In site (terminal_sites number node) → site_name design site ≡ word →
      (z : FaultSite) × (node_spelled word number node ≡ Some z)
  terminal-read number node site at few h named =
      let r = map-in (GateTerminal number) site (up_from 1 (terminal_count node.kind)) h in
      let range = up-in 1 (terminal_count node.kind) r.0 r.1 in
      let small : r.0 ≤ 4294967295 = subst HasNumber (sym r.2) few in
      let text : terminal_name (Some node) r.0 ≡ word = ap (λ o. terminal_name o r.0) (sym at) ∙ (ap (site_name design) r.2 ∙ named) in
      let m = find-complete (λ t. bytes_eq (terminal_name (Some node) t) word) (up_from 1 (numbered_terminals node)) r.0 (in-up 1 (numbered_terminals node) r.0 range.0 (omega (arith, range.1, small)))
      ((bytes_eq-Decides (terminal_name (Some node) r.0) word).1 text) in
      (GateTerminal number m.0, ap (option_map (GateTerminal number)) m.1)

  -- a site's name is read by an object or a gate
  read-somewhere : (site : FaultSite) → HasNumber site → In site (sites_of design) → site_name design site ≡ word →
      ((z : FaultSite) × (first_answer (object_spelled design word) 0 design.objects ≡ Some z)) ⊎ ((z : FaultSite) × (first_answer (node_spelled word) 0 design.nodes ≡ Some z))
  read-somewhere site few h named =
      ⊎_elim
      (λ (a : In site (joined (map_numbered variable_sites 0 design.objects))).
      let r = numbered-in variable_sites site 0 design.objects a in
      let e : 0 + r.0 ≡ r.0 = omega arith in
      let inside : In site (bits_if (is_variable r.1.kind) (VariableBit r.0) r.1.width) = subst (λ k. In site (bits_if (is_variable r.1.kind) (VariableBit k) r.1.width)) e r.3 in
      let z = variable-read r.1.kind r.0 r.1 site r.2 refl inside named in
      inl (answer-complete (object_spelled design word) 0 r.0 r.1 design.objects z.0 r.2 (subst (λ k. object_spelled design word k r.1 ≡ Some z.0) (sym e) z.1)))
      (λ (rest : In site (joined (map_numbered (output_sites design) 0 design.nodes) ++ joined (map_numbered terminal_sites 0 design.nodes))).
      ⊎_elim
      (λ (b : In site (joined (map_numbered (output_sites design) 0 design.nodes))).
      let r = numbered-in (output_sites design) site 0 design.nodes b in
      let e : 0 + r.0 ≡ r.0 = omega arith in
      let z = output-read r.0 r.1 site r.2 (subst (λ k. In site (output_sites design k r.1)) e r.3) named in
      let on : z.0 ≡ 0 + z.0 = omega arith in
      inl (answer-complete (object_spelled design word) 0 z.0 z.1 design.objects z.2 z.3 (subst (λ k. object_spelled design word k z.1 ≡ Some z.2) on z.4)))
      (λ (c : In site (joined (map_numbered terminal_sites 0 design.nodes))).
      let r = numbered-in terminal_sites site 0 design.nodes c in
      let e : 0 + r.0 ≡ r.0 = omega arith in
      let z = terminal-read r.0 r.1 site r.2 few (subst (λ k. In site (terminal_sites k r.1)) e r.3) named in
      inr (answer-complete (node_spelled word) 0 r.0 r.1 design.nodes z.0 r.2 (subst (λ k. node_spelled word k r.1 ≡ Some z.0) (sym e) z.1)))
      (in-append site (joined (map_numbered (output_sites design) 0 design.nodes)) (joined (map_numbered terminal_sites 0 design.nodes)) rest))
      (in-append site (joined (map_numbered variable_sites 0 design.objects)) (joined (map_numbered (output_sites design) 0 design.nodes) ++ joined (map_numbered terminal_sites 0 design.nodes)) h)

  -- what is read is the site
  reads-it : (site : FaultSite) → HasNumber site → In site (sites_of design) → site_name design site ≡ word → site_spelled design word ≡ Some site
  reads-it site few h named = by (first_answer (object_spelled design word) 0 design.objects) refl (first_answer (node_spelled word) 0 design.nodes) refl
    where
      is-it : (other : FaultSite) → (In other (sites_of design)) × (site_name design other ≡ word) → other ≡ site
      is-it other r = differ-one (site_name design) (sites_of design) other site rules.sites r.0 h (r.1 ∙ sym named)

      by : (one : Option FaultSite) → first_answer (object_spelled design word) 0 design.objects ≡ one → (two : Option FaultSite) → first_answer (node_spelled word) 0 design.nodes ≡ two →
          site_spelled design word ≡ Some site
      by (Some other) first two second =
          let r = answer-sound (object_spelled design word) 0 design.objects other first in
          let e : 0 + r.0 ≡ r.0 = omega arith in
          let same : other ≡ site = is-it other (object-sound r.0 r.1 other r.2 (subst (λ k. object_spelled design word k r.1 ≡ Some other) e r.3)) in
          ap (λ o. or_else o (or_else (first_answer (node_spelled word) 0 design.nodes) (first_answer (name_spelled design word) 0 design.joined))) first ∙ ap (λ s. Some s) same
      by None first (Some other) second =
          let r = answer-sound (node_spelled word) 0 design.nodes other second in
          let e : 0 + r.0 ≡ r.0 = omega arith in
          let same : other ≡ site = is-it other (node-sound r.0 r.1 other r.2 (subst (λ k. node_spelled word k r.1 ≡ Some other) e r.3)) in
          ap (λ o. or_else o (or_else (first_answer (node_spelled word) 0 design.nodes) (first_answer (name_spelled design word) 0 design.joined))) first
          ∙ (ap (λ o. or_else o (first_answer (name_spelled design word) 0 design.joined)) second ∙ ap (λ s. Some s) same)
      by None first None second =
          ⊎_elim (λ (a : (z : FaultSite) × (first_answer (object_spelled design word) 0 design.objects ≡ Some z)). let never : None ≡ Some a.0 = sym first ∙ a.1 in absurd (cc))
          (λ (b : (z : FaultSite) × (first_answer (node_spelled word) 0 design.nodes ≡ Some z)). let never : None ≡ Some b.0 = sym second ∙ b.1 in absurd (cc))
          (read-somewhere site few h named)

-- a name that is written is read as its site
pub names_are_read : NamesAreRead
names_are_read design site rules few among = reads-it design rules (site_name design site) site few (in-contains (sites_of design) site among) refl
