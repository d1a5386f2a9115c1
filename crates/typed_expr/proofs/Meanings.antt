-- What holds of the meaning of each expression: its captures are there and keep to the schema, its constants are
-- valid, and it doesn't depend on places.
use Rattle.std.proofs.Common.{◌≡◌, ◌∙◌, refl, sym, ap, subst, ℕ, ℤ, ◌+◌, ◌<◌, Bool, true, false, ◌&&◌, List, [], ◌∷◌, ◌++◌, append_assoc, length, map, Option, Some, None, arith}
use Rattle.std.specs.Prelude.{◌==◌}
use Rattle.std.specs.List.{AllByRecursion, cons_option, position_or_len, slice_get}
use Rattle.std.specs.Option.{option_map}
use Rattle.std.specs.Str.{bytes_eq}
use Rattle.std.proofs.lemmas.Bool.{eq-eqb}
use Rattle.std.proofs.lemmas.List.{length-append, length-map}
use Rattle.std.proofs.lemmas.Option.{slice_get_within}
use Rattle.std.proofs.lemmas.Slice.Eq.{bytes_eq-Decides}
use Rattle.adfs_base.specs.declared.value.Kind.{Kind}
use Rattle.adfs_base.specs.declared.value.Value.TheVariants as value
use Rattle.graph_tables.specs.Properties.{Property, SchemaLists, property_from}
use Rattle.pgql_tree.specs.declared.ast.AstExpr.{AstExpr}
use Rattle.pgql_tree.specs.declared.ast.AstExpr.TheVariants as ast
use Rattle.pgql_tree.specs.Same.{bare, bare_name}
use Rattle.pgql_tree.proofs.Bare as bare
use Rattle.value_text.specs.Dates.{IsDay, date_cell}
use Rattle.value_text.specs.Texts.{number_of}
use Rattle.value_text.specs.Valid.{IsValid}
use Rattle.typed_query.specs.declared.expr.Expr.{Expr}
use Rattle.typed_query.specs.declared.expr.Expr.TheVariants as expr
use Rattle.typed_query.specs.declared.query.Capture.{Capture}
use Rattle.typed_query.specs.declared.query.What.TheVariants as what
use Rattle.pattern_scope.specs.declared.scope.Declared.{Declared}
use Rattle.typed_expr.specs.Captured.{HasItsKind, KeepsKind}
use Rattle.typed_expr.specs.Kinds.{property_in}
use Rattle.typed_expr.specs.Meaning.{captured, date_value, meant}
use Rattle.pattern_scope.specs.Names.{variable_of}
use Rattle.typed_query.specs.Parts.{HasCapturesBelow, HasValidConstants}
use Rattle.typed_expr.specs.Uses.{literals, property_of_variable, property_use, same_use, part_of, use_of, uses}
use Rattle.pattern_scope.proofs.Added.{IsIn, all-join, all-split, position-within}
use Rattle.typed_expr.proofs.AstByParts.{by_parts}
use Rattle.literal_texts.proofs.Cases as literal
use Rattle.typed_expr.proofs.Cases as cases
use Rattle.typed_expr.proofs.Days.{date_is_day}
use Rattle.typed_expr.proofs.Lists.{from_zero}
use Rattle.typed_query.proofs.Parts as parts
use Rattle.typed_expr.proofs.Scopes.{variable_found}

at_seam : (before rest : List Property) (p : Property) → slice_get (before ++ p ∷ rest) (length before) ≡ Some p
at_seam [] rest p = refl
at_seam (x ∷ before) rest p = at_seam before rest p

-- a property that is found by its name has that number and that kind
property-found : (before rest : List Property) (name : List ℕ) (found : ℕ × Kind) → property_from (length before) rest name ≡ Some found
    → option_map (λ p. p.type) (slice_get (before ++ rest) found.0) ≡ Some found.1
property-found before [] name found is = absurd cc
property-found before (p ∷ rest) name found is = by_test (bytes_eq name p.name) refl (property-found (before ++ p ∷ []) rest name found)
  where
    by_test : (t : Bool) → bytes_eq name p.name ≡ t
        → (property_from (length (before ++ p ∷ [])) rest name ≡ Some found → option_map (λ p. p.type) (slice_get ((before ++ p ∷ []) ++ rest) found.0) ≡ Some found.1)
        → option_map (λ p. p.type) (slice_get (before ++ p ∷ rest) found.0) ≡ Some found.1
    by_test true here more =
        let same : Some (length before, p.type) ≡ Some found = rw here at is in
        subst (λ f. option_map (λ p. p.type) (slice_get (before ++ p ∷ rest) f.0) ≡ Some f.1) (let e : (length before, p.type) ≡ found = cc in e) (ap (option_map (λ p. p.type)) (at_seam before rest p))
    by_test false other more =
        let later : property_from (length before + 1) rest name ≡ Some found = rw other at is in
        subst (λ all. option_map (λ p. p.type) (slice_get all found.0) ≡ Some found.1) (append_assoc before (p ∷ []) rest)
        (more (subst (λ n. property_from n rest name ≡ Some found) (sym (length-append before (p ∷ []))) later))

property-kept : (schema : SchemaLists) (edge : Bool) (name : List ℕ) (found : ℕ × Kind) → property_in schema edge name ≡ Some found → KeepsKind schema (what.Property found.0 found.1) (Some edge)
property-kept schema false name found is = property-found [] schema.vertex name found is
property-kept schema true name found is = property-found [] schema.edge name found is

pub use-itself : (a : Capture) → same_use a a ≡ true
use-itself a = ap (λ t. t && (part_of a.what == part_of a.what)) (eq-eqb a.variable a.variable refl) ∙ eq-eqb (part_of a.what) (part_of a.what) refl

pub text-itself : (text : List ℕ) → bytes_eq text text ≡ true
text-itself text = (bytes_eq-Decides text text).1 refl

module _ (schema : SchemaLists) (variables : List Declared) where
  -- a use is one of a variable
  abbrev pub NamesVariable : Capture → Type 0
  NamesVariable use' = use'.variable < length variables

  variable-within : (name : List ℕ) (found : ℕ × Bool) → variable_of variables name ≡ Some found → found.0 < length variables
  variable-within name found is =
      let place = variable_found 0 variables name found.0 found.1 is in
      let within = slice_get_within (map (λ v. v.edge) variables) place.0 found.1 place.2 in
      omega (arith, place.1, within, length-map variables (λ v. v.edge))

  -- what holds of each use of a variable
  record EachUse (P : Capture → Type 0) : Type 0 where
    of_key : (name : List ℕ) (found : ℕ × Bool) → variable_of variables name ≡ Some found → P (record { variable = found.0; what = what.Id })
    of_label : (name : List ℕ) (found : ℕ × Bool) → variable_of variables name ≡ Some found → P (record { variable = found.0; what = what.Label })
    of_property : (property name : List ℕ) (found : ℕ × Bool) (p : ℕ × Kind) → variable_of variables name ≡ Some found → property_in schema found.1 property ≡ Some p
        → P (record { variable = found.0; what = what.Property p.0 p.1 })

  module _ (P : Capture → Type 0) (each : EachUse P) where
    use-key : (name : List ℕ) (found : Option (ℕ × Bool)) → variable_of variables name ≡ found → AllByRecursion P (cons_option (use_of what.Id found) [])
    use-key name None is = tt
    use-key name (Some found) is = (each.of_key name found is, tt)

    use-label : (name : List ℕ) (found : Option (ℕ × Bool)) → variable_of variables name ≡ found → AllByRecursion P (cons_option (use_of what.Label found) [])
    use-label name None is = tt
    use-label name (Some found) is = (each.of_label name found is, tt)

    use-property : (property name : List ℕ) (found : Option (ℕ × Bool)) → variable_of variables name ≡ found → AllByRecursion P (cons_option (property_use schema property found) [])
    use-property property name None is = tt
    use-property property name (Some found) is = of_property (property_in schema found.1 property) refl
      where
        of_property : (p : Option (ℕ × Kind)) → property_in schema found.1 property ≡ p → AllByRecursion P (cons_option (property_of_variable found.0 p) [])
        of_property None there = tt
        of_property (Some p) there = (each.of_property property name found p is there, tt)

    told : (a : AstExpr) {found : List Capture} → uses schema variables a ≡ found → AllByRecursion P found → AllByRecursion P (uses schema variables a)
    told a is all = subst (AllByRecursion P) (sym is) all

    each_use : (a : AstExpr) → AllByRecursion P (uses schema variables a)
    each_use = by_parts (λ a. AllByRecursion P (uses schema variables a)) (record {
      int = λ number at. told (ast.Int number at) (cases.uses-Int _ _ _ number at refl) tt;
      text = λ content at. told (ast.Text content at) (cases.uses-Text _ _ _ content at refl) tt;
      date = λ content at. told (ast.Date content at) (cases.uses-Date _ _ _ content at refl) tt;
      bool = λ truth at. told (ast.Bool truth at) (cases.uses-Bool _ _ _ truth at refl) tt;
      name = λ name at. told (ast.Name at name) (cases.uses-Name _ _ _ name at refl) tt;
      property = λ variable property at.
          told (ast.Property at variable property) (cases.uses-Property _ _ _ variable property at refl) (use-property property variable (variable_of variables variable) refl);
      id = λ variable at. told (ast.Id variable at) (cases.uses-Id _ _ _ variable at refl) (use-key variable.name (variable_of variables variable.name) refl);
      label = λ variable at. told (ast.Label variable at) (cases.uses-Label _ _ _ variable at refl) (use-label variable.name (variable_of variables variable.name) refl);
      not = λ inside at within. told (ast.Not inside at) (cases.uses-Not _ _ _ inside at refl) within;
      neg = λ inside at within. told (ast.Neg inside at) (cases.uses-Neg _ _ _ inside at refl) within;
      is_null = λ inside negated at within. told (ast.IsNull inside negated at) (cases.uses-IsNull _ _ _ inside negated at refl) within;
      binary = λ op left right at first second.
          told (ast.Binary op at left right) (cases.uses-Binary _ _ _ op left right at refl)
          (all-join P (uses schema variables left) (uses schema variables right) first second);
    })

  pub uses-name_variables : (a : AstExpr) → AllByRecursion NamesVariable (uses schema variables a)
  uses-name_variables = each_use NamesVariable (record {
    of_key = variable-within;
    of_label = variable-within;
    of_property = λ property name found p is there. variable-within name found is;
  })

  -- the variable of a use, by its number
  edge-found : (name : List ℕ) (found : ℕ × Bool) → variable_of variables name ≡ Some found → slice_get (map (λ v. v.edge) variables) found.0 ≡ Some found.1
  edge-found name found is =
      let place = variable_found 0 variables name found.0 found.1 is in
      subst (λ n. slice_get (map (λ v. v.edge) variables) n ≡ Some found.1) (sym (from_zero place.0) ∙ place.1) place.2

  -- a use of a property has the kind that the schema gives it
  pub uses-keep_kinds : (a : AstExpr) → AllByRecursion (HasItsKind schema (map (λ v. v.edge) variables)) (uses schema variables a)
  uses-keep_kinds = each_use (HasItsKind schema (map (λ v. v.edge) variables)) (record {
    of_key = λ name found is. subst (KeepsKind schema what.Id) (sym (edge-found name found is)) tt;
    of_label = λ name found is. subst (KeepsKind schema what.Label) (sym (edge-found name found is)) tt;
    of_property = λ property name found p is there.
        subst (KeepsKind schema (what.Property p.0 p.1)) (sym (edge-found name found is)) (property-kept schema found.1 property p there);
  })

  module _ (captures : List Capture) (texts : List (List ℕ)) where
    abbrev pub IsCaptured : Capture → Type 0
    IsCaptured = IsIn same_use use-itself captures

    abbrev IsBelow : Expr → Type 0
    IsBelow = HasCapturesBelow (length captures)

    captured-below : (use' : Option Capture) → AllByRecursion IsCaptured (cons_option use' []) → IsBelow (captured captures use')
    captured-below None all = parts.below-Constant value.Null
    captured-below (Some use') all = parts.below-Captured (position_or_len (same_use use') captures) (position-within (same_use use') captures all.0)

    below : (a : AstExpr) {e : Expr} → meant schema variables captures texts a ≡ e → IsBelow e → IsBelow (meant schema variables captures texts a)
    below a is b = subst IsBelow (sym is) b

    used : (a : AstExpr) {found : List Capture} → uses schema variables a ≡ found → AllByRecursion IsCaptured (uses schema variables a) → AllByRecursion IsCaptured found
    used a is all = subst (AllByRecursion IsCaptured) is all

    pub meant-captured : (a : AstExpr) → AllByRecursion IsCaptured (uses schema variables a) → IsBelow (meant schema variables captures texts a)
    meant-captured = by_parts (λ a. AllByRecursion IsCaptured (uses schema variables a) → IsBelow (meant schema variables captures texts a)) (record {
      int = λ number at all. below (ast.Int number at) (cases.meant-Int _ _ _ _ _ number at refl) (parts.below-Constant (value.Int number));
      text = λ content at all.
          below (ast.Text content at) (cases.meant-Text _ _ _ _ _ content at refl)
          (parts.below-Constant (value.Text (number_of texts content)));
      date = λ content at all.
          below (ast.Date content at) (cases.meant-Date _ _ _ _ _ content at refl)
          (parts.below-Constant (date_value (date_cell content)));
      bool = λ truth at all. below (ast.Bool truth at) (cases.meant-Bool _ _ _ _ _ truth at refl) (parts.below-Constant (value.Bool truth));
      name = λ name at all. below (ast.Name at name) (cases.meant-Name _ _ _ _ _ name at refl) (parts.below-Constant value.Null);
      property = λ variable property at all.
          below (ast.Property at variable property) (cases.meant-Property _ _ _ _ _ variable property at refl)
          (captured-below (property_use schema property (variable_of variables variable)) (used (ast.Property at variable property) (cases.uses-Property _ _ _ variable property at refl) all));
      id = λ variable at all.
          below (ast.Id variable at) (cases.meant-Id _ _ _ _ _ variable at refl)
          (captured-below (use_of what.Id (variable_of variables variable.name)) (used (ast.Id variable at) (cases.uses-Id _ _ _ variable at refl) all));
      label = λ variable at all.
          below (ast.Label variable at) (cases.meant-Label _ _ _ _ _ variable at refl)
          (captured-below (use_of what.Label (variable_of variables variable.name)) (used (ast.Label variable at) (cases.uses-Label _ _ _ variable at refl) all));
      not = λ inside at within all.
          below (ast.Not inside at) (cases.meant-Not _ _ _ _ _ inside at refl)
          (parts.below-Not (meant schema variables captures texts inside) (within (used (ast.Not inside at) (cases.uses-Not _ _ _ inside at refl) all)));
      neg = λ inside at within all.
          below (ast.Neg inside at) (cases.meant-Neg _ _ _ _ _ inside at refl)
          (parts.below-Neg (meant schema variables captures texts inside) (within (used (ast.Neg inside at) (cases.uses-Neg _ _ _ inside at refl) all)));
      is_null = λ inside negated at within all.
          below (ast.IsNull inside negated at) (cases.meant-IsNull _ _ _ _ _ inside negated at refl)
          (parts.below-IsNull (meant schema variables captures texts inside) negated (within (used (ast.IsNull inside negated at) (cases.uses-IsNull _ _ _ inside negated at refl) all)));
      binary = λ op left right at first second all.
          let both = all-split IsCaptured (uses schema variables left) (uses schema variables right) (used (ast.Binary op at left right) (cases.uses-Binary _ _ _ op left right at refl) all) in
          below (ast.Binary op at left right) (cases.meant-Binary _ _ _ _ _ op left right at refl)
          (parts.below-Binary op (meant schema variables captures texts left) (meant schema variables captures texts right) (first both.0) (second both.1));
    })

    abbrev pub IsText : List ℕ → Type 0
    IsText = IsIn bytes_eq text-itself texts

    day-valid : (day : Option ℤ) → ((d : ℤ) → day ≡ Some d → IsDay d) → IsValid texts (date_value day)
    day-valid None days = tt
    day-valid (Some d) days = days d refl

    captured-valid : (use' : Option Capture) → HasValidConstants texts (captured captures use')
    captured-valid None = parts.valid-Constant value.Null tt
    captured-valid (Some use') = parts.valid-Captured (position_or_len (same_use use') captures)

    valid : (a : AstExpr) {e : Expr} → meant schema variables captures texts a ≡ e → HasValidConstants texts e → HasValidConstants texts (meant schema variables captures texts a)
    valid a is v = subst (HasValidConstants texts) (sym is) v

    written : (a : AstExpr) {found : List (List ℕ)} → literals a ≡ found → AllByRecursion IsText (literals a) → AllByRecursion IsText found
    written a is all = subst (AllByRecursion IsText) is all

    pub meant-valid : (a : AstExpr) → AllByRecursion IsText (literals a) → HasValidConstants texts (meant schema variables captures texts a)
    meant-valid = by_parts (λ a. AllByRecursion IsText (literals a) → HasValidConstants texts (meant schema variables captures texts a)) (record {
      int = λ number at all. valid (ast.Int number at) (cases.meant-Int _ _ _ _ _ number at refl) (parts.valid-Constant (value.Int number) tt);
      text = λ content at all.
          valid (ast.Text content at) (cases.meant-Text _ _ _ _ _ content at refl)
          (parts.valid-Constant (value.Text (number_of texts content)) (position-within (bytes_eq content) texts (written (ast.Text content at) (literal.literals-Text _ content at refl) all).0));
      date = λ content at all.
          valid (ast.Date content at) (cases.meant-Date _ _ _ _ _ content at refl)
          (parts.valid-Constant (date_value (date_cell content)) (day-valid (date_cell content) (date_is_day content)));
      bool = λ truth at all. valid (ast.Bool truth at) (cases.meant-Bool _ _ _ _ _ truth at refl) (parts.valid-Constant (value.Bool truth) tt);
      name = λ name at all. valid (ast.Name at name) (cases.meant-Name _ _ _ _ _ name at refl) (parts.valid-Constant value.Null tt);
      property = λ variable property at all.
          valid (ast.Property at variable property) (cases.meant-Property _ _ _ _ _ variable property at refl)
          (captured-valid (property_use schema property (variable_of variables variable)));
      id = λ variable at all.
          valid (ast.Id variable at) (cases.meant-Id _ _ _ _ _ variable at refl)
          (captured-valid (use_of what.Id (variable_of variables variable.name)));
      label = λ variable at all.
          valid (ast.Label variable at) (cases.meant-Label _ _ _ _ _ variable at refl)
          (captured-valid (use_of what.Label (variable_of variables variable.name)));
      not = λ inside at within all.
          valid (ast.Not inside at) (cases.meant-Not _ _ _ _ _ inside at refl)
          (parts.valid-Not (meant schema variables captures texts inside) (within (written (ast.Not inside at) (literal.literals-Not _ inside at refl) all)));
      neg = λ inside at within all.
          valid (ast.Neg inside at) (cases.meant-Neg _ _ _ _ _ inside at refl)
          (parts.valid-Neg (meant schema variables captures texts inside) (within (written (ast.Neg inside at) (literal.literals-Neg _ inside at refl) all)));
      is_null = λ inside negated at within all.
          valid (ast.IsNull inside negated at) (cases.meant-IsNull _ _ _ _ _ inside negated at refl)
          (parts.valid-IsNull (meant schema variables captures texts inside) negated (within (written (ast.IsNull inside negated at) (literal.literals-IsNull _ inside negated at refl) all)));
      binary = λ op left right at first second all.
          let both = all-split IsText (literals left) (literals right) (written (ast.Binary op at left right) (literal.literals-Binary _ op left right at refl) all) in
          valid (ast.Binary op at left right) (cases.meant-Binary _ _ _ _ _ op left right at refl)
          (parts.valid-Binary op (meant schema variables captures texts left) (meant schema variables captures texts right) (first both.0) (second both.1));
    })

    -- places have no part in it
    meant-bare : (a : AstExpr) → meant schema variables captures texts (bare a) ≡ meant schema variables captures texts a
    meant-bare = by_parts (λ a. meant schema variables captures texts (bare a) ≡ meant schema variables captures texts a) (record {
      int = λ number at.
          ap (meant schema variables captures texts) (bare.bare-Int number at) ∙ cases.meant-Int _ _ _ _ _ number 0 refl
          ∙ sym (cases.meant-Int _ _ _ _ _ number at refl);
      text = λ content at.
          ap (meant schema variables captures texts) (bare.bare-Text content at) ∙ cases.meant-Text _ _ _ _ _ content 0 refl
          ∙ sym (cases.meant-Text _ _ _ _ _ content at refl);
      date = λ content at.
          ap (meant schema variables captures texts) (bare.bare-Date content at) ∙ cases.meant-Date _ _ _ _ _ content 0 refl
          ∙ sym (cases.meant-Date _ _ _ _ _ content at refl);
      bool = λ truth at.
          ap (meant schema variables captures texts) (bare.bare-Bool truth at) ∙ cases.meant-Bool _ _ _ _ _ truth 0 refl
          ∙ sym (cases.meant-Bool _ _ _ _ _ truth at refl);
      name = λ name at.
          ap (meant schema variables captures texts) (bare.bare-Name name at) ∙ cases.meant-Name _ _ _ _ _ name 0 refl
          ∙ sym (cases.meant-Name _ _ _ _ _ name at refl);
      property = λ variable property at.
          ap (meant schema variables captures texts) (bare.bare-Property variable property at) ∙ cases.meant-Property _ _ _ _ _ variable property 0 refl
          ∙ sym (cases.meant-Property _ _ _ _ _ variable property at refl);
      id = λ variable at.
          ap (meant schema variables captures texts) (bare.bare-Id variable at) ∙ cases.meant-Id _ _ _ _ _ (bare_name variable) 0 refl
          ∙ sym (cases.meant-Id _ _ _ _ _ variable at refl);
      label = λ variable at.
          ap (meant schema variables captures texts) (bare.bare-Label variable at) ∙ cases.meant-Label _ _ _ _ _ (bare_name variable) 0 refl
          ∙ sym (cases.meant-Label _ _ _ _ _ variable at refl);
      not = λ inside at within.
          ap (meant schema variables captures texts) (bare.bare-Not inside at) ∙ cases.meant-Not _ _ _ _ _ (bare inside) 0 refl
          ∙ ap expr.Not within
          ∙ sym (cases.meant-Not _ _ _ _ _ inside at refl);
      neg = λ inside at within.
          ap (meant schema variables captures texts) (bare.bare-Neg inside at) ∙ cases.meant-Neg _ _ _ _ _ (bare inside) 0 refl
          ∙ ap expr.Neg within
          ∙ sym (cases.meant-Neg _ _ _ _ _ inside at refl);
      is_null = λ inside negated at within.
          ap (meant schema variables captures texts) (bare.bare-IsNull inside negated at) ∙ cases.meant-IsNull _ _ _ _ _ (bare inside) negated 0 refl
          ∙ ap (λ x. expr.IsNull x negated) within
          ∙ sym (cases.meant-IsNull _ _ _ _ _ inside negated at refl);
      binary = λ op left right at first second.
          ap (meant schema variables captures texts) (bare.bare-Binary op left right at) ∙ cases.meant-Binary _ _ _ _ _ op (bare left) (bare right) 0 refl
          ∙ ap (λ x. expr.Binary op x (meant schema variables captures texts (bare right))) first ∙ ap (expr.Binary op (meant schema variables captures texts left)) second
          ∙ sym (cases.meant-Binary _ _ _ _ _ op left right at refl);
    })

    pub meant-same : (a b : AstExpr) → bare a ≡ bare b → meant schema variables captures texts a ≡ meant schema variables captures texts b
    meant-same a b same = sym (meant-bare a) ∙ ap (meant schema variables captures texts) same ∙ meant-bare b
