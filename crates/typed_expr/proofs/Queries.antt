-- The query of a tree without faults is well formed, its constants are valid, and its captures keep to the schema.
use Rattle.std.proofs.Common.{◌≡◌, ◌∙◌, refl, sym, ap, subst, ℕ, suc, ◌+◌, ◌≤◌, ◌<◌, Bool, true, false, List, [], ◌∷◌, ◌++◌, length, map, Option, Some, None, Result, Ok, Err, arith}
use Rattle.std.specs.Prelude.{find, flat_map, fold, All, IfOk}
use Rattle.std.specs.List.{AllByRecursion, Contains, list_any}
use Rattle.std.specs.Option.{option_and_then}
use Rattle.std.specs.Str.{bytes_eq}
use Rattle.std.proofs.lemmas.List.{append-nil, length-map}
use Rattle.std.proofs.lemmas.List.Elements.{All-from_recursion, recursion_from_All}
use Rattle.graph_tables.specs.Properties.{SchemaLists}
use Rattle.pgql_tree.specs.declared.ast.Ast.{Ast}
use Rattle.pgql_tree.specs.declared.ast.AstExpr.{AstExpr}
use Rattle.pgql_tree.specs.declared.ast.Item.{Item}
use Rattle.pgql_tree.specs.declared.ast.Key.{Key}
use Rattle.pgql_tree.specs.declared.ast.Op.{Op}
use Rattle.value_text.specs.Texts.{with_text}
use Rattle.typed_query.specs.declared.expr.Expr.{Expr}
use Rattle.typed_query.specs.declared.expr.Expr.TheVariants as expr
use Rattle.pattern_scope.specs.declared.fault.TypeFault.{TypeFault}
use Rattle.typed_query.specs.declared.query.Capture.{Capture}
use Rattle.typed_query.specs.declared.query.Query.{Query}
use Rattle.pattern_scope.specs.declared.scope.Declared.{Declared}
use Rattle.pattern_scope.specs.declared.scope.Scope.{Scope}
use Rattle.pattern_scope.specs.Joined.{are_joined, disconnected}
use Rattle.typed_expr.specs.Captured.{HasItsKind, HaveKinds}
use Rattle.typed_expr.specs.Kinds.{checked}
use Rattle.typed_expr.specs.Meaning.{conjuncts, is_and, meant}
use Rattle.typed_query.specs.Parts.{HasCapturesBelow, HasValidConstants}
use Rattle.typed_expr.specs.Same.{same}
use Rattle.pattern_scope.specs.Scope.{scope_of}
use Rattle.typed_expr.specs.Typed as spec
use Rattle.typed_expr.specs.Uses.{literals, same_use, uses}
use Rattle.typed_query.specs.WellFormed.{IsClosed, IsVertex, IsWellFormed, JoinsVertices, are_edges, edges_from, expressions, vertices_from}
use Rattle.pattern_scope.proofs.Added.{IsIn, added-keep, all-added, all-join, all-split}
use Rattle.typed_expr.proofs.Conjuncts as conj
use Rattle.typed_query.proofs.ExprByParts.{by_parts}
use Rattle.typed_expr.proofs.Flags.{at_vertex, vertices_and_edges}
use Rattle.typed_expr.proofs.Lists.{from_zero}
use Rattle.pattern_scope.proofs.Joins.{all_joined, same-joined}
use Rattle.typed_expr.proofs.Outcomes.{given}
use Rattle.typed_expr.proofs.Meanings.{IsCaptured, IsText, NamesVariable, meant-captured, meant-same, meant-valid, text-itself, use-itself, uses-keep_kinds, uses-name_variables}
use Rattle.typed_query.proofs.Parts.{below_left, below_right, left-Binary, right-Binary}
use Rattle.typed_expr.proofs.SameLaw.{is_told}
use Rattle.typed_expr.proofs.Scopes.{IsSound, edges_in, first-is-vertex, scope-sound}

none_of_both : {X : Type 0} (xs ys : List X) → xs ++ ys ≡ [] → (xs ≡ []) × (ys ≡ [])
none_of_both [] ys none = (refl, none)
none_of_both (x ∷ xs) ys none = absurd cc

none_of_all : {X Y : Type 0} (f : X → List Y) (xs : List X) → flat_map f xs ≡ [] → AllByRecursion (λ x. f x ≡ []) xs
none_of_all f [] none = tt
none_of_all f (x ∷ xs) none = let parts = none_of_both (f x) (flat_map f xs) none in (parts.0, none_of_all f xs parts.1)

-- the kinds of variables stay, with their label lists beside them
edges-variables_from : (n : ℕ) (labels : List (ℕ × List (List ℕ))) (variables : List Declared) → map (λ v. v.edge) (spec.variables_from n labels variables) ≡ map (λ v. v.edge) variables
edges-variables_from n labels [] = refl
edges-variables_from n labels (v ∷ variables) = ap (λ rest. v.edge ∷ rest) (edges-variables_from (n + 1) labels variables)

length-variables_from : (n : ℕ) (labels : List (ℕ × List (List ℕ))) (variables : List Declared) → length (spec.variables_from n labels variables) ≡ length variables
length-variables_from n labels [] = refl
length-variables_from n labels (v ∷ variables) = ap (λ m. suc m) (length-variables_from (n + 1) labels variables)

found_item : (Q : Item → Type 0) (p : Item → Bool) (items : List Item) (item : Item) → find p items ≡ Some item → AllByRecursion Q items → Q item
found_item Q p [] item is all = absurd cc
found_item Q p (first ∷ items) item is all = by_test (p first) refl (λ found. found_item Q p items item found all.1)
  where
    by_test : (t : Bool) → p first ≡ t → (find p items ≡ Some item → Q item) → Q item
    by_test true here more = let same : Some first ≡ Some item = rw here at is in subst Q (let e : first ≡ item = cc in e) all.0
    by_test false other more = more (rw other at is)

-- the item that a key stands for is one of the items
item_is : (Q : Item → Type 0) (items : List Item) (name : Option (List ℕ)) (item : Item) → option_and_then (λ n. find (spec.is_called n) items) name ≡ Some item → AllByRecursion Q items → Q item
item_is Q items None item is all = absurd cc
item_is Q items (Some name) item is all = found_item Q (spec.is_called name) items item is all

-- A fact of expressions that with an operator holds of its sides: where each expression of the tree means such a
-- one, each of the query is such a one.
module _ (B : Expr → Type 0) (sides : (op : Op) (left right : Expr) → B (expr.Binary op left right) → B left × B right) where
  of_binary : (t : Bool) (op : Op) (left right : Expr) → is_and op ≡ t → (B left → AllByRecursion B (conjuncts left)) → (B right → AllByRecursion B (conjuncts right)) → B (expr.Binary op left right)
      → AllByRecursion B (conjuncts (expr.Binary op left right))
  of_binary true op left right is first second b =
      let both = sides op left right b in
      subst (AllByRecursion B) (sym (conj.conjuncts-And (expr.Binary op left right) op left right refl is)) (all-join B (conjuncts left) (conjuncts right) (first both.0) (second both.1))
  of_binary false op left right is first second b = subst (AllByRecursion B) (sym (conj.conjuncts-other (expr.Binary op left right) op left right refl is)) (b, tt)

  each_conjunct : (e : Expr) → B e → AllByRecursion B (conjuncts e)
  each_conjunct = by_parts (λ e. B e → AllByRecursion B (conjuncts e)) (record {
    constant = λ a b. subst (AllByRecursion B) (sym (conj.conjuncts-Constant (expr.Constant a) a refl)) (b, tt);
    captured = λ i b. subst (AllByRecursion B) (sym (conj.conjuncts-Captured (expr.Captured i) i refl)) (b, tt);
    not = λ x more b. subst (AllByRecursion B) (sym (conj.conjuncts-Not (expr.Not x) x refl)) (b, tt);
    neg = λ x more b. subst (AllByRecursion B) (sym (conj.conjuncts-Neg (expr.Neg x) x refl)) (b, tt);
    is_null = λ x negated more b. subst (AllByRecursion B) (sym (conj.conjuncts-IsNull (expr.IsNull x negated) x negated refl)) (b, tt);
    binary = λ op left right first second b. of_binary (is_and op) op left right refl first second b;
  })

  module _ {X : Type 0} (f : AstExpr → List X) (P : X → Type 0) (means : AstExpr → Expr) (meets : (a : AstExpr) → AllByRecursion P (f a) → B (means a)) where
    each_item : (items : List Item) → AllByRecursion P (flat_map (λ item. f item.expr) items) → AllByRecursion (λ item. B (means item.expr)) items
    each_item [] all = tt
    each_item (item ∷ items) all = let parts = all-split P (f item.expr) (flat_map (λ item. f item.expr) items) all in (meets item.expr parts.0, each_item items parts.1)

    each_column : (items : List Item) → AllByRecursion (λ item. B (means item.expr)) items → AllByRecursion B (map (λ (column : Expr × List ℕ). column.0) (map (λ item. (means item.expr, spec.column_of item)) items))
    each_column [] all = tt
    each_column (item ∷ items) all = (all.0, each_column items all.1)

    meets_by : (a : AstExpr) (found : Option Item) → ((item : Item) → found ≡ Some item → B (means item.expr)) → B (means a) → B (means (spec.expr_by a found))
    meets_by a None named own = own
    meets_by a (Some item) named own = named item refl

    each_key : (items : List Item) → AllByRecursion (λ item. B (means item.expr)) items → (keys : List Key) → AllByRecursion P (flat_map (λ key. f key.expr) keys)
        → AllByRecursion B (map (λ (key : Expr × Bool). key.0) (map (λ key. (means (spec.key_expr items key.expr), key.down)) keys))
    each_key items named [] all = tt
    each_key items named (key ∷ keys) all =
        let parts = all-split P (f key.expr) (flat_map (λ key. f key.expr) keys) all in
        let one = meets_by key.expr (spec.item_of items key.expr) (λ item is. item_is (λ item. B (means item.expr)) items (spec.alone key.expr) item is named) (meets key.expr parts.0) in
        (one, each_key items named keys parts.1)

    each_part : (condition : Option AstExpr) → AllByRecursion P (spec.of_condition f condition) → AllByRecursion B (spec.conjuncts_of means condition)
    each_part None all = tt
    each_part (Some condition) all = each_conjunct (means condition) (meets condition all)

    pub each_expression : (ast : Ast) (scope : Scope) (captures : List Capture) → AllByRecursion P (spec.of_all f ast) → AllByRecursion B (expressions (spec.query_by ast scope captures means))
    each_expression ast scope captures all =
        let items = flat_map (λ item. f item.expr) ast.items in
        let condition = spec.of_condition f ast.condition in
        let keys = flat_map (λ key. f key.expr) ast.keys in
        let first = all-split P items (condition ++ keys) all in
        let second = all-split P condition keys first.1 in
        let named = each_item ast.items first.0 in
        let columns = map (λ (column : Expr × List ℕ). column.0) (map (λ item. (means item.expr, spec.column_of item)) ast.items) in
        let ordered = map (λ (key : Expr × Bool). key.0) (map (λ key. (means (spec.key_expr ast.items key.expr), key.down)) ast.keys) in
        all-join B (spec.conjuncts_of means ast.condition ++ columns) ordered (all-join B (spec.conjuncts_of means ast.condition) columns (each_part ast.condition second.0) (each_column ast.items named))
        (each_key ast.items named ast.keys second.1)

-- all of something that each expression has
all_of : {X : Type 0} (f : AstExpr → List X) (P : X → Type 0) → ((a : AstExpr) → AllByRecursion P (f a)) → (ast : Ast) → AllByRecursion P (spec.of_all f ast)
all_of f P each ast =
    all-join P (flat_map (λ item. f item.expr) ast.items) (spec.of_condition f ast.condition ++ flat_map (λ key. f key.expr) ast.keys) (of_items ast.items)
    (all-join P (spec.of_condition f ast.condition) (flat_map (λ key. f key.expr) ast.keys) (of_one ast.condition) (of_keys ast.keys))
  where
    of_items : (items : List Item) → AllByRecursion P (flat_map (λ item. f item.expr) items)
    of_items [] = tt
    of_items (item ∷ items) = all-join P (f item.expr) (flat_map (λ item. f item.expr) items) (each item.expr) (of_items items)

    of_one : (condition : Option AstExpr) → AllByRecursion P (spec.of_condition f condition)
    of_one None = tt
    of_one (Some condition) = each condition

    of_keys : (keys : List Key) → AllByRecursion P (flat_map (λ key. f key.expr) keys)
    of_keys [] = tt
    of_keys (key ∷ keys) = all-join P (f key.expr) (flat_map (λ key. f key.expr) keys) (each key.expr) (of_keys keys)

contains-cons : {X : Type 0} (xs : List X) (x y : X) → Contains xs x → Contains (y ∷ xs) x
contains-cons xs x y (k, below, is) = (suc k, omega (arith, below), is)

module _ (schema : SchemaLists) (variables : List Declared) (captures : List Capture) (texts : List (List ℕ)) where
  abbrev columns : List Item → List Expr
  columns items = map (λ (column : Expr × List ℕ). column.0) (map (λ item. (meant schema variables captures texts item.expr, spec.column_of item)) items)

  -- the items of the select list are in it
  each_selected : (all items : List Item) → ((x : Expr) → Contains (columns items) x → Contains (columns all) x) → AllByRecursion (λ item. Contains (columns all) (meant schema variables captures texts item.expr)) items
  each_selected all [] within = tt
  each_selected all (item ∷ items) within =
      let own = meant schema variables captures texts item.expr in
      (within own (0, omega arith, refl), each_selected all items (λ x is. within x (contains-cons (columns items) x own is)))

  any_selected : (a : AstExpr) (items : List Item) → list_any (λ item. same a item.expr) items ≡ true → Contains (columns items) (meant schema variables captures texts a)
  any_selected a [] is = absurd cc
  any_selected a (item ∷ items) is = by_test (same a item.expr) refl (any_selected a items)
    where
      by_test : (t : Bool) → same a item.expr ≡ t → (list_any (λ item. same a item.expr) items ≡ true → Contains (columns items) (meant schema variables captures texts a)) → Contains (columns (item ∷ items)) (meant schema variables captures texts a)
      by_test true here more = (0, omega arith, sym (meant-same schema variables captures texts a item.expr ((is_told a item.expr).0 here)))
      by_test false other more = contains-cons (columns items) (meant schema variables captures texts a) (meant schema variables captures texts item.expr) (more (rw other at is))

  selected_by : (items : List Item) (key : Key) → spec.not_selected true items key ≡ [] → list_any (λ item. same key.expr item.expr) items ≡ true
  selected_by items key none = by_test (list_any (λ item. same key.expr item.expr) items) refl
    where
      by_test : (t : Bool) → list_any (λ item. same key.expr item.expr) items ≡ t → list_any (λ item. same key.expr item.expr) items ≡ true
      by_test true is = is
      by_test false is = absurd (let told = rw is at none in cc)

  key_by : (items : List Item) (key : Key) (found : Option Item) → ((item : Item) → found ≡ Some item → Contains (columns items) (meant schema variables captures texts item.expr))
      → spec.key_faults_by schema variables true items key found ≡ [] → Contains (columns items) (meant schema variables captures texts (spec.expr_by key.expr found))
  key_by items key (Some item) named none = named item refl
  key_by items key None named none =
      let parts = none_of_both (spec.faults_in (checked schema variables key.expr).kind) (spec.not_selected true items key) none in
      any_selected key.expr items (selected_by items key parts.1)

  pub keys_selected : (items : List Item) (keys : List Key) → AllByRecursion (λ key. spec.key_faults schema variables true items key ≡ []) keys
      → AllByRecursion (λ (key : Expr × Bool). Contains (columns items) key.0) (map (λ key. (meant schema variables captures texts (spec.key_expr items key.expr), key.down)) keys)
  keys_selected items [] none = tt
  keys_selected items (key ∷ keys) none =
      let all = each_selected items items (λ x is. is) in
      let named : (item : Item) → spec.item_of items key.expr ≡ Some item → Contains (columns items) (meant schema variables captures texts item.expr) =
      λ item is. item_is (λ item. Contains (columns items) (meant schema variables captures texts item.expr)) items (spec.alone key.expr) item is all in
      (key_by items key (spec.item_of items key.expr) named none.0, keys_selected items keys none.1)

captured_sides : {count : ℕ} (op : Op) (left right : Expr) → HasCapturesBelow count (expr.Binary op left right) → HasCapturesBelow count left × HasCapturesBelow count right
captured_sides op left right below = (below_left below op left right refl, below_right below op left right refl)

valid_sides : {texts : List (List ℕ)} (op : Op) (left right : Expr) → HasValidConstants texts (expr.Binary op left right) → HasValidConstants texts left × HasValidConstants texts right
valid_sides op left right valid = (left-Binary valid op left right refl, right-Binary valid op left right refl)

-- the parts of a list of faults that is empty
record AreNone (schema : SchemaLists) (ast : Ast) (scope : Scope) : Type 0 where
  declared : scope.faults ≡ []
  joined : disconnected scope.links scope.vertices ≡ []
  keys : flat_map (spec.key_faults schema scope.variables ast.distinct ast.items) ast.keys ≡ []

none_of : (schema : SchemaLists) (ast : Ast) (scope : Scope) → spec.faults_of schema ast scope ≡ [] → AreNone schema ast scope
none_of schema ast scope none =
    let keys = flat_map (spec.key_faults schema scope.variables ast.distinct ast.items) ast.keys in
    let condition = spec.condition_faults schema scope.variables ast.condition in
    let doubled = spec.double_names [] ast.items in
    let items = flat_map (λ item. spec.faults_in (checked schema scope.variables item.expr).kind) ast.items in
    let apart = disconnected scope.links scope.vertices in
    let both = none_of_both (scope.faults ++ apart) (spec.expression_faults schema scope.variables ast) none in
    let pattern = none_of_both scope.faults apart both.0 in
    let expressions = none_of_both (items ++ doubled ++ condition) keys both.1 in
    record { declared = pattern.0; joined = pattern.1; keys = expressions.1 }

module _ (schema : SchemaLists) (ast : Ast) (scope : Scope) (texts : List (List ℕ)) where
  all_captured : AllByRecursion (IsCaptured schema scope.variables (spec.captures_of schema scope.variables ast) texts) (spec.of_all (uses schema scope.variables) ast)
  all_captured = all-added same_use use-itself [] (spec.of_all (uses schema scope.variables) ast)

  edges_same : are_edges (spec.query_of schema ast scope texts) ≡ edges_in scope
  edges_same = edges-variables_from 0 scope.labels scope.variables

  connected : IsSound [] scope → disconnected scope.links scope.vertices ≡ [] → (set : ℕ → Bool) → IsClosed (spec.query_of schema ast scope texts) set
      → (number : ℕ) → IsVertex (are_edges (spec.query_of schema ast scope texts)) number → set number ≡ true
  connected sound none set closed number is =
      let vertex = subst (λ edges. IsVertex edges number) edges_same is in
      let linked = sound.follows set (recursion_from_All (λ join. set join.source ≡ set join.target) scope.edges closed.both_or_neither) in
      let joined = subst (AllByRecursion (λ n. are_joined scope.links 0 n ≡ true)) sound.vertices (all_joined scope.links scope.vertices none) in
      let here = subst (λ n. are_joined scope.links 0 n ≡ true) (from_zero number) (at_vertex (λ n. are_joined scope.links 0 n ≡ true) 0 (edges_in scope) number joined vertex) in
      sym (same-joined set scope.links linked 0 number here) ∙ closed.has_first

  pub well_formed : 0 < length ast.paths → scope ≡ scope_of ast.paths → spec.faults_of schema ast scope ≡ [] → IsWellFormed (spec.query_of schema ast scope texts)
  well_formed some declared no_fault =
      let none = none_of schema ast scope no_fault in
      let sound = subst (IsSound []) (sym declared) (scope-sound ast.paths (ap (λ s. s.faults) (sym declared) ∙ none.declared)) in
      let captures = spec.captures_of schema scope.variables ast in
      let all_edges = edges_same in
      let counted = vertices_and_edges 0 (edges_in scope) in
      let vertex_count : length (vertices_from 0 (edges_in scope)) ≡ length scope.vertices = ap length (sym sound.vertices) ∙ length-map scope.vertices (λ vertex. vertex.0) in
      let count = length-map scope.variables (λ v. v.edge) in
      record {
        few_vertices = subst (λ edges. length (vertices_from 0 edges) ≤ 10) (sym all_edges) (omega (arith, vertex_count, sound.few_vertices));
        few_edges = subst (λ edges. length (edges_from 0 edges) ≤ 12) (sym all_edges) (omega (arith, vertex_count, counted, count, sound.few_edges));
        begins_with_vertex = subst (λ edges. IsVertex edges 0) (sym all_edges) (subst (λ s. IsVertex (edges_in s) 0) (sym declared) (first-is-vertex ast.paths some));
        edges_are_joined = sym (append-nil (map (λ join. join.edge) scope.edges)) ∙ sound.joined ∙ ap (edges_from 0) (sym all_edges);
        ends_are_vertices = All-from_recursion (JoinsVertices (are_edges (spec.query_of schema ast scope texts))) scope.edges (subst (λ edges. AllByRecursion (JoinsVertices edges) scope.edges) (sym all_edges) sound.ends);
        captures_name_variables = All-from_recursion (λ capture. capture.variable < length (spec.variables_from 0 scope.labels scope.variables)) captures
            (subst (λ n. AllByRecursion (λ capture. capture.variable < n) captures) (sym (length-variables_from 0 scope.labels scope.variables))
            (added-keep same_use use-itself (NamesVariable schema scope.variables) [] (spec.of_all (uses schema scope.variables) ast) tt (all_of (uses schema scope.variables) (NamesVariable schema scope.variables) (uses-name_variables schema scope.variables) ast)));
        uses_are_captured = All-from_recursion (HasCapturesBelow (length captures)) (expressions (spec.query_of schema ast scope texts))
            (each_expression (HasCapturesBelow (length captures)) captured_sides (uses schema scope.variables) (IsCaptured schema scope.variables captures texts) (meant schema scope.variables captures texts)
            (meant-captured schema scope.variables captures texts) ast scope captures all_captured);
        keys_are_selected = λ distinct.
            All-from_recursion (λ (key : Expr × Bool). Contains (columns schema scope.variables captures texts ast.items) key.0) (map (λ key. (meant schema scope.variables captures texts (spec.key_expr ast.items key.expr), key.down)) ast.keys)
            (keys_selected schema scope.variables captures texts ast.items ast.keys
            (subst (λ d. AllByRecursion (λ key. spec.key_faults schema scope.variables d ast.items key ≡ []) ast.keys) distinct (none_of_all (spec.key_faults schema scope.variables ast.distinct ast.items) ast.keys none.keys)));
        is_connected = connected sound none.joined;
      }

  -- with the texts of all literals among the texts, all constants are valid
  pub constants_valid : (old : List (List ℕ)) → texts ≡ fold with_text old (spec.all_literals ast) → All (HasValidConstants texts) (expressions (spec.query_of schema ast scope texts))
  constants_valid old added =
      let captures = spec.captures_of schema scope.variables ast in
      let all = subst (λ t. AllByRecursion (IsIn bytes_eq text-itself t) (spec.of_all literals ast)) (sym added) (all-added bytes_eq text-itself old (spec.of_all literals ast)) in
      All-from_recursion (HasValidConstants texts) (expressions (spec.query_of schema ast scope texts))
      (each_expression (HasValidConstants texts) valid_sides literals (IsText schema scope.variables captures texts) (meant schema scope.variables captures texts)
      (meant-valid schema scope.variables captures texts) ast scope captures all)

  -- the captures have the kinds that the schema has
  pub have_kinds : HaveKinds schema (spec.query_of schema ast scope texts)
  have_kinds =
      subst (λ edges. AllByRecursion (HasItsKind schema edges) (spec.captures_of schema scope.variables ast)) (sym edges_same)
      (added-keep same_use use-itself (HasItsKind schema (edges_in scope)) [] (spec.of_all (uses schema scope.variables) ast) tt
      (all_of (uses schema scope.variables) (HasItsKind schema (edges_in scope)) (uses-keep_kinds schema scope.variables) ast))

-- what was given as the meaning of a tree
module _ (schema : SchemaLists) (old new : List (List ℕ)) (ast : Ast) where
  pub given-well_formed : (answer : Result Query TypeFault) → spec.Gives old new answer (spec.typed schema old ast) → 0 < length ast.paths → IfOk answer IsWellFormed
  unfolding spec.typed
  given-well_formed (Err e) gives some = tt
  given-well_formed (Ok query) gives some =
      let parts = given schema old new ast (scope_of ast.paths) query gives in
      subst IsWellFormed (sym parts.2) (well_formed schema ast (scope_of ast.paths) new some refl parts.0)

  pub given-valid : (answer : Result Query TypeFault) → spec.Gives old new answer (spec.typed schema old ast) → IfOk answer (λ query. All (HasValidConstants new) (expressions query))
  unfolding spec.typed
  given-valid (Err e) gives = tt
  given-valid (Ok query) gives =
      let parts = given schema old new ast (scope_of ast.paths) query gives in
      subst (λ q. All (HasValidConstants new) (expressions q)) (sym parts.2) (constants_valid schema ast (scope_of ast.paths) new old parts.1)

  pub given-kinds : (answer : Result Query TypeFault) → spec.Gives old new answer (spec.typed schema old ast) → IfOk answer (HaveKinds schema)
  unfolding spec.typed
  given-kinds (Err e) gives = tt
  given-kinds (Ok query) gives =
      let parts = given schema old new ast (scope_of ast.paths) query gives in
      subst (HaveKinds schema) (sym parts.2) (have_kinds schema ast (scope_of ast.paths) new)
