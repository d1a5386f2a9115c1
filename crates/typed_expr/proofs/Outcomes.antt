-- What is answered where there is a first fault, and where there is none.
use Rattle.std.proofs.Common.{◌≡◌, ◌∙◌, ℕ, List, ◌∷◌, length, Option, Some, None, Result, Ok, Err, refl, sym, ap, subst, [], arith}
use Rattle.std.specs.Prelude.{fold}
use Rattle.std.proofs.lemmas.List.{take_all}
use Rattle.pgql_tree.specs.declared.ast.Ast.{Ast}
use Rattle.pgql_tree.specs.declared.ast.Path.{Path}
use Rattle.value_text.specs.Texts.{with_text}
use Rattle.pattern_scope.specs.declared.fault.TypeFault.{TypeFault}
use Rattle.pattern_scope.specs.declared.fault.TypeFault.TheVariants as fault
use Rattle.typed_query.specs.declared.query.Query.{Query}
use Rattle.pattern_scope.specs.declared.scope.Scope.{Scope}
use Rattle.typed_expr.specs.Faults.{earlier, earlier_of, first_of}
use Rattle.graph_tables.specs.Properties.{SchemaLists}
use Rattle.pattern_scope.specs.Scope.{scope_of}
use Rattle.typed_expr.specs.Typed.{Gives, all_literals, faults_of, first_fault, query_of, typed, typed_by}

some_stays : (f : TypeFault) (faults : List TypeFault) → (e : TypeFault) × (fold earlier_of (Some f) faults ≡ Some e)
some_stays f [] = (f, refl)
some_stays f (g ∷ faults) = some_stays (earlier f g) faults

-- where no fault is the first, there is none
pub no_faults : (faults : List TypeFault) → first_of faults ≡ None → faults ≡ []
no_faults [] none = refl
no_faults (f ∷ faults) none = let found = some_stays f faults in absurd (let both : ◌≡◌ {A = Option TypeFault} (Some found.0) None = sym found.1 ∙ none in cc)

gives-fault : (old : List (List ℕ)) (e : TypeFault) (wanted : Result (Query × List (List ℕ)) TypeFault) → wanted ≡ Err e → Gives old old (Err e) wanted
gives-fault old (fault.UnknownName at) wanted is = (is, refl)
gives-fault old (fault.UnknownProperty at) wanted is = (is, refl)
gives-fault old (fault.KindMismatch at) wanted is = (is, refl)
gives-fault old (fault.DoubleName at) wanted is = (is, refl)
gives-fault old (fault.TooManyVariables at) wanted is = (is, refl)
gives-fault old (fault.Disconnected at) wanted is = (is, refl)
gives-fault old (fault.VariableKind at) wanted is = (is, refl)
gives-fault old (fault.KeyNotSelected at) wanted is = (is, refl)
gives-fault old (fault.BadDate at) wanted is = (is, refl)
gives-fault old fault.NoMemory wanted is = take_all (length old) old (omega arith)

-- where there is a first fault, that is the answer
pub gives-first : (schema : SchemaLists) (texts : List (List ℕ)) (ast : Ast) (scope : Scope) (first : Option TypeFault) (e : TypeFault) → first ≡ first_fault schema ast scope → first ≡ Some e
    → Gives texts texts (Err e) (typed_by schema texts ast scope (first_fault schema ast scope))
gives-first schema texts ast scope first e is some =
    gives-fault texts e (typed_by schema texts ast scope (first_fault schema ast scope)) (ap (typed_by schema texts ast scope) (sym is ∙ some))

-- and what a call answered whose patterns were read before
pub typed-in : (schema : SchemaLists) (old new : List (List ℕ)) (ast : Ast) (scope : Scope) (answer : Result Query TypeFault) → scope ≡ scope_of ast.paths
    → Gives old new answer (typed_by schema old ast scope (first_fault schema ast scope)) → Gives old new answer (typed schema old ast)
unfolding typed
typed-in schema old new ast scope answer declared gives = subst (λ s. Gives old new answer (typed_by schema old ast s (first_fault schema ast s))) declared gives

-- a tree with other paths
abbrev pathless : Ast → List Path → Ast
pathless ast paths = record { distinct = ast.distinct; items = ast.items; paths = paths; condition = ast.condition; keys = ast.keys; limit = ast.limit }

-- what is answered where the patterns are known depends on them no more
same-typed : (schema : SchemaLists) (texts : List (List ℕ)) (ast : Ast) (paths : List Path) (scope : Scope) (first : Option TypeFault) → typed_by schema texts (pathless ast paths) scope first ≡ typed_by schema texts ast scope first
same-typed schema texts ast paths scope None = refl
same-typed schema texts ast paths scope (Some e) = refl

-- so they may be gone by then
pub typed-pathless : (schema : SchemaLists) (old new : List (List ℕ)) (ast : Ast) (paths : List Path) (scope : Scope) (answer : Result Query TypeFault) → scope ≡ scope_of ast.paths
    → Gives old new answer (typed_by schema old (pathless ast paths) scope (first_fault schema (pathless ast paths) scope)) → Gives old new answer (typed schema old ast)
typed-pathless schema old new ast paths scope answer declared gives =
    typed-in schema old new ast scope answer declared (subst (Gives old new answer) (same-typed schema old ast paths scope (first_fault schema ast scope)) gives)

-- A query that was given is that of a tree without faults, over the texts that were left.
pub given : (schema : SchemaLists) (old new : List (List ℕ)) (ast : Ast) (scope : Scope) (query : Query) → typed_by schema old ast scope (first_fault schema ast scope) ≡ Ok (query, new)
    → (faults_of schema ast scope ≡ []) × (new ≡ fold with_text old (all_literals ast)) × (query ≡ query_of schema ast scope new)
given schema old new ast scope query is = by_first (first_fault schema ast scope) refl is
  where
    by_first : (first : Option TypeFault) → first_fault schema ast scope ≡ first → typed_by schema old ast scope first ≡ Ok (query, new)
        → (faults_of schema ast scope ≡ []) × (new ≡ fold with_text old (all_literals ast)) × (query ≡ query_of schema ast scope new)
    by_first (Some e) told is = absurd cc
    by_first None none is =
        let both : ◌≡◌ {A = Query × List (List ℕ)} (query_of schema ast scope (fold with_text old (all_literals ast)), fold with_text old (all_literals ast)) (query, new) = cc in
        let texts : new ≡ fold with_text old (all_literals ast) = sym (ap (λ p. p.1) both) in
        (no_faults (faults_of schema ast scope) none, texts, sym (ap (λ p. p.0) both) ∙ ap (query_of schema ast scope) (sym texts))
