-- What a query means, or the first reason why it means nothing.
use Rattle.std.specs.Prelude.{◌≡◌, ℕ, ◌+◌, ◌==◌, ◌&&◌, Bool, false, not, if◌then◌else◌, List, [], ◌∷◌, ◌++◌, map, filter, find, flat_map, fold, Option, Some, None, Result, Ok, Err}
use Rattle.std.specs.List.{list_any}
use Rattle.std.specs.Option.{option_and_then, option_map}
use Rattle.std.specs.Str.{bytes_eq}
use Rattle.adfs_base.specs.declared.value.Kind.TheVariants as kind
use Rattle.pgql_tree.specs.declared.ast.Ast.{Ast}
use Rattle.pgql_tree.specs.declared.ast.Item.{Item}
use Rattle.pgql_tree.specs.declared.ast.Key.{Key}
use Rattle.pgql_tree.specs.declared.ast.Placed.{Placed}
use Rattle.pgql_tree.specs.declared.ast.AstExpr.{AstExpr}
use Rattle.pgql_tree.specs.declared.ast.AstExpr.TheOpen.{AstExpr-F}
use Rattle.pgql_tree.specs.declared.ast.AstExpr.TheFolds.{fold-AstExpr}
use Rattle.pgql_tree.specs.Literals.{query_literals}
use Rattle.value_text.specs.Texts.{Kept, with_text}
use Rattle.typed_query.specs.declared.expr.Expr.{Expr}
use Rattle.pattern_scope.specs.declared.fault.TypeFault.{TypeFault}
use Rattle.pattern_scope.specs.declared.fault.TypeFault.TheVariants as fault
use Rattle.typed_query.specs.declared.query.Capture.{Capture}
use Rattle.typed_query.specs.declared.query.Query.{Query}
use Rattle.typed_query.specs.declared.query.Variable.{Variable}
use Rattle.pattern_scope.specs.declared.scope.Declared.{Declared}
use Rattle.pattern_scope.specs.declared.scope.Scope.{Scope}
use Rattle.typed_expr.specs.Faults.{first_of}
use Rattle.pattern_scope.specs.Joined.{disconnected}
use Rattle.typed_expr.specs.Kinds.{Verdict, checked, one_part}
use Rattle.typed_expr.specs.Meaning.{conjuncts, meant}
use Rattle.typed_expr.specs.Printed.{printed}
use Rattle.graph_tables.specs.Properties.{SchemaLists}
use Rattle.typed_expr.specs.Same.{same}
use Rattle.pattern_scope.specs.Scope.{scope_of}
use Rattle.typed_expr.specs.Uses.{uses, with_use}

abbrev pub alone_of : AstExpr-F (Option (List ℕ)) → Option (List ℕ)
alone_of (AstExpr-F.Name at name) = Some name
alone_of other = None

-- the name that an expression is, where it is a name alone
unfoldable pub alone : AstExpr → Option (List ℕ)
alone = fold-AstExpr (Option (List ℕ)) alone_of

abbrev pub is_called_so : List ℕ → Option Placed → Bool
is_called_so name None = false
is_called_so name (Some own) = bytes_eq own.name name

-- the item has this AS name
abbrev pub is_called : List ℕ → Item → Bool
is_called name item = is_called_so name item.name

-- an item as that for which its AS name stands
abbrev pub as_declared : Item → Declared
as_declared item = record { name = option_map (λ own. own.name) item.name; edge = false }

-- the item that an order key stands for, where it is an AS name alone
abbrev pub item_of : List Item → AstExpr → Option Item
item_of items expr = option_and_then (λ name. find (is_called name) items) (alone expr)

abbrev pub faults_in : Verdict → List TypeFault
faults_in (Ok kind) = []
faults_in (Err e) = e ∷ []

-- an AS name that an earlier item has
abbrev pub double_name : List Item → Option Placed → List TypeFault
double_name earlier None = []
double_name earlier (Some placed) = if list_any (is_called placed.name) earlier then fault.DoubleName placed.at ∷ [] else []

-- those of the items that come after the earlier ones
abbrev pub double_names : List Item → List Item → List TypeFault
double_names earlier [] = []
double_names earlier (item ∷ items) = double_name earlier item.name ++ double_names (earlier ++ item ∷ []) items

abbrev pub condition_faults : SchemaLists → List Declared → Option AstExpr → List TypeFault
condition_faults schema variables None = []
condition_faults schema variables (Some condition) = faults_in (one_part kind.Bool (checked schema variables condition))

-- the distinct texts that are written of the items
abbrev pub written : List Item → List (List ℕ)
written items = fold with_text [] (map (λ item. printed item.expr) items)

-- with DISTINCT an order key has the expression of a select item
abbrev pub not_selected : Bool → List Item → Key → List TypeFault
not_selected distinct items key =
    if distinct && not (list_any (λ item. same key.expr item.expr) items) then fault.KeyNotSelected key.at ∷ [] else []

abbrev pub key_faults_by : SchemaLists → List Declared → Bool → List Item → Key → Option Item → List TypeFault
key_faults_by schema variables distinct items key (Some item) = []
key_faults_by schema variables distinct items key None = faults_in (checked schema variables key.expr).kind ++ not_selected distinct items key

abbrev pub key_faults : SchemaLists → List Declared → Bool → List Item → Key → List TypeFault
key_faults schema variables distinct items key = key_faults_by schema variables distinct items key (item_of items key.expr)

-- the faults of the expressions, the AS names and the order keys
abbrev pub expression_faults : SchemaLists → List Declared → Ast → List TypeFault
expression_faults schema variables ast =
    flat_map (λ item. faults_in (checked schema variables item.expr).kind) ast.items
    ++ double_names [] ast.items
    ++ condition_faults schema variables ast.condition
    ++ flat_map (key_faults schema variables ast.distinct ast.items) ast.keys

-- all faults of a query whose patterns declare this
abbrev pub faults_of : SchemaLists → Ast → Scope → List TypeFault
faults_of schema ast scope =
    scope.faults ++ disconnected scope.links scope.vertices ++ expression_faults schema scope.variables ast

abbrev pub of_condition : {X : Type 0} → (AstExpr → List X) → Option AstExpr → List X
of_condition f None = []
of_condition f (Some condition) = f condition

-- what the expressions of a query have, in the order of the text
abbrev pub of_all : {X : Type 0} → (AstExpr → List X) → Ast → List X
of_all f ast = flat_map (λ item. f item.expr) ast.items ++ (of_condition f ast.condition ++ flat_map (λ key. f key.expr) ast.keys)

-- the texts of its text literals
abbrev pub all_literals : Ast → List (List ℕ)
all_literals ast = query_literals ast

-- its uses of variables, each once
abbrev pub captures_of : SchemaLists → List Declared → Ast → List Capture
captures_of schema variables ast = fold with_use [] (of_all (uses schema variables) ast)

-- the label lists of a variable
abbrev pub labels_of : ℕ → List (ℕ × List (List ℕ)) → List (List (List ℕ))
labels_of number labels = map (λ list. list.1) (filter (λ list. list.0 == number) labels)

-- the variables, counted from a number, with their label lists
abbrev pub variables_from : ℕ → List (ℕ × List (List ℕ)) → List Declared → List Variable
variables_from number labels [] = []
variables_from number labels (variable ∷ variables) =
    record { name = variable.name; edge = variable.edge; labels = labels_of number labels } ∷ variables_from (number + 1) labels variables

abbrev pub column_by : AstExpr → Option Placed → List ℕ
column_by expr None = printed expr
column_by expr (Some placed) = placed.name

-- the name of an item's column
abbrev pub column_of : Item → List ℕ
column_of item = column_by item.expr item.name

abbrev pub expr_by : AstExpr → Option Item → AstExpr
expr_by expr None = expr
expr_by expr (Some item) = item.expr

-- the expression that an order key stands for
abbrev pub key_expr : List Item → AstExpr → AstExpr
key_expr items expr = expr_by expr (item_of items expr)

abbrev pub conjuncts_of : (AstExpr → Expr) → Option AstExpr → List Expr
conjuncts_of means None = []
conjuncts_of means (Some condition) = conjuncts (means condition)

-- the columns: what each item means, and its name
abbrev pub select_of : (AstExpr → Expr) → List Item → List (Expr × List ℕ)
select_of means items = map (λ item. (means item.expr, column_of item)) items

-- the order keys, each with whether it goes down
abbrev pub keys_of : (AstExpr → Expr) → List Item → List Key → List (Expr × Bool)
keys_of means items keys = map (λ key. (means (key_expr items key.expr), key.down)) keys

-- the query, where an expression means this
abbrev pub query_by : Ast → Scope → List Capture → (AstExpr → Expr) → Query
query_by ast scope captures means = record {
  variables = variables_from 0 scope.labels scope.variables;
  edges = scope.edges;
  captures = captures;
  conjuncts = conjuncts_of means ast.condition;
  select = select_of means ast.items;
  keys = keys_of means ast.items ast.keys;
  distinct = ast.distinct;
  limit = ast.limit;
}

-- the query that the tree means where it has no fault, over texts that have those of its literals
abbrev pub query_of : SchemaLists → Ast → Scope → List (List ℕ) → Query
query_of schema ast scope texts =
    let captures = captures_of schema scope.variables ast in
    query_by ast scope captures (meant schema scope.variables captures texts)

abbrev pub typed_by : SchemaLists → List (List ℕ) → Ast → Scope → Option TypeFault → Result (Query × List (List ℕ)) TypeFault
typed_by schema texts ast scope (Some e) = Err e
typed_by schema texts ast scope None = let all = fold with_text texts (all_literals ast) in Ok (query_of schema ast scope all, all)

-- the first fault of a query whose patterns declare this
abbrev pub first_fault : SchemaLists → Ast → Scope → Option TypeFault
first_fault schema ast scope = first_of (faults_of schema ast scope)

-- the query and the texts with those of its literals, or its first fault
unfoldable pub typed : SchemaLists → List (List ℕ) → Ast → Result (Query × List (List ℕ)) TypeFault
typed schema texts ast = let scope = scope_of ast.paths in typed_by schema texts ast scope (first_fault schema ast scope)

-- The call returned what the tree means, and left the texts so. For running out of memory further texts may be there, and
-- at a fault none are.
abbrev pub Gives : List (List ℕ) → List (List ℕ) → Result Query TypeFault → Result (Query × List (List ℕ)) TypeFault → Type 0
Gives old new (Ok query) wanted = wanted ≡ Ok (query, new)
Gives old new (Err fault.NoMemory) wanted = Kept old new
Gives old new (Err e) wanted = (wanted ≡ Err e) × (new ≡ old)
