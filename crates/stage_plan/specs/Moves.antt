-- A plan as moves: each binds variables along the graph, or asks a test.
use Rattle.std.specs.Prelude.{◌≡◌, ℕ, ◌<◌, Bool, true, false, List, [], ◌∷◌, ◌++◌, length, map, replicate, slice_index_or, slice_set, Option, Some, None, if◌then◌else◌}
use Rattle.std.specs.List.{list_all}
use Rattle.match_context.specs.Bags.{SameBag}
use Rattle.pgql_meaning.specs.Fits.{Test, Labels, Joined, Holds, tests_of}
use Rattle.typed_expr.specs.WellFormed.{are_edges}
use Rattle.typed_expr.specs.declared.query.EdgeJoin.{EdgeJoin}
use Rattle.typed_expr.specs.declared.query.Query.{Query}
use Rattle.stage_plan.specs.Walk.{Walk, arrived, conjunct_at, is_ready, learned, rooted, walk_after, whole}
use Rattle.stage_plan.specs.declared.hop.Hop.{Hop}
use Rattle.stage_plan.specs.declared.hop.Hop.TheVariants as hop

pub data Move : Type 0 where
  -- binds a vertex variable to each vertex
  Start : ℕ → Move
  -- goes out or in from a vertex variable, and binds the edge and the vertex at its other end
  Go : Bool → ℕ → ℕ → ℕ → Move
  -- goes out or in from a vertex variable to a bound one, and binds the edge
  Close : Bool → ℕ → ℕ → ℕ → Move
  Ask : Test → Move

-- the edge that one goes along from a vertex to another
abbrev pub edge_along : Bool → ℕ → ℕ → ℕ → EdgeJoin
edge_along out from edge to = record { edge = edge; source = if out then from else to; target = if out then to else from }

-- the tests that moves put, in their order; that an edge runs between its ends is put by going along it
abbrev pub asked_by : List Move → List Test
asked_by [] = []
asked_by (Start variable ∷ moves) = asked_by moves
asked_by (Go out from edge to ∷ moves) = Joined (edge_along out from edge to) ∷ asked_by moves
asked_by (Close out from edge to ∷ moves) = Joined (edge_along out from edge to) ∷ asked_by moves
asked_by (Ask test ∷ moves) = test ∷ asked_by moves

abbrev pub is_edge : Query → ℕ → Bool
is_edge query variable = slice_index_or (are_edges query) variable false

abbrev pub IsBound : List Bool → ℕ → Type 0
IsBound bound variable = slice_index_or bound variable false ≡ true

-- There is such a variable, it is of that kind, and it isn't bound yet.
pub record IsFree (query : Query) (bound : List Bool) (edge : Bool) (variable : ℕ) : Type 0 where
  pub is_there : variable < length bound
  pub not_bound : slice_index_or bound variable true ≡ false
  pub kind : is_edge query variable ≡ edge

-- What the test speaks of is bound.
abbrev pub MayAsk : Query → List Bool → Test → Type 0
MayAsk query bound (Labels variable) = IsBound bound variable
MayAsk query bound (Joined edge) = IsBound bound edge.edge × (IsBound bound edge.source × IsBound bound edge.target)
MayAsk query bound (Holds conjunct) = is_ready query.captures bound conjunct ≡ true

-- A move finds bound what it goes from, and free what it binds.
abbrev pub MayMove : Query → List Bool → Move → Type 0
MayMove query bound (Start variable) = IsFree query bound false variable
MayMove query bound (Go out from edge to) = IsBound bound from × (IsFree query bound true edge × IsFree query (slice_set bound edge true) false to)
MayMove query bound (Close out from edge to) = IsBound bound from × (IsFree query bound true edge × IsBound bound to)
MayMove query bound (Ask test) = MayAsk query bound test

abbrev pub bound_after : Move → List Bool → List Bool
bound_after (Start variable) bound = slice_set bound variable true
bound_after (Go out from edge to) bound = slice_set (slice_set bound edge true) to true
bound_after (Close out from edge to) bound = slice_set bound edge true
bound_after (Ask test) bound = bound

-- Each move may be made in its turn, and at the end all variables are bound.
abbrev pub IsOrdered : Query → List Bool → List Move → Type 0
IsOrdered query bound [] = list_all (λ is_bound. is_bound) bound ≡ true
IsOrdered query bound (move ∷ moves) = MayMove query bound move × IsOrdered query (bound_after move bound) moves

-- The moves bind each variable once, and ask each test of the query once and no other.
pub record AskAll (query : Query) (moves : List Move) : Type 0 where
  pub in_order : IsOrdered query (replicate (length query.variables) false) moves
  pub each_once : SameBag (asked_by moves) (tests_of query)

-- what is asked about conjuncts
abbrev pub ask_conjuncts : Query → List ℕ → List Move → List Move
ask_conjuncts query conjuncts moves = map (λ number. Ask (Holds (conjunct_at query number))) conjuncts ++ moves

-- what is asked where a variable's captures, if there is one, become known: its label, and the conjuncts that can be tested
abbrev pub ask_about : Query → Walk → Option ℕ → List Move → List Move
ask_about query walk None moves = ask_conjuncts query (whole query walk.known walk.waiting) moves
ask_about query walk (Some variable) moves =
    Ask (Labels variable) ∷ ask_conjuncts query (whole query (learned (Some variable) walk.known) walk.waiting) moves

-- what a hop does once one has arrived: it goes along its edge, and asks about it
abbrev pub go_along : Query → Walk → Hop → List Move → List Move
go_along query walk (hop.Neighbour out edge to) moves = Go out walk.current edge to ∷ ask_about query walk (Some edge) moves
go_along query walk (hop.Edge out edge to) moves = Close out walk.current edge to ∷ ask_about query walk (Some edge) moves
go_along query walk taken moves = moves

abbrev pub moves_from : Query → Walk → List Hop → List Move
moves_from query walk [] = []
moves_from query walk (taken ∷ hops) =
    ask_about query walk walk.arriving (go_along query (arrived query walk) taken (moves_from query (walk_after query walk taken) hops))

-- the moves of hops that begin at a root
abbrev pub moves_of : Query → List Hop → List Move
moves_of query [] = []
moves_of query (hop.Root variable ∷ hops) = Start variable ∷ moves_from query (rooted query variable) hops
moves_of query (taken ∷ hops) = []
