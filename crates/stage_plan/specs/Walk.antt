-- What is known on the way through a pattern: the captures that are written, and the parts of the condition that can be
-- tested.
use Rattle.std.specs.Prelude.{ℕ, ◌+◌, ◌==◌, not, Bool, true, false, List, [], ◌∷◌, length, filter, flat_map, replicate, slice_get, slice_index_or, slice_set, Option, Some, None, if◌then◌else◌}
use Rattle.std.specs.List.{list_all, range_with_len}
use Rattle.adfs_base.specs.declared.value.Value.TheVariants as value
use Rattle.typed_expr.specs.Parts.{captures}
use Rattle.typed_expr.specs.declared.expr.Expr.{Expr}
use Rattle.typed_expr.specs.declared.expr.Expr.TheVariants as expr
use Rattle.typed_expr.specs.declared.query.Capture.{Capture}
use Rattle.typed_expr.specs.declared.query.Query.{Query}
use Rattle.stage_plan.specs.declared.hop.Hop.{Hop}
use Rattle.stage_plan.specs.declared.hop.Hop.TheVariants as hop
use Rattle.stage_plan.specs.declared.stage.Gains.{Gains}
use Rattle.stage_plan.specs.declared.stage.Stage.{Stage}

-- of which variables the captures are known, at which vertex one stands, the variable of a vertex on which one arrives, and
-- the conjuncts that wait for a capture, by number
pub record Walk : Type 0 where
  pub known : List Bool
  pub current : ℕ
  pub arriving : Option ℕ
  pub waiting : List ℕ

-- a capture that isn't there waits for nothing
abbrev pub is_known : List Bool → Option Capture → Bool
is_known known None = true
is_known known (Some capture) = slice_index_or known capture.variable false

-- each capture that the expression uses is known
abbrev pub is_ready : List Capture → List Bool → Expr → Bool
is_ready all known tested = list_all (λ place. is_known known (slice_get all place)) (captures tested)

abbrev pub no_conjunct : Expr
no_conjunct = expr.Constant value.Null

-- the conjunct of this number
abbrev pub conjunct_at : Query → ℕ → Expr
conjunct_at query number = slice_index_or query.conjuncts number no_conjunct

abbrev pub is_whole : Query → List Bool → ℕ → Bool
is_whole query known number = is_ready query.captures known (conjunct_at query number)

-- those of the conjuncts that can be tested, and the others
abbrev pub whole : Query → List Bool → List ℕ → List ℕ
whole query known waiting = filter (is_whole query known) waiting

abbrev pub still_waiting : Query → List Bool → List ℕ → List ℕ
still_waiting query known waiting = filter (λ number. not (is_whole query known number)) waiting

-- the places of the captures that conjuncts use
abbrev pub uses : Query → List ℕ → List ℕ
uses query numbers = flat_map (λ number. captures (conjunct_at query number)) numbers

-- the places of a variable's captures among these, which are counted from n
abbrev pub places_from : ℕ → ℕ → List Capture → List ℕ
places_from n variable [] = []
places_from n variable (capture ∷ others) =
    if capture.variable == variable then n ∷ places_from (n + 1) variable others else places_from (n + 1) variable others

abbrev pub captures_of : Query → ℕ → List ℕ
captures_of query variable = places_from 0 variable query.captures

abbrev pub learned : Option ℕ → List Bool → List Bool
learned None known = known
learned (Some variable) known = slice_set known variable true

abbrev pub captures_of_any : Query → Option ℕ → List ℕ
captures_of_any query None = []
captures_of_any query (Some variable) = captures_of query variable

abbrev pub gains_of : Query → List ℕ → List ℕ → Gains
gains_of query captured conjuncts = record { captures = captured; conjuncts = conjuncts; reads = uses query conjuncts }

-- what is gained where the captures of a variable, if there is one, become known
abbrev pub gains : Query → Walk → Option ℕ → Gains
gains query walk variable = gains_of query (captures_of_any query variable) (whole query (learned variable walk.known) walk.waiting)

-- the walk after that
abbrev pub with_gains : Query → Walk → Option ℕ → Walk
with_gains query walk variable = record {
  known = learned variable walk.known;
  current = walk.current;
  arriving = walk.arriving;
  waiting = still_waiting query (learned variable walk.known) walk.waiting;
}

-- once one has arrived
abbrev pub arrived : Query → Walk → Walk
arrived query walk = with_gains query walk walk.arriving

abbrev pub stands : Walk → ℕ → Option ℕ → Walk
stands walk current arriving = record { known = walk.known; current = current; arriving = arriving; waiting = walk.waiting }

-- the edge variable that a hop binds
abbrev pub edge_of : Hop → Option ℕ
edge_of (hop.Root variable) = None
edge_of (hop.Neighbour out edge to) = Some edge
edge_of (hop.Edge out edge to) = Some edge
edge_of (hop.Inspect variable) = None
edge_of hop.Output = None

-- where one stands after a hop
abbrev pub led_by : Hop → Walk → Walk
led_by (hop.Root variable) walk = stands walk variable (Some variable)
led_by (hop.Neighbour out edge to) walk = stands walk to (Some to)
led_by (hop.Edge out edge to) walk = stands walk to None
led_by (hop.Inspect variable) walk = stands walk variable None
led_by hop.Output walk = stands walk walk.current None

-- what is gained along a hop
abbrev pub passage : Query → Walk → Option ℕ → Gains
passage query walk None = gains_of query [] []
passage query walk (Some edge) = gains query walk (Some edge)

abbrev pub passed : Query → Walk → Option ℕ → Walk
passed query walk None = walk
passed query walk (Some edge) = with_gains query walk (Some edge)

abbrev pub walk_after : Query → Walk → Hop → Walk
walk_after query walk taken = led_by taken (passed query (arrived query walk) (edge_of taken))

-- at the root no capture is known, and each conjunct waits
abbrev pub rooted : Query → ℕ → Walk
rooted query variable = record {
  known = replicate (length query.variables) false;
  current = variable;
  arriving = Some variable;
  waiting = range_with_len 0 (length query.conjuncts);
}

-- the stage at which a hop is taken
abbrev pub stage_of : Query → Walk → Hop → Stage
stage_of query walk taken = record {
  arriving = walk.arriving;
  arrival = gains query walk walk.arriving;
  hop = taken;
  current = walk.current;
  passage = passage query (arrived query walk) (edge_of taken);
}

abbrev pub stages_from : Query → Walk → List Hop → List Stage
stages_from query walk [] = []
stages_from query walk (taken ∷ hops) = stage_of query walk taken ∷ stages_from query (walk_after query walk taken) hops

-- the stages of hops that begin at a root
abbrev pub stages_of : Query → List Hop → List Stage
stages_of query [] = []
stages_of query (hop.Root variable ∷ hops) = stages_from query (rooted query variable) hops
stages_of query (taken ∷ hops) = []
