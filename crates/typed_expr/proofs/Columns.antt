-- What the AS names of items stand for.
use Rattle.std.proofs.Common.{◌≡◌, ◌∙◌, refl, sym, ap, ℕ, ◌+◌, Bool, true, false, List, [], ◌∷◌, ◌++◌, length, map, append_assoc, Option, Some, None}
use Rattle.std.specs.Prelude.{find, is_some}
use Rattle.std.specs.List.{list_any, slice_get}
use Rattle.std.specs.Option.{option_map}
use Rattle.std.proofs.lemmas.List.{length-append}
use Rattle.pgql_tree.specs.declared.ast.Item.{Item}
use Rattle.pgql_tree.specs.declared.ast.Placed.{Placed}
use Rattle.pattern_scope.specs.declared.fault.TypeFault.TheVariants as fault
use Rattle.pattern_scope.specs.Names.{is_name, variable_from, variable_of}
use Rattle.typed_expr.specs.Typed.{as_declared, double_name, is_called, is_called_so}

same_test : (name : List ℕ) (own : Option Placed) → is_name name (option_map (λ p. p.name) own) ≡ is_called_so name own
same_test name None = refl
same_test name (Some own) = refl

-- the item of a place that was found
abbrev pub item_in : List Item → Option (ℕ × Bool) → Option Item
item_in items None = None
item_in items (Some found) = slice_get items found.0

at_seam : (before rest : List Item) (item : Item) → slice_get (before ++ item ∷ rest) (length before) ≡ Some item
at_seam [] rest item = refl
at_seam (x ∷ before) rest item = at_seam before rest item

found_item : (before rest : List Item) (name : List ℕ) → find (is_called name) rest ≡ item_in (before ++ rest) (variable_from (length before) (map as_declared rest) name)
found_item before [] name = refl
found_item before (item ∷ rest) name = by_test (is_name name (as_declared item).name) refl (found_item (before ++ item ∷ []) rest name)
  where
    by_test : (t : Bool) → is_name name (as_declared item).name ≡ t
        → find (is_called name) rest ≡ item_in ((before ++ item ∷ []) ++ rest) (variable_from (length (before ++ item ∷ [])) (map as_declared rest) name)
        → find (is_called name) (item ∷ rest) ≡ item_in (before ++ item ∷ rest) (variable_from (length before) (map as_declared (item ∷ rest)) name)
    by_test true is more = rw (sym (same_test name item.name) ∙ is, is) (sym (at_seam before rest item))
    by_test false is more =
        rw (sym (same_test name item.name) ∙ is, is)
        (more ∙ ap (λ items. item_in items (variable_from (length (before ++ item ∷ [])) (map as_declared rest) name)) (append_assoc before (item ∷ []) rest)
        ∙ ap (λ n. item_in (before ++ item ∷ rest) (variable_from n (map as_declared rest) name)) (length-append before (item ∷ [])))

-- the item that a name stands for
pub find_item : (items : List Item) (name : List ℕ) → find (is_called name) items ≡ item_in items (variable_of (map as_declared items) name)
find_item items name = found_item [] items name

taken_from : (n : ℕ) (items : List Item) (name : List ℕ) → is_some (variable_from n (map as_declared items) name) ≡ list_any (is_called name) items
taken_from n [] name = refl
taken_from n (item ∷ items) name = by_test (is_name name (as_declared item).name) refl (taken_from (n + 1) items name)
  where
    by_test : (t : Bool) → is_name name (as_declared item).name ≡ t → is_some (variable_from (n + 1) (map as_declared items) name) ≡ list_any (is_called name) items
        → is_some (variable_from n (map as_declared (item ∷ items)) name) ≡ list_any (is_called name) (item ∷ items)
    by_test true is more = rw (sym (same_test name item.name) ∙ is, is) refl
    by_test false is more = rw (sym (same_test name item.name) ∙ is, is) more

-- an AS name that an earlier item has, and one that none has
pub double-told : (items : List Item) (placed : Placed) (found : Option (ℕ × Bool)) → found ≡ variable_of (map as_declared items) placed.name → is_some found ≡ true
    → double_name items (Some placed) ≡ fault.DoubleName placed.at ∷ []
double-told items placed found is some = rw (sym (taken_from 0 items placed.name) ∙ sym (ap is_some is) ∙ some) refl

pub single-told : (items : List Item) (placed : Placed) (found : Option (ℕ × Bool)) → found ≡ variable_of (map as_declared items) placed.name → is_some found ≡ false → double_name items (Some placed) ≡ []
single-told items placed found is none = rw (sym (taken_from 0 items placed.name) ∙ sym (ap is_some is) ∙ none) refl
