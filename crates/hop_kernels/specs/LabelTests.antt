-- Tests of labels by their numbers.
use Rattle.std.specs.Prelude.{◌≡◌, ℕ, ◌<◌, ◌==◌, Bool, true, false, List, slice_index_or}
use Rattle.value_text.specs.Texts.{text_at}
use Rattle.pgql_meaning.specs.Fits.{is_in_lists}
use Rattle.partition.specs.declared.link.Link.{Link}
use Rattle.typed_expr.specs.declared.query.Query.{Query}
use Rattle.plan_tree.specs.Answers.{labels_of}
use Rattle.hop_kernels.specs.declared.labels.LabelTest.{LabelTest}
use Rattle.hop_kernels.specs.declared.labels.LabelTest.TheVariants.{Any, Listed, Never, One}

-- the label of this number passes the test
abbrev pub fits : List (List ℕ) → List (List (List ℕ)) → LabelTest → ℕ → Bool
fits texts lists Any label = true
fits texts lists (One number) label = label == number
fits texts lists Never label = false
fits texts lists Listed label = is_in_lists (text_at texts label) lists

-- The test is passed by the labels that are in each of the lists.
abbrev pub IsTestFor : List (List ℕ) → List (List (List ℕ)) → LabelTest → Type 0
IsTestFor texts lists test = (label : ℕ) → fits texts lists test label ≡ is_in_lists (text_at texts label) lists

-- Each variable has its test.
abbrev pub AreTests : List (List ℕ) → Query → List LabelTest → Type 0
AreTests texts query tests = (variable : ℕ) → variable < 39 → IsTestFor texts (labels_of query variable) (slice_index_or tests variable Any)

-- the label of an entry is in each of the lists of a variable
abbrev pub is_labelled : List (List ℕ) → Query → ℕ → Link → Bool
is_labelled texts query variable link = is_in_lists (text_at texts link.label) (labels_of query variable)
