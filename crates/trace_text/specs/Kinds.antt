-- The kinds of events, and the words with which their lines begin.
use Rattle.std.specs.Prelude.{ℕ, List, [], ◌∷◌, codes, Option, bytes_eq}
use Rattle.std.specs.List.{find}
use Rattle.trace_text.specs.declared.kind.Kind.{Kind}
use Rattle.trace_text.specs.declared.kind.Kind.TheVariants as kind

abbrev pub word_of : Kind → List ℕ
word_of kind.Claim = codes "claim"
word_of kind.Retire = codes "retire"
word_of kind.Advance = codes "advance"
word_of kind.Descend = codes "descend"
word_of kind.Append = codes "append"
word_of kind.Charge = codes "charge"
word_of kind.Fetch = codes "fetch"
word_of kind.Post = codes "post"
word_of kind.Push = codes "push"
word_of kind.Pop = codes "pop"
word_of kind.Pick = codes "pick"
word_of kind.Restore = codes "restore"
word_of kind.Discharge = codes "discharge"
word_of kind.Mark = codes "mark"
word_of kind.Close = codes "close"

abbrev pub kinds : List Kind
kinds =
    kind.Advance ∷ kind.Descend ∷ kind.Append ∷ kind.Charge ∷ kind.Fetch ∷ kind.Post ∷ kind.Push ∷ kind.Pop ∷ kind.Pick ∷ kind.Restore
    ∷ kind.Discharge ∷ kind.Claim ∷ kind.Mark ∷ kind.Retire ∷ kind.Close ∷ []

abbrev pub kind_named : List ℕ → Option Kind
kind_named word = find (λ kind. bytes_eq (word_of kind) word) kinds
