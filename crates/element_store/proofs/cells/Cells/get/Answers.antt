use Rattle.std.proofs.Common.{◌≢◌, ◌∙◌, sym, ap, arith, rules, true, false, Some, ℕ}
use Rattle.std.proofs.lemmas.List.{get_or_read}
use Rattle.element_store.proofs.CellFacts.{length-words_where, unmarked_there, words_where-get}
use Rattle.element_store.proofs.cells.Cells.get.Goals as goal

pub index-word-requires : goal.index-word-requires
index-word-requires c =
    let size = length-words_where c.self.inside.present c.self.inside.words.items c.self.invariant.a_flag_each in
    let less = rw (← c.self.view_is) at c.requires in
    omega (arith, size, less, c.self.inside.words.ok.0)

pub get-requires : goal.get-requires
get-requires c =
    let size = length-words_where c.self.inside.present c.self.inside.words.items c.self.invariant.a_flag_each in
    let less = rw (← c.self.view_is) at c.requires in
    omega (arith, size, less, c.self.invariant.a_flag_each)

pub returns-then-word : goal.returns-then-word
returns-then-word c =
    let size = length-words_where c.self.inside.present c.self.inside.words.items c.self.invariant.a_flag_each in
    let less = rw (← c.self.view_is, size) at c.requires in
    let read = get_or_read c.self.inside.words.items c.args.place _ (omega (arith, c.self.inside.words.ok.0, less)) c.index-word.ensures 0 in
    let other : c.index-word.result.now ≢ 18446744071562067968 = search rules in
    rw (← c.self.view_is, read)
    (unmarked_there c.self.inside.present c.self.inside.words.items c.args.place c.self.invariant.a_flag_each c.self.invariant.marked less (rw read at other))

pub returns-then-get : goal.returns-then-get
returns-then-get c =
    let size = length-words_where c.self.inside.present c.self.inside.words.items c.self.invariant.a_flag_each in
    let less = rw (← c.self.view_is, size) at c.requires in
    let here = words_where-get c.self.inside.present c.self.inside.words.items c.args.place true c.self.invariant.a_flag_each (search rules) in
    rw (← c.self.view_is) (here ∙ ap (λ (w : ℕ). Some (Some w)) (sym (get_or_read c.self.inside.words.items c.args.place _ (omega (arith, c.self.inside.words.ok.0, less)) c.index-word.ensures 0)))

pub returns-else-get : goal.returns-else-get
returns-else-get c =
    let here = words_where-get c.self.inside.present c.self.inside.words.items c.args.place false c.self.invariant.a_flag_each (search rules) in
    rw (← c.self.view_is) here
