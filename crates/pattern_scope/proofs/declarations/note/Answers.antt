use Rattle.std.proofs.Common.{◌∙◌, sym, subst, ◌++◌, ◌∷◌, []}
use Rattle.pattern_scope.specs.Names.{IsIndexed}
use Rattle.pattern_scope.proofs.Named.{found_within, indexed-again, indexed-nameless, indexed-new, with_text-new}
use Rattle.pattern_scope.proofs.declarations.note.Goals as goal

pub returns-in_default : goal.returns-in_default
returns-in_default c = λ variables counted indexed.
    subst (λ n. IsIndexed (variables ++ record { name = n; edge = c.args.edge } ∷ []) c.args.names.now c.args.first.now) (sym c.in_default.is)
    (indexed-nameless variables c.args.names.now c.args.first.now indexed c.args.edge)

pub returns-then-is_some : goal.returns-then-is_some
returns-then-is_some c = λ variables counted indexed.
    let own = rw (c.as_bytes-text.ensures.value, c.text.ensures, c.get.ensures) at c.find.ensures.place in
    let here = found_within _ c.args.names.now c.find.result own (sym c.is_some.ensures ∙ c.if-is_some.true) in
    subst (λ n. IsIndexed (variables ++ record { name = n; edge = c.args.edge } ∷ []) c.args.names.now c.args.first.now) (sym c.in-Some.is)
    (indexed-again variables c.args.names.now c.args.first.now indexed c.in-Some.name c.args.edge here)

pub returns : goal.returns
returns c = λ variables counted indexed.
    let own = rw (c.as_bytes-text.ensures.value, c.text.ensures, c.get.ensures) at c.find.ensures.place in
    let added = with_text-new c.args.names.now c.in-Some.name c.find.result own (sym c.is_some.ensures ∙ c.if-is_some.false) in
    let texts = rw (c.as_bytes-text.ensures.value, c.text.ensures, c.get.ensures) at c.in_ok-add.ensures.texts in
    subst (λ n. IsIndexed (variables ++ record { name = n; edge = c.args.edge } ∷ []) c.add.new.self c.push.new.self) (sym c.in-Some.is)
    (rw (texts ∙ added, c.in_ok-push.ensures.ok) (indexed-new variables c.args.names.now c.args.first.now indexed c.in-Some.name c.args.number c.args.edge counted))
