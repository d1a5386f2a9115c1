-- Why a query isn't answered, by number and place.
use Rattle.pgql_lexer.specs.declared.token.LexFault.{LexFault}
use Rattle.pgql_lexer.specs.declared.token.LexFault.TheVariants as lex
use Rattle.pgql_syntax.specs.declared.tree.SyntaxFault.{SyntaxFault}
use Rattle.pgql_syntax.specs.declared.tree.SyntaxFault.TheVariants as syntax
use Rattle.result_collect.specs.declared.refusal.Refusal.{Refusal}
use Rattle.result_collect.specs.declared.refusal.Refusal.TheVariants.{At, TooWide}
use Rattle.stage_plan.specs.declared.fault.PlanFault.{PlanFault}
use Rattle.stage_plan.specs.declared.fault.PlanFault.TheVariants as planning
use Rattle.typed_expr.specs.declared.fault.TypeFault.{TypeFault}
use Rattle.typed_expr.specs.declared.fault.TypeFault.TheVariants as typing

-- running out of memory is no refusal, and has no number
abbrev pub refusal_of_lex : LexFault → Refusal
refusal_of_lex (lex.BadCharacter at) = At 10 at
refusal_of_lex (lex.OpenText at) = At 11 at
refusal_of_lex (lex.OpenComment at) = At 12 at
refusal_of_lex (lex.WideNumber at) = At 13 at
refusal_of_lex lex.NoMemory = At 0 0

abbrev pub refusal_of_syntax : SyntaxFault → Refusal
refusal_of_syntax (syntax.Lex e) = refusal_of_lex e
refusal_of_syntax (syntax.Unexpected at) = At 14 at
refusal_of_syntax (syntax.Deep at) = At 15 at
refusal_of_syntax syntax.NoMemory = At 0 0

abbrev pub refusal_of_typing : TypeFault → Refusal
refusal_of_typing (typing.UnknownName at) = At 40 at
refusal_of_typing (typing.UnknownProperty at) = At 41 at
refusal_of_typing (typing.KindMismatch at) = At 42 at
refusal_of_typing (typing.DoubleName at) = At 43 at
refusal_of_typing (typing.TooManyVariables at) = At 44 at
refusal_of_typing (typing.Disconnected at) = At 45 at
refusal_of_typing (typing.VariableKind at) = At 46 at
refusal_of_typing (typing.KeyNotSelected at) = At 48 at
refusal_of_typing (typing.BadDate at) = At 49 at
refusal_of_typing typing.NoMemory = At 0 0

abbrev pub refusal_of_planning : PlanFault → Refusal
refusal_of_planning (planning.TooWide words) = TooWide words
refusal_of_planning planning.NoMemory = At 0 0
