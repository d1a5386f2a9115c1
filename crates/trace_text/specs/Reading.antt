-- What a line says: its first word is a kind, and what follows are the numbers of that kind.
use Rattle.std.specs.Prelude.{ℕ, if◌then◌else◌, List, Option, None}
use Rattle.std.specs.List.{after_first, before_first}
use Rattle.std.specs.Option.{option_map, option_and_then}
use Rattle.dfs_worker.specs.declared.event.Event.{Event}
use Rattle.dfs_worker.specs.declared.event.Event.TheVariants.{Claim, Retire, Advance, Descend, Append, Charge, Fetch, Post, Push, Pop, Pick, Restore, Discharge, Mark, Close}
use Rattle.trace_text.specs.declared.kind.Kind.{Kind}
use Rattle.trace_text.specs.declared.kind.Kind.TheVariants as kind
use Rattle.trace_text.specs.Kinds.{kind_named}
use Rattle.text_lines.specs.Words.{has_space, is_space}
use Rattle.trace_text.specs.Numbers.{number_of, pair_of, triple_of}

abbrev pub event_said : Kind → List ℕ → Option Event
event_said kind.Claim text = option_map (λ w. Claim w) (number_of text)
event_said kind.Retire text = option_map (λ w. Retire w) (number_of text)
event_said kind.Advance text = option_map (λ w. Advance w) (number_of text)
event_said kind.Descend text = option_map (λ w. Descend w) (number_of text)
event_said kind.Append text = option_map (λ w. Append w) (number_of text)
event_said kind.Charge text = option_map (λ w. Charge w) (number_of text)
event_said kind.Fetch text = option_map (λ w. Fetch w) (number_of text)
event_said kind.Post text = option_map (λ n. Post n.0 n.1 n.2) (triple_of text)
event_said kind.Push text = option_map (λ w. Push w) (number_of text)
event_said kind.Pop text = option_map (λ n. Pop n.0 n.1) (pair_of text)
event_said kind.Pick text = option_map (λ w. Pick w) (number_of text)
event_said kind.Restore text = option_map (λ w. Restore w) (number_of text)
event_said kind.Discharge text = option_map (λ w. Discharge w) (number_of text)
event_said kind.Mark text = option_map (λ n. Mark n.0 n.1 n.2) (triple_of text)
event_said kind.Close text = option_map (λ w. Close w) (number_of text)

abbrev pub event_of : List ℕ → Option Event
event_of line =
    if has_space line then option_and_then (λ kind. event_said kind (after_first is_space line)) (kind_named (before_first is_space line)) else None
