-- What is kept of what the words said, where only their form is looked at.
use Rattle.std.specs.Prelude.{ℕ, Option, Some, None, Result, Ok, Err}
use Rattle.cli_words.specs.Defaults.{options_at_first}
use Rattle.cli_words.specs.Said.{Said}
use Rattle.cli_words.specs.declared.command.Command.TheVariants.{Help}
use Rattle.cli_words.specs.declared.options.Options.{Options}

-- Options that say how many vertices there are, and nothing else: the most edges are 8 for each vertex, and on no other value does
-- it depend which words go on.
abbrev pub only_vertices : ℕ → Options
only_vertices vertices = record (options_at_first Help) { vertices = vertices }

-- what the words so far said, without the values
abbrev pub form_only : Said → Said
form_only said = record said { options = only_vertices said.options.vertices }

-- the place of the refused word, if one is
abbrev pub place_refused : Result Options ℕ → Option ℕ
place_refused (Ok options) = None
place_refused (Err place) = Some place
