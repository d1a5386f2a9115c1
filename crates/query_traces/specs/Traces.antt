-- The text of a trace, and what is told of one that is taken again.
use Rattle.std.specs.Prelude.{◌≡◌, ℕ, List, ◌++◌, codes, Result, Ok, Err}
use Rattle.std.specs.Fmt.{decimal}
use Rattle.adfs_base.specs.Shape.{Extents, contexts_of, need_of}
use Rattle.match_context.specs.Tree.{Tree}
use Rattle.run_trace.specs.declared.replaying.Replayed.{Replayed}
use Rattle.trace_text.specs.Headers.{header_lines, with_feeds}
use Rattle.trace_text.specs.declared.fault.ReplayFault.{ReplayFault}
use Rattle.trace_text.specs.declared.header.Header.{Header}
use Rattle.trace_writing.specs.Written.{IsRunText}
use Rattle.world_core.specs.World.{World, start_world}

-- The header's lines, then the text of a run of the tree from the start to its end, then the reply.
pub record IsTraceText (header : Header) (tree : Tree) (shape : Extents) (reply text : List ℕ) : Type 0 where
  pub run : List ℕ
  pub end : World
  pub is_run : IsRunText tree (start_world shape tree) run end
  pub text_is : text ≡ with_feeds (header_lines header) ++ (run ++ reply)

-- words, a number, and what follows
abbrev pub with_number : List ℕ → ℕ → List ℕ → List ℕ
with_number words number rest = words ++ (decimal number ++ rest)

abbrev pub told_numbers : ℕ → ℕ → ℕ → ℕ → ℕ → List ℕ
told_numbers events buffers need contexts most =
    with_number (codes "replayed ") events
    (with_number (codes " events\nbuffers ") buffers
    (with_number (codes " of ") need
    (with_number (codes "\ncontexts ") contexts
    (with_number (codes " of ") most (codes "\n")))))

-- how many events there were, and the most that stood outside the pools beside its bound
abbrev pub replayed_text : Extents → Replayed → List ℕ
replayed_text shape told = told_numbers told.events told.most.buffers (need_of shape) told.most.contexts (contexts_of shape)

-- what is told of a run, or why there is none
abbrev pub told_as : Extents → Result Replayed ReplayFault → Result (List ℕ) ReplayFault
told_as shape (Ok told) = Ok (replayed_text shape told)
told_as shape (Err why) = Err why
