-- The whole text of a trace.
use Rattle.std.proofs.Common.{◌≡◌, ◌∙◌, ap, append_assoc, ℕ, List, [], ◌++◌}
use Rattle.adfs_base.specs.Shape.{Extents}
use Rattle.match_context.specs.Tree.{Tree}
use Rattle.match_context.specs.declared.context.Context.{Context}
use Rattle.trace_text.specs.Headers.{header_lines, with_feeds}
use Rattle.trace_text.specs.declared.header.Header.{Header}
use Rattle.trace_writing.specs.Written.{IsWritten}
use Rattle.world_core.specs.World.{start_world}
use Rattle.query_traces.specs.Traces.{IsTraceText}

-- the header, the run and the reply, one after the other
pub whole : (header : Header) (tree : Tree) (shape : Extents) (reply before written text : List ℕ) (rows : List Context) → before ≡ []
    → IsWritten tree (start_world shape tree) (before ++ with_feeds (header_lines header)) written rows → text ≡ written ++ reply → IsTraceText header tree shape reply text
whole header tree shape reply before written text rows none run after =
    let head = with_feeds (header_lines header) in
    record {
      run = run.text;
      end = run.end;
      is_run = run.is_run;
      text_is = after ∙ ap (λ t. t ++ reply) (run.after ∙ ap (λ t. (t ++ head) ++ run.text) none) ∙ append_assoc head run.text reply;
    }
