-- A trace is taken again.
use Rattle.std.proofs.Common.{◌≡◌, ◌∙◌, ap, ◌++◌, drop}
use Rattle.std.specs.Str.Lines.{lines}
use Rattle.trace_text.proofs.HeaderLines.{header-plain, read_again}
use Rattle.trace_text.proofs.PlainLines.{lines-of-text}
use Rattle.trace_text.specs.Headers.{header_lines, header_of}
use Rattle.trace_writing.proofs.Again.{taken_again}
use Rattle.world_core.specs.World.{start_world}
use Rattle.query_traces.specs.Again.{TracesAreTakenAgain, replayed_from_start}

pub traces_taken_again : TracesAreTakenAgain
traces_taken_again header tree shape reply text is trace =
    let again = taken_again tree (start_world shape tree) trace.end trace.run reply trace.is_run in
    let read : lines text ≡ header_lines header ++ lines (trace.run ++ reply)
    = ap lines trace.text_is ∙ lines-of-text (header_lines header) (trace.run ++ reply) (header-plain header is) in
    record {
      header_is = ap (λ t. header_of (lines t)) trace.text_is ∙ read_again header (trace.run ++ reply) is;
      told = again.0;
      run_is = ap (λ ls. replayed_from_start tree shape (drop 5 ls)) read ∙ again.1;
    }
