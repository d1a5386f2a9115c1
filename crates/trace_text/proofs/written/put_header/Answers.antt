use Rattle.trace_text.proofs.Feeds.{header_written}
use Rattle.trace_text.proofs.written.put_header.Goals as goal

pub returns : goal.returns
returns c =
    header_written c.args.header.now c.args.out.now.items _ _ _ _ _ c.in_ok-extend_from_slice.ensures.items c.in_ok-put_name.ensures c.in_ok-put_name-2.ensures
    c.in_ok-put_shape.ensures c.in_ok-put_part.ensures
