use Rattle.std.proofs.Common.{◌+◌, length, refl, sym, ◌∙◌, rules, arith}
use Rattle.pgql_lexer.specs.Tokens.{tokens}
use Rattle.pgql_lexer.proofs.Scanning.{gap_passed, still_here, here_at_first, same_at_first, no_fault, first_found, none_left}
use Rattle.pgql_lexer.proofs.Steps.{place-step}
use Rattle.pgql_lexer.proofs.scan.first_token.Goals as goal

pub loop-rest-init : goal.loop-rest-init
loop-rest-init c = record {
  so_far = same_at_first c.args.place c.args.text.now;
  low = omega arith;
  here = here_at_first c.args.place c.args.text.now;
  left = refl;
}

pub loop-rest-preserved : goal.loop-rest-preserved
loop-rest-preserved c =
    let so_far = c.loop-rest.invariant in
    record {
      so_far = gap_passed (tokens c.args.place c.args.text.now) c.in-Gap.count c.loop-rest.at c.loop-rest.rest.now (search rules) c.in-Gap.ensures.fits.0 so_far.so_far
          (sym c.in-Gap.ensures.value);
      low = let low = so_far.low in omega arith;
      here = still_here c.args.place c.loop-rest.at c.in-Gap.count c.args.text.now c.loop-rest.rest.now so_far.low so_far.here;
      left = place-step c.loop-rest.at c.in-Gap.count (c.args.place + length c.args.text.now) c.loop-rest.rest.now so_far.left c.in-Gap.ensures.fits.1;
    }

pub returns-in-Whole : goal.returns-in-Whole
returns-in-Whole c =
    let so_far = c.loop-rest.invariant in
    first_found c.args.place c.loop-rest.at c.in-Whole.count c.in-Whole.kind c.args.text.now c.loop-rest.rest.now so_far.low so_far.here so_far.left (search rules)
    c.in-Whole.ensures.fits.0 c.in-Whole.ensures.fits.1 c.requires.lexed so_far.so_far (sym c.in-Whole.ensures.value)

pub unreachable-requires : goal.unreachable-requires
unreachable-requires c =
    no_fault (tokens c.args.place c.args.text.now) c.loop-rest.at c.loop-rest.rest.now (search rules) c.requires.lexed c.loop-rest.invariant.so_far
    (λ count is. c.in_default.not-Gap count (c.read_front.ensures.value ∙ is)) (λ kind count is. c.in_default.not-Whole kind count (c.read_front.ensures.value ∙ is))

pub returns : goal.returns
returns c = none_left c.args.place c.loop-rest.at c.args.text.now c.loop-rest.rest.now (search rules) c.loop-rest.invariant.so_far
