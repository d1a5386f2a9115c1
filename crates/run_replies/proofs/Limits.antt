-- The numbers of a header that was read are within the limits of a run.
use Rattle.std.proofs.Common.{◌≡◌, ℕ, ◌≤◌, ◌&&◌, nat_le, Bool, true, false, arith, refl}
use Rattle.std.proofs.lemmas.Bool.Decides.{nat_tests}
use Rattle.trace_text.specs.Headers.{are_in_limits, is_between, numbers_in}
use Rattle.trace_text.specs.declared.header.Header.{Header}
use Rattle.run_replies.specs.Jobs.{IsInLimits}

both : (a b : Bool) → (a && b) ≡ true → (a ≡ true) × (b ≡ true)
both true b is = (refl, is)
both false b is = cc

between : (least greatest n : ℕ) → is_between least greatest n ≡ true → (least ≤ n) × (n ≤ greatest)
between least greatest n is =
    let parts = both (nat_le least n) (nat_le n greatest) is in
    let low = parts.0 in
    let high = parts.1 in
    let at_least : least ≤ n = grind (arith, nat_tests) in
    let at_most : n ≤ greatest = grind (arith, nat_tests) in
    (at_least, at_most)

pub limits_of : (header : Header) → are_in_limits (numbers_in header) ≡ true → IsInLimits header
limits_of header is =
    let machines = both (is_between 1 8 header.machines) _ is in
    let workers = both (is_between 1 8 header.workers) _ machines.1 in
    let credits = both (is_between 1 8 header.credits) _ workers.1 in
    let broad = both (is_between 0 16 header.broad) (is_between 1 64 header.buffer) credits.1 in
    record {
      machines = between 1 8 header.machines machines.0;
      workers = between 1 8 header.workers workers.0;
      credits = between 1 8 header.credits credits.0;
      broad = between 0 16 header.broad broad.0;
      buffer = between 1 64 header.buffer broad.1;
    }
