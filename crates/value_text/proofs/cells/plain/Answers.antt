use Rattle.std.proofs.Common.{◌≡◌, ◌<◌, ◌≤◌, ◌+◌, ◌-◌, ◌*◌, ◌^◌, ◌∙◌, ap, arith, rules, true, length, slice_index, take}
use Rattle.std.specs.Char.{is_ascii_digit}
use Rattle.std.proofs.lemmas.Bool.Decides.{nat_tests}
use Rattle.value_text.proofs.Numerals.{digits_more, few_taken, value_more}
use Rattle.value_text.proofs.cells.plain.Goals as goal

pub overflow_mul-number : goal.overflow_mul-number
overflow_mul-number c =
    let few : c.loop-byte.byte-index ≤ 17 = omega (arith, c.loop-byte-test.true, c.if-cell-gt-MOST_DIGITS.false) in
    omega (arith, few_taken c.args.cell.now c.loop-byte.byte-index 17 few c.loop-byte.invariant.digits, c.loop-byte.invariant.value)

pub overflow_add-number : goal.overflow_add-number
overflow_add-number c =
    let few : c.loop-byte.byte-index ≤ 17 = omega (arith, c.loop-byte-test.true, c.if-cell-gt-MOST_DIGITS.false) in
    let from : c.from.result ≡ slice_index c.args.cell.now c.loop-byte.byte-index - 48 = search rules in
    let digit : is_ascii_digit (slice_index c.args.cell.now c.loop-byte.byte-index) ≡ true = search rules in
    let low : slice_index c.args.cell.now c.loop-byte.byte-index < 58 = grind (arith, nat_tests) in
    omega (arith, few_taken c.args.cell.now c.loop-byte.byte-index 17 few c.loop-byte.invariant.digits, c.loop-byte.invariant.value, from, low)

pub loop-byte-preserved : goal.loop-byte-preserved
loop-byte-preserved c =
    let cell = c.args.cell.now in
    let i = c.loop-byte.byte-index in
    let few : i ≤ 17 = omega (arith, c.loop-byte-test.true, c.if-cell-gt-MOST_DIGITS.false) in
    let less : i < length cell = omega (arith, c.loop-byte-test.true) in
    let digit : is_ascii_digit (slice_index cell i) ≡ true = search rules in
    let from : c.from.result ≡ slice_index cell i - 48 = search rules in
    let low : slice_index cell i < 58 = grind (arith, nat_tests) in
    record {
      digits = digits_more cell i less digit c.loop-byte.invariant.digits;
      value = ap (λ n. c.loop-byte.number * 10 + n) from ∙ value_more cell i less digit c.loop-byte.number c.loop-byte.invariant.value;
      small = omega (arith, few_taken cell i 17 few c.loop-byte.invariant.digits, c.loop-byte.invariant.value, from, low);
    }
