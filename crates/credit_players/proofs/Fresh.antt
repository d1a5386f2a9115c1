-- The players of fresh seats are ready.
use Rattle.std.proofs.Common.{◌≡◌, ℕ, List, ◌+◌, ◌*◌, ◌/◌, ◌<◌, length, get_or, map, refl, sym, ap, subst, arith, ◌∙◌}
use Rattle.std.specs.List.{All, range_with_len}
use Rattle.std.proofs.lemmas.List.Elements.{All-map}
use Rattle.std.proofs.lemmas.List.FromFn.{length-range_with_len, length-map-range_with_len, get_or-range_with_len}
use Rattle.std.proofs.lemmas.Nat.{div_below}
use Rattle.stage_credits.specs.Layout.{roots_of}
use Rattle.stage_credits.specs.Seats.{Counters, Seated, fresh_seat, AreFreshSeats}
use Rattle.credit_players.specs.Players.{IsReady, IsTiny, IsAtStart, player_of}

ready : (credits : Counters) (worker : ℕ) → 0 < credits.setup.shape.workers → worker < credits.setup.shape.machines * credits.setup.shape.workers → IsReady credits (player_of (fresh_seat credits worker))
ready credits worker some_worker below =
    let machine : worker / credits.setup.shape.workers < credits.setup.shape.machines = div_below worker credits.setup.shape.workers credits.setup.shape.machines some_worker below in
    record { seat = record { table = refl; setup = refl; machine = machine }; enrolled = refl; is_open = tt; is_work = tt; open_units = refl; work_units = refl }

pub all_ready : (credits : Counters) (seats : List Seated) → 0 < credits.setup.shape.workers → AreFreshSeats credits seats → All (IsReady credits) (map player_of seats)
all_ready credits seats some_worker fresh =
    let count = credits.setup.shape.machines * credits.setup.shape.workers in
    let P : Seated → Type 0 = λ s. IsReady credits (player_of s) in
    let each : All (λ worker. P (fresh_seat credits worker)) (range_with_len 0 count) = λ k d lt.
    let n = length-range_with_len 0 count in
    let at : get_or (range_with_len 0 count) k d ≡ k = get_or-range_with_len 0 count k d (omega arith) ∙ omega arith in
    subst (λ (worker : ℕ). P (fresh_seat credits worker)) (sym at) (ready credits k some_worker (omega arith)) in
    All-map (IsReady credits) player_of seats (subst (All P) (sym fresh) (All-map P (fresh_seat credits) (range_with_len 0 count) each))

pub all_at_start : (credits : Counters) (seats : List Seated) → IsTiny credits → 0 < credits.setup.shape.workers → roots_of credits.setup 0 ≡ 0 → AreFreshSeats credits seats → All (IsAtStart credits) seats
all_at_start credits seats tiny some_worker roots fresh =
    let count = credits.setup.shape.machines * credits.setup.shape.workers in
    let each : All (λ worker. IsAtStart credits (fresh_seat credits worker)) (range_with_len 0 count) = λ k d lt.
    let n = length-range_with_len 0 count in
    let at : get_or (range_with_len 0 count) k d ≡ k = get_or-range_with_len 0 count k d (omega arith) ∙ omega arith in
    let player = ready credits k some_worker (omega arith) in
    subst (λ (worker : ℕ). IsAtStart credits (fresh_seat credits worker)) (sym at)
    (record { of = player.seat; machines = tiny.machines; stages = tiny.stages; roots = roots; enrolled = refl; closed = refl; marks = refl }) in
    subst (All (IsAtStart credits)) (sym fresh) (All-map (IsAtStart credits) (fresh_seat credits) (range_with_len 0 count) each)

pub length-fresh : (credits : Counters) (seats : List Seated) → AreFreshSeats credits seats → length seats ≡ credits.setup.shape.machines * credits.setup.shape.workers
length-fresh credits seats fresh =
    let count = credits.setup.shape.machines * credits.setup.shape.workers in
    ap (λ (s : List Seated). length s) fresh ∙ length-map-range_with_len (fresh_seat credits) 0 count
