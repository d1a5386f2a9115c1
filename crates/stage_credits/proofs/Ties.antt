-- What a step asks of the table, from what contracts see of the counters and of the seat.
use Rattle.std.proofs.Common.{◌≡◌, ℕ, List, [], length, ◌<◌, sym, ap, arith, subst}
use Rattle.stage_credits.specs.declared.credits.Credits.TheInside.{Inside}
use Rattle.stage_credits.specs.declared.credits.CreditSeat.TheInside as seat
use Rattle.stage_credits.specs.Layout.{word_count}
use Rattle.stage_credits.specs.Seats.{Counters, Seated, IsSeatOf, IsOfWorker}

-- what contracts see of the fields
abbrev pub counters_of : Inside → Counters
counters_of k = record { table = k.table.shared.table_id; setup = k.setup }

abbrev pub seated_of : seat.Inside → Seated
seated_of s = record { table = s.seat.table_id; worker = s.worker; machine = s.machine; view = s.seat.me.0 }

-- the seat as a step meets it
pub record IsTied (k : Inside) (s : seat.Inside) : Type 0 where
  pub table : s.seat.table_id ≡ k.table.shared.table_id
  pub words : k.table.shared.table_id.words ≡ word_count k.setup
  pub key : k.table.shared.key ≡ k.setup
  pub setup : s.seat.me.0.setup ≡ k.setup
  pub machine : s.machine < k.setup.shape.machines
  pub one : 0 < length s.seat.me.0.workers

-- a fact of what contracts see is one of the fields
pub of_fields : (k : Inside) (s : seat.Inside) (credits : Counters) (view : Seated) → counters_of k ≡ credits → seated_of s ≡ view
    → (P : Counters → Seated → Type 0) → P credits view → P (counters_of k) (seated_of s)
of_fields k s credits view k_is s_is P holds = subst (λ (c : Counters). P c (seated_of s)) (sym k_is) (subst (P credits) (sym s_is) holds)

pub tied : (k : Inside) (s : seat.Inside) (credits : Counters) (view : Seated) → counters_of k ≡ credits → seated_of s ≡ view
    → (k.table.shared.key ≡ k.setup) × (k.table.shared.table_id.words ≡ word_count k.setup) × (k.table.shared.table_id.slots ≡ 0) → (s.seat.me.1 ≡ []) × IsOfWorker s.machine s.closed s.seat.me.0
    → IsSeatOf credits view → IsTied k s
tied k s credits view k_is s_is made of is_seat =
    let f : IsSeatOf (counters_of k) (seated_of s) = of_fields k s credits view k_is s_is IsSeatOf is_seat in record {
      table = f.table;
      words = made.1;
      key = made.0;
      setup = f.setup;
      machine = f.machine;
      one = let n : length s.seat.me.0.workers ≡ 1 = ap (λ (l : List ℕ). length l) of.1.workers in omega arith;
    }
