-- Each kind of step keeps what the type of a seat keeps.
use Rattle.std.proofs.Common.{◌≡◌, ℕ, Bool, true, false, List, [], ◌∷◌, ◌+◌, ◌-◌, ◌<◌, ◌≤◌, ◌==◌, nat_lt}
use Rattle.std.proofs.Common.{nat_le, if◌then◌else◌, refl, sym, ap, arith, subst, ◌∙◌, inr, ⊎_elim, eq-eqb, ne_eqb, ◌≢◌}
use Rattle.std.proofs.lemmas.Bool.{false≢true}
use Rattle.std.proofs.lemmas.Bool.Decides.{nat_tests}
use Rattle.std.specs.List.{AllByRecursion}
use Rattle.atomic_table.specs.Table.{Me}
use Rattle.stage_credits.specs.declared.view.View.{View}
use Rattle.stage_credits.specs.declared.view.Way.{Way}
use Rattle.stage_credits.specs.Layout.{units, sender_of, target_of, roots_of}
use Rattle.stage_credits.specs.Lists.{times, without}
use Rattle.stage_credits.specs.Views.{with_note, machine_at, after_exchange, after_look, after_miss, after_charge, after_post, after_pick, after_discharge}
use Rattle.stage_credits.specs.Views.{after_seek, after_check, after_sight, after_end, after_claim, after_retire, after_mark, after_rise, after_close}
use Rattle.stage_credits.specs.Seats.{IsOfWorker}

-- a seat after a step that left it this view
pub IsOfWorker-stepped : (machine seen seen' : ℕ) (old new : Me ℕ View) (w : View) → (old.1 ≡ []) × IsOfWorker machine seen old.0 → new ≡ (w, old.1)
    → (IsOfWorker machine seen old.0 → IsOfWorker machine seen' w) → (new.1 ≡ []) × IsOfWorker machine seen' new.0
IsOfWorker-stepped machine seen seen' old new w of is keeps =
    (ap (λ (m : Me ℕ View). m.1) is ∙ of.0, subst (IsOfWorker machine seen') (sym (ap (λ (m : Me ℕ View). m.0) is)) (keeps of.1))

AllByRecursion-without : (P : ℕ → Type 0) (x : ℕ) (xs : List ℕ) → AllByRecursion P xs → AllByRecursion P (without x xs)
AllByRecursion-without P x [] all = tt
AllByRecursion-without P x (y ∷ ys) all = go (x == y) (AllByRecursion-without P x ys all.1)
  where
    go : (b : Bool) → AllByRecursion P (without x ys) → AllByRecursion P (if b then ys else y ∷ without x ys)
    go true rest = all.1
    go false rest = (all.0, rest)

module _ (machine seen : ℕ) (v : View) where
  pub IsOfWorker-with_note : (way : Way) (word found : ℕ) → IsOfWorker machine seen v → IsOfWorker machine seen (with_note way v word found)
  IsOfWorker-with_note way word found of =
      record { workers = of.workers; closed = of.closed; enrolled = of.enrolled; chunks = of.chunks; ended = of.ended; open_units = of.open_units; work_units = of.work_units }

  pub IsOfWorker-exchange : (held : View → ℕ → ℕ → View) (word expected found : ℕ) → (IsOfWorker machine seen v → IsOfWorker machine seen (held v word found))
      → IsOfWorker machine seen v → IsOfWorker machine seen (after_exchange held v word expected found)
  IsOfWorker-exchange held word expected found keeps of = go (found == expected)
    where
      go : (b : Bool) → IsOfWorker machine seen (if b then held v word found else after_miss v word found)
      go true = keeps of
      go false =
          record { workers = of.workers; closed = of.closed; enrolled = of.enrolled; chunks = of.chunks; ended = of.ended; open_units = of.open_units; work_units = of.work_units }

  pub IsOfWorker-charge : (word found : ℕ) → sender_of v.setup word ≡ machine → IsOfWorker machine seen v → IsOfWorker machine seen (after_charge v word found)
  IsOfWorker-charge word found own of =
      record { workers = of.workers; closed = of.closed; enrolled = of.enrolled; chunks = of.chunks; ended = of.ended; open_units = (own, of.open_units); work_units = of.work_units }

  pub IsOfWorker-post : (word found : ℕ) → IsOfWorker machine seen v → IsOfWorker machine seen (after_post v word found)
  IsOfWorker-post word found of = record {
    workers = of.workers;
    closed = of.closed;
    enrolled = of.enrolled;
    chunks = of.chunks;
    ended = of.ended;
    open_units = AllByRecursion-without (λ unit. sender_of v.setup unit ≡ machine) (word - units v.setup) v.open_units of.open_units;
    work_units = of.work_units;
  }

  pub IsOfWorker-pick : (word found : ℕ) → target_of (word - units v.setup) ≡ machine → IsOfWorker machine seen v → IsOfWorker machine seen (after_pick v word found)
  IsOfWorker-pick word found own of =
      record { workers = of.workers; closed = of.closed; enrolled = of.enrolled; chunks = of.chunks; ended = of.ended; open_units = of.open_units; work_units = (own, of.work_units) }

  pub IsOfWorker-discharge : (word found : ℕ) → IsOfWorker machine seen v → IsOfWorker machine seen (after_discharge v word found)
  IsOfWorker-discharge word found of = record {
    workers = of.workers;
    closed = of.closed;
    enrolled = of.enrolled;
    chunks = of.chunks;
    ended = of.ended;
    open_units = of.open_units;
    work_units = AllByRecursion-without (λ unit. target_of unit ≡ machine) word v.work_units of.work_units;
  }

  pub IsOfWorker-seek : (word found : ℕ) → machine_at v word ≡ machine → IsOfWorker machine seen v → IsOfWorker machine seen (after_seek v word found)
  IsOfWorker-seek word found own of = go (nat_le (roots_of v.setup (machine_at v word)) found)
    where
      go : (b : Bool) → IsOfWorker machine seen (if b then after_end (machine_at v word) v word found else after_look v word found)
      go true =
          record { workers = of.workers; closed = of.closed; enrolled = of.enrolled; chunks = of.chunks; ended = (own, of.ended); open_units = of.open_units; work_units = of.work_units }
      go false =
          record { workers = of.workers; closed = of.closed; enrolled = of.enrolled; chunks = of.chunks; ended = of.ended; open_units = of.open_units; work_units = of.work_units }

  pub IsOfWorker-claim : (from end word found : ℕ) → from ≡ machine → IsOfWorker machine seen v → IsOfWorker machine seen (after_claim from end v word found)
  IsOfWorker-claim from end word found own of =
      record { workers = of.workers; closed = of.closed; enrolled = of.enrolled; chunks = (own, of.chunks); ended = of.ended; open_units = of.open_units; work_units = of.work_units }

  pub IsOfWorker-retire : (word found : ℕ) → IsOfWorker machine seen v → IsOfWorker machine seen (after_retire v word found)
  IsOfWorker-retire word found of =
      record { workers = of.workers; closed = of.closed; enrolled = inr refl; chunks = of.chunks; ended = of.ended; open_units = of.open_units; work_units = of.work_units }

  -- a seat that is enrolled at all is enrolled as its one worker
  pub enrolled_as : 0 < times machine v.enrolled → IsOfWorker machine seen v → v.enrolled ≡ machine ∷ []
  enrolled_as some_there of =
      let not_gone : v.enrolled ≡ [] → ⊥ = λ e. let none : times machine v.enrolled ≡ 0 = ap (times machine) e in omega arith in
      ⊎_elim (λ (e : v.enrolled ≡ machine ∷ []). e) (λ (e : v.enrolled ≡ []). absurd (not_gone e)) of.enrolled

  pub IsOfWorker-check : (word found : ℕ) → IsOfWorker machine seen v → IsOfWorker machine seen (after_check v word found)
  IsOfWorker-check word found of = go (found == 0)
    where
      go : (b : Bool) → IsOfWorker machine seen (if b then after_mark v word found else after_look v word found)
      go true =
          record { workers = of.workers; closed = of.closed; enrolled = of.enrolled; chunks = of.chunks; ended = of.ended; open_units = of.open_units; work_units = of.work_units }
      go false =
          record { workers = of.workers; closed = of.closed; enrolled = of.enrolled; chunks = of.chunks; ended = of.ended; open_units = of.open_units; work_units = of.work_units }

  -- `closed` was found above what the seat saw
  pub IsOfWorker-sight_up : (word found : ℕ) → seen < found → IsOfWorker machine seen v → IsOfWorker machine found (after_sight v word found)
  IsOfWorker-sight_up word found up of = go (nat_lt v.closed found) (let c = of.closed in grind (arith, nat_tests))
    where
      go : (b : Bool) → b ≡ true → IsOfWorker machine found (if b then after_rise v word found else after_look v word found)
      go true e =
          record { workers = of.workers; closed = refl; enrolled = of.enrolled; chunks = of.chunks; ended = of.ended; open_units = of.open_units; work_units = of.work_units }
      go false e = absurd (false≢true e)

  pub IsOfWorker-sight_same : (word found : ℕ) → found ≤ seen → IsOfWorker machine seen v → IsOfWorker machine seen (after_sight v word found)
  IsOfWorker-sight_same word found same of = go (nat_lt v.closed found) (let c = of.closed in grind (arith, nat_tests))
    where
      go : (b : Bool) → b ≡ false → IsOfWorker machine seen (if b then after_rise v word found else after_look v word found)
      go true e = absurd (false≢true (sym e))
      go false e =
          record { workers = of.workers; closed = of.closed; enrolled = of.enrolled; chunks = of.chunks; ended = of.ended; open_units = of.open_units; work_units = of.work_units }

  -- the exchange of `closed` held, or not
  pub IsOfWorker-close_held : (word expected found : ℕ) → expected ≡ seen → found ≡ expected → IsOfWorker machine seen v
      → IsOfWorker machine (seen + 1) (after_exchange after_close v word expected found)
  IsOfWorker-close_held word expected found same held of = go (found == expected) (eq-eqb found expected held)
    where
      go : (b : Bool) → b ≡ true → IsOfWorker machine (seen + 1) (if b then after_close v word found else after_miss v word found)
      go true e = record {
        workers = of.workers;
        closed = ap (λ (n : ℕ). n + 1) (sym (held ∙ same));
        enrolled = of.enrolled;
        chunks = of.chunks;
        ended = of.ended;
        open_units = of.open_units;
        work_units = of.work_units;
      }
      go false e = absurd (false≢true e)

  pub IsOfWorker-close_missed : (word expected found : ℕ) → found ≢ expected → IsOfWorker machine seen v → IsOfWorker machine seen (after_exchange after_close v word expected found)
  IsOfWorker-close_missed word expected found missed of = go (found == expected) (ne_eqb found expected missed)
    where
      go : (b : Bool) → b ≡ false → IsOfWorker machine seen (if b then after_close v word found else after_miss v word found)
      go true e = absurd (false≢true (sym e))
      go false e =
          record { workers = of.workers; closed = of.closed; enrolled = of.enrolled; chunks = of.chunks; ended = of.ended; open_units = of.open_units; work_units = of.work_units }
