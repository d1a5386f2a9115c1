use Rattle.std.proofs.Common.{◌≡◌, ℕ, List, [], ◌∷◌, ◌++◌, ◌+◌, length, sym, ap, subst, arith, ◌∙◌}
use Rattle.std.specs.List.{All}
use Rattle.std.proofs.lemmas.List.Elements.{All-take}
use Rattle.stage_credits.specs.declared.view.View.{View}
use Rattle.stage_credits.specs.Rule.{covers}
use Rattle.stage_credits.specs.Start.{joined_view}
use Rattle.stage_credits.specs.Seats.{Counters, Seated, claims}
use Rattle.stage_credits.proofs.Joining.{joins, last_of, claims-snoc, covers-append, length-both}
use Rattle.stage_credits.proofs.credits.Credits.gather.Goals as goal

pub join_seat-requires : goal.join_seat-requires
join_seat-requires c =
    let on = c.self.inside.table.shared in
    let mine = c.loop-other.seat in
    let theirs = c.other.inside.seat in
    let same_table : c.args.self.now.table ≡ on.table_id = sym (ap (λ (x : Counters). x.table) c.self.view_is) in
    let P : Seated → Type 0 = λ s. s.table ≡ c.args.self.now.table in
    let all : All P (c.pop-in-loop-other.new.self.items ++ c.in-Some-pop.other ∷ []) = subst (λ (xs : List Seated). All P xs) c.in-Some-pop.ensures.items c.loop-other.invariant.of in
    let of : c.in-Some-pop.other.table ≡ c.args.self.now.table = last_of P c.pop-in-loop-other.new.self.items c.in-Some-pop.other all in (
      c.loop-other.invariant.table ∙ same_table,
      ap (λ (s : Seated). s.table) c.other.view_is ∙ (of ∙ same_table),
      c.other.invariant.0,
      (let w = c.self.invariant.1 in omega arith),
      joins on.key mine.id theirs.id mine.me.0 theirs.me.0 c.loop-other.invariant.some_one,
    )

pub loop-other-preserved : goal.loop-other-preserved
loop-other-preserved c =
    let mine = c.loop-other.seat.me.0 in
    let theirs = c.other.inside.seat.me.0 in
    let left = c.pop-in-loop-other.new.self.items in
    let now : c.join_seat.new.seat.me.0 ≡ joined_view mine theirs = ap (λ (m : View × List (ℕ × ℕ)). m.0) c.join_seat.ensures.2 in
    let one : length theirs.workers ≡ 1 = ap (λ (l : List ℕ). length l) c.other.invariant.1.workers in
    let workers : length c.join_seat.new.seat.me.0.workers ≡ length mine.workers + length theirs.workers = ap (λ (v : View). length v.workers) now ∙ length-both mine.workers theirs.workers in
    let P : Seated → Type 0 = λ s. s.table ≡ c.args.self.now.table in
    record {
      table = c.join_seat.ensures.0 ∙ c.loop-other.invariant.table;
      some_one = let s = c.loop-other.invariant.some_one in omega arith;
      count = let k = c.loop-other.invariant.count in let p = c.in-Some-pop.ensures.cases in omega arith;
      of = subst (λ (xs : List Seated). All P xs) (sym c.in-Some-pop.ensures.rest) (All-take P _ c.loop-other.seats.items c.loop-other.invariant.of);
      chunks = λ m place.
          let k = c.loop-other.invariant.chunks m place in
          let a : covers m place c.join_seat.new.seat.me.0.chunks ≡ covers m place mine.chunks + covers m place theirs.chunks =
          ap (λ (v : View). covers m place v.chunks) now ∙ covers-append m place mine.chunks theirs.chunks in
          let b : claims m place c.loop-other.seats.items ≡ claims m place left + covers m place c.in-Some-pop.other.view.chunks =
          ap (claims m place) c.in-Some-pop.ensures.items ∙ claims-snoc m place left c.in-Some-pop.other in
          let v : covers m place theirs.chunks ≡ covers m place c.in-Some-pop.other.view.chunks = ap (λ (s : Seated). covers m place s.view.chunks) c.other.view_is in
          omega (arith, k, a, b, v);
    }

pub loop-other-init : goal.loop-other-init
loop-other-init c =
    let P : Seated → Type 0 = λ s. s.table ≡ c.args.self.now.table in
    let rest = c.pop.new.self.items in
    let last = c.last.inside.seat in
    let of_last = c.last.invariant.1 in
    let items : c.args.seats.items ≡ rest ++ c.in-Some.last ∷ [] = c.in-Some.ensures.items in
    let all : All P (rest ++ c.in-Some.last ∷ []) = subst (All P) items c.requires.of in
    let of : c.in-Some.last.table ≡ c.args.self.now.table = last_of P rest c.in-Some.last all in
    let one : length last.me.0.workers ≡ 1 = ap (λ (l : List ℕ). length l) of_last.workers in
    record {
      table = ap (λ (s : Seated). s.table) c.last.view_is ∙ of;
      some_one = omega arith;
      count = let p = c.in-Some.ensures.cases in omega arith;
      of = subst (All P) (sym c.in-Some.ensures.rest) (All-take P _ c.args.seats.items c.requires.of);
      chunks = λ m place.
          let b : claims m place c.args.seats.items ≡ claims m place rest + covers m place c.in-Some.last.view.chunks = ap (claims m place) items ∙ claims-snoc m place rest c.in-Some.last in
          let v : covers m place last.me.0.chunks ≡ covers m place c.in-Some.last.view.chunks = ap (λ (s : Seated). covers m place s.view.chunks) c.last.view_is in
          omega (arith, b, v);
    }
