use Rattle.std.proofs.Common.{◌≡◌, List, [], ◌∷◌, ◌++◌, length, refl, sym, ap, ◌∙◌, subst, append_assoc, arith}
use mathlib.Core.Option.{some}
use lib.ListN.{get_elem?}
use Rattle.replay_board.specs.declared.asker.Asker.{Asker}
use Rattle.replay_board.specs.Notes.{setup_known}
use Rattle.replay_board.specs.Seats.{desk_view, IsBoardSeat, IsSlotSeat}
use Rattle.replay_crew.specs.declared.kit.Kit.{Kit}
use Rattle.replay_crew.specs.Kits.{seat_in}
use Rattle.crew_run.specs.Roots.{HasBack}
use Rattle.crew_run.proofs.Places.{mid_at, of_all, each_and_last}
use Rattle.crew_run.proofs.Seats.{still_back, now_back}
use Rattle.crew_run.proofs.seating.take_back.Goals as goal

pub join-requires-clause-seat : goal.join-requires-clause-seat
join-requires-clause-seat c =
    let at = c.loop-kit.invariant in
    let cut = at.cut ∙ ap (λ (l : List (Kit Asker)). at.done ++ l) c.in-Some.ensures.items in
    let there = subst (λ (l : List (Kit Asker)). get_elem? l (length at.done) ≡ some c.in-Some.kit) (sym cut) (mid_at at.done c.in-Some.kit c.pop_front.new.self.items) in
    let is = c.into_seat-in-Some.ensures ∙ ap (λ (a : Asker). a.seat) c.into_seat.ensures in
    subst (IsBoardSeat c.args.board.now) (sym is) (of_all (λ (kit : Kit Asker). IsSlotSeat c.args.board.now (seat_in kit).seat) c.args.kits.items (length at.done) c.in-Some.kit c.requires.seats there).of_board

pub loop-kit-preserved : goal.loop-kit-preserved
loop-kit-preserved c =
    let at = c.loop-kit.invariant in
    let items = c.in-Some.ensures.items in
    let is = c.into_seat-in-Some.ensures ∙ ap (λ (a : Asker). a.seat) c.into_seat.ensures in
    let seat = c.into_seat-in-Some.result in
    let after = desk_view c.join.new.root in
    record {
      is_root = c.join.ensures.root;
      knows = ap (λ v. setup_known v.origin) c.join.ensures.view ∙ at.knows;
      done = at.done ++ c.in-Some.kit ∷ [];
      cut = at.cut ∙ (ap (λ (l : List (Kit Asker)). at.done ++ l) items ∙ sym (append_assoc at.done (c.in-Some.kit ∷ []) c.pop_front.new.self.items));
      out = (let o = ap (λ v. v.out) c.join.ensures.view in let l = ap length items in let b = at.out in omega arith);
      back = record {
        each = each_and_last (λ p (kit : Kit Asker). HasBack after (desk_view (seat_in kit).seat)) at.done c.in-Some.kit (at.done ++ c.in-Some.kit ∷ []) refl
            (λ p (kit : Kit Asker) there. still_back (desk_view c.loop-kit.root) (desk_view seat) after c.join.ensures.view (desk_view (seat_in kit).seat) (at.back.each p kit there))
            (subst (λ s. HasBack after (desk_view s)) is (now_back (desk_view c.loop-kit.root) (desk_view seat) after c.join.ensures.view c.join.ensures.seen));
      };
    }
