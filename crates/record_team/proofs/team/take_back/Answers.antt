use Rattle.std.proofs.Common.{None, ◌≡◌, List, [], ◌∷◌, ◌++◌, length, map, refl, sym, ap, ◌∙◌, subst, append_assoc, append-nil, arith}
use Rattle.turn_desk.specs.Seats.{view_of}
use Rattle.record_team.specs.Team.{IsBack}
use Rattle.record_team.proofs.Seats.{of_all, map_then, none_back, one_back}
use Rattle.record_team.proofs.team.take_back.Goals as goal

pub loop-mate-init : goal.loop-mate-init
loop-mate-init g c = record { seat = refl; done = []; cut = refl; back = none_back (view_of c.args.root.now); told = sym (append-nil c.args.told.now.items); room = c.requires.room; kept = c.requires.kept }

pub join-requires-clause-other_seat : goal.join-requires-clause-other_seat
join-requires-clause-other_seat g c =
    let items = rw c.in-Some.is at c.pop_front.ensures.items in
    (of_all (λ mate. (mate.seat.token.table_id ≡ c.args.recorder.now.desk.table.shared.table_id) × (mate.seat.token.me.0.inside ≡ None)) c.args.mates.items c.loop-mate.invariant.done c.in-Some.mate c.pop_front.new.self.items c.requires.seats (c.loop-mate.invariant.cut ∙ ap (λ (l : List _). c.loop-mate.invariant.done ++ l) items)).0

pub join-requires-clause-other_outside : goal.join-requires-clause-other_outside
join-requires-clause-other_outside g c =
    let items = rw c.in-Some.is at c.pop_front.ensures.items in
    (of_all (λ mate. (mate.seat.token.table_id ≡ c.args.recorder.now.desk.table.shared.table_id) × (mate.seat.token.me.0.inside ≡ None)) c.args.mates.items c.loop-mate.invariant.done c.in-Some.mate c.pop_front.new.self.items c.requires.seats (c.loop-mate.invariant.cut ∙ ap (λ (l : List _). c.loop-mate.invariant.done ++ l) items)).1

pub loop-mate-preserved : goal.loop-mate-preserved
loop-mate-preserved g c =
    let at = c.loop-mate.invariant in
    let items = rw c.in-Some.is at c.pop_front.ensures.items in
    record {
      seat = c.join.ensures.same ∙ at.seat;
      done = at.done ++ c.in-Some.mate ∷ [];
      cut = at.cut ∙ (ap (λ (l : List _). at.done ++ l) items ∙ sym (append_assoc at.done (c.in-Some.mate ∷ []) c.pop_front.new.self.items));
      back =
          subst (λ (l : List _). IsBack (view_of c.args.root.now) l (view_of c.join.new.root)) (sym (map_then (λ mate. view_of mate.seat) at.done c.in-Some.mate))
          (one_back (view_of c.args.root.now) (view_of c.loop-mate.root) (map (λ mate. view_of mate.seat) at.done) (view_of c.in-Some.mate.seat) (view_of c.join.new.root) at.back c.join.ensures.root c.join.ensures.seen);
      told =
          c.in-Ok.ensures.items
          ∙ (ap (λ (l : List _). l ++ c.new.result ∷ []) at.told
          ∙ (append_assoc c.args.told.now.items (map (λ mate. mate.told) at.done) (c.new.result ∷ [])
          ∙ ap (λ (l : List _). c.args.told.now.items ++ l) (ap (λ (x : _). map (λ mate. mate.told) at.done ++ x ∷ []) c.new.ensures ∙ sym (map_then (λ mate. mate.told) at.done c.in-Some.mate))));
      kept = c.join.ensures.joined;
      room = (let l = ap length items in let n = c.in-Ok.ensures.len in let k = c.push.ensures.capacity in let r = at.room in omega arith);
    }
