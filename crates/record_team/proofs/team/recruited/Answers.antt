use Rattle.std.proofs.Common.{◌≡◌, ℕ, ◌+◌, [], length, Some, refl, sym, ap, ◌∙◌, arith}
use Rattle.turn_desk.specs.Seats.{view_of}
use Rattle.turn_desk.specs.Story.{newcomer, split_from, split_off}
use Rattle.record_team.specs.Team.{after_splits, new_view}
use Rattle.record_team.proofs.Seats.{each_and_last, splits_more}
use Rattle.record_team.proofs.team.recruited.Goals as goal

pub loop-thread-preserved : goal.loop-thread-preserved
loop-thread-preserved g c =
    let at = c.loop-thread.invariant in
    record {
      seat = c.split.ensures.same ∙ at.seat;
      view = c.split.ensures.root ∙ (ap split_from at.view ∙ splits_more (view_of c.args.root.now) c.loop-thread.thread);
      room = omega (arith, at.room, c.push.ensures.capacity);
      count = omega (arith, at.count, c.in-Ok.ensures.len);
      mates = λ origin is.
          let n : length c.loop-thread.mates.items ≡ c.loop-thread.thread = omega (arith, at.count, c.loop-thread.mates.ok) in
          let next : 1 + c.loop-thread.thread ≡ length c.loop-thread.mates.items + 1 = omega arith in
          each_and_last (λ (i : ℕ) (mate : _). (mate.thread ≡ i) × (mate.seat.token.table_id ≡ c.args.root.now.token.table_id) × (view_of mate.seat ≡ new_view origin i) × (mate.lines ≡ c.args.lines) × (mate.told ≡ []))
          c.loop-thread.mates.items _ c.push.new.self.items c.in-Ok.ensures.items (at.mates origin is)
          (sym n, c.split.ensures.desk ∙ at.seat, c.split.ensures.seat ∙ (ap split_off (at.view ∙ ap (λ v. after_splits v c.loop-thread.thread) is) ∙ ap (λ (z : ℕ). newcomer (Some origin) z 0 []) next), refl, c.new.ensures);
    }

pub returns-clause-mates : goal.returns-clause-mates
returns-clause-mates g c = λ origin is i mate there.
    let h = c.loop-thread.invariant.mates origin is i mate there in
    (h.0, h.1 ∙ c.requires.seat, h.2, h.3, h.4)
