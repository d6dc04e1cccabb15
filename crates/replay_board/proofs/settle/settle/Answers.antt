use Rattle.std.proofs.Common.{ℕ, ◌≡◌, ◌-◌, ◌≤◌, List, ◌++◌, length, replicate, ap, sym, ◌∙◌, subst, arith}
use Rattle.replay_core.specs.declared.event.Event.{Event}
use Rattle.replay_core.specs.Histories.{History}
use Rattle.progress_block.specs.Ends.{rows_of}
use Rattle.replay_board.specs.Notes.{signed, AreByMakers}
use Rattle.replay_board.specs.Counted.{AreCounted}
use Rattle.replay_board.proofs.Signing.{made_by, story_grown, paired_grown, makers_kept, not_fewer, unchanged}
use Rattle.replay_board.proofs.Counting.{later_row, counted_grown}
use Rattle.replay_board.proofs.settle.settle.Goals as goal

pub sign-requires-clause-grown : goal.sign-requires-clause-grown
sign-requires-clause-grown g c =
    let u = c.requires.unsigned in
    subst (λ (es : List Event). length c.args.makers.items ≤ length es) (sym c.events-events.ensures.events) (not_fewer c.args.seat c.args.makers.items u.before c.args.core u.grew u.paired)

pub publish-requires-clause-later : goal.publish-requires-clause-later
publish-requires-clause-later g c = λ last e.
    let u = c.requires.unsigned in
    later_row u.before c.args.core u.grew.added u.grew.after_is _ c.counts.result last u.counted c.counts.ensures.counts e

pub invariant_of-result : goal.invariant_of-result
invariant_of-result g c =
    let u = c.requires.unsigned in
    let ms : List ℕ = c.args.makers.items in
    let paired : length ms ≡ length c.args.core.events = sym c.args.makers.ok.0 ∙ (sym c.len.ensures ∙ (c.if-len-events.true ∙ ap length c.events-events.ensures.events)) in
    let same : u.before ≡ c.args.core = unchanged c.args.seat u.before c.args.core u.grew (sym u.paired ∙ paired) in
    record {
      paired = paired;
      room = c.requires.room;
      by_makers = subst (λ (h : History). AreByMakers (signed ms h.events)) same u.by_makers;
      counted = subst (λ (h : History). AreCounted h.setup h.events (rows_of c.args.writer)) same u.counted;
    }

pub invariant_of-result-2 : goal.invariant_of-result-2
invariant_of-result-2 g c =
    let u = c.requires.unsigned in
    let ms : List ℕ = c.args.makers.items in
    let items : c.sign.new.makers.items ≡ ms ++ replicate (length c.args.core.events - length ms) c.args.seat = c.sign.ensures.makers ∙ ap (λ (es : List Event). ms ++ replicate (length es - length ms) c.args.seat) c.events-events.ensures.events in
    let story : signed c.sign.new.makers.items c.args.core.events ≡ signed ms u.before.events ++ made_by c.args.seat u.grew.added = ap (λ (ks : List ℕ). signed ks c.args.core.events) items ∙ story_grown c.args.seat ms u.before c.args.core u.grew u.paired in
    let room = c.requires.room in
    let wider = c.sign.ensures.capacity in
    record {
      paired = ap (λ (ks : List ℕ). length ks) items ∙ paired_grown c.args.seat ms u.before c.args.core u.grew u.paired;
      room = omega arith;
      by_makers = subst AreByMakers (sym story) (makers_kept c.args.seat (signed ms u.before.events) u.grew.added u.by_makers u.grew.own);
      counted = subst (AreCounted c.args.core.setup c.args.core.events) (sym c.publish.ensures.rows) (counted_grown u.before c.args.core u.grew.added u.grew.after_is _ c.counts.result u.counted c.counts.ensures.counts);
    }
