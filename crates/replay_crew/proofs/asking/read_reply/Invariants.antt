use Rattle.std.proofs.Common.{◌≡◌, ◌<◌, ◌-◌, true, length}
use Rattle.worker_msg.specs.declared.side.Side.TheVariants.{Crew}
use Rattle.slot_log.specs.Answers.{IsUnfinished}
use Rattle.replay_crew.proofs.Gathering.{Gathering}
use Rattle.replay_crew.proofs.asking.read_reply.Given as goal

abbrev pub invariant-loop-alloc : goal.invariant-loop-alloc
invariant-loop-alloc g l = record {
  faults : g.S.Slot.start_faults l.slot ≡ g.S.Slot.start_faults l.fn.slot;
  deaths : g.S.Slot.deaths l.slot ≡ g.S.Slot.deaths l.fn.slot;
  running : g.S.Slot.running l.slot ≡ true;
  side : l.feed.side ≡ Crew;
  place : l.feed.place ≡ 0;
  lacks : length l.feed.kept < 21;
  unfinished : IsUnfinished l.feed.kept;
  gathering : Gathering (g.S.Slot.log l.initial.slot) (g.S.Slot.log l.slot) l.feed.kept;
}

abbrev pub decreases-loop-alloc : goal.decreases-loop-alloc
decreases-loop-alloc g l = 21 - length l.feed.kept
