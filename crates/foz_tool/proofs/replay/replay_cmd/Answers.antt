use Rattle.std.proofs.Common.{sym}
use Rattle.foz_tool.proofs.Replayed.{has_replay_causes, same_slots, unless_read}
use Rattle.foz_tool.proofs.replay.replay_cmd.Goals as goal

pub returns-clause-replays : goal.returns-clause-replays
returns-clause-replays g c = record {
  ended = λ content output. record {
    outcome = c.replay-made.result;
    made = rw (sym c.as_str.ensures) (c.replay-made.ensures.makes content.0 content.1);
    printed = c.finish-status.ensures.printed output;
  };
  only_read = λ content.
      rw (sym c.as_str.ensures) (record {
        content = (c.replay-made.ensures.only_read content.0 content.1).content;
        history = λ images. (c.replay-made.ensures.only_read content.0 content.1).history images.1;
      });
  other_slots = same_slots (λ slot. record { log = g.C.Slot.log slot; start_faults = g.C.Slot.start_faults slot; running = g.C.Slot.running slot }) c.args.workers c.args.host.now.crew.items c.replay-made.new.crew.items c.replay-made.ensures.others;
}

pub returns-clause-causes : goal.returns-clause-causes
returns-clause-causes g c = rw (sym c.as_str.ensures) (has_replay_causes _ _ _ c.replay-made.result c.finish-status.result c.finish-status.ensures.status c.replay-made.ensures.causes)

pub returns-clause-unread : goal.returns-clause-unread
returns-clause-unread g c = unless_read _ _ _ _ c.replay-made.result c.finish-status.result c.finish-status.ensures.status c.replay-made.ensures.causes c.replay-made.ensures.unread
