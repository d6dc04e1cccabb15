use Rattle.std.proofs.Common.{Some, ap, ◌∙◌}
use Rattle.foz_tool.proofs.Dues.{due}
use Rattle.foz_tool.proofs.OutOfMemory.{not_usage, out_of_memory}
use Rattle.foz_tool.proofs.program.run.Goals as goal

pub returns-in-Ok-List-clause-complete : goal.returns-in-Ok-List-clause-complete
returns-in-Ok-List-clause-complete g c =
    let is = c.in-Ok-List.ensures.read ∙ ap Some c.in-Ok-List.field-0-is in
    rw is (λ input output content sound. due c.lines_in_order_make_a_record.ensures.only g.R.Driver.creates _ _ _ _ _ c.list_cmd.ensures.lists input output content sound)

pub returns-in-Ok-Put-clause-complete : goal.returns-in-Ok-Put-clause-complete
returns-in-Ok-Put-clause-complete g c =
    let is = c.in-Ok-Put.ensures.read ∙ ap Some c.in-Ok-Put.field-0-is in
    rw is (λ input output content sound. due c.lines_in_order_make_a_record.ensures.only g.R.Driver.creates _ _ _ _ _ c.put_cmd.ensures.puts input output content sound)

pub returns-in-Ok-Hash-clause-complete : goal.returns-in-Ok-Hash-clause-complete
returns-in-Ok-Hash-clause-complete g c =
    let is = c.in-Ok-Hash.ensures.read ∙ ap Some c.in-Ok-Hash.field-0-is in
    rw is (λ input output content sound. due c.lines_in_order_make_a_record.ensures.only g.R.Driver.creates _ _ _ _ _ c.hash_cmd.ensures.hashes input output content sound)

pub returns-in-Ok-Record-clause-complete : goal.returns-in-Ok-Record-clause-complete
returns-in-Ok-Record-clause-complete g c =
    let is = c.in-Ok-Record.ensures.read ∙ ap Some c.in-Ok-Record.field-0-is in
    rw is (λ input output content sound. due c.lines_in_order_make_a_record.ensures.only g.R.Driver.creates _ _ _ _ _ c.record_cmd.ensures.records input output content sound)

pub returns-in-Ok-Check-clause-complete : goal.returns-in-Ok-Check-clause-complete
returns-in-Ok-Check-clause-complete g c =
    let is = c.in-Ok-Check.ensures.read ∙ ap Some c.in-Ok-Check.field-0-is in
    rw is (λ input output content sound. due c.lines_in_order_make_a_record.ensures.only g.R.Driver.creates _ _ _ _ _ c.check_cmd.ensures.checks input output content sound)

pub returns-in-Ok-Worker-clause-complete : goal.returns-in-Ok-Worker-clause-complete
returns-in-Ok-Worker-clause-complete g c =
    let is = c.in-Ok-Worker.ensures.read ∙ ap Some c.in-Ok-Worker.field-0-is in
    rw is (λ input output content sound. due c.lines_in_order_make_a_record.ensures.only g.R.Driver.creates _ _ _ _ _ c.worker_cmd.ensures.serves input output content sound)

pub returns-in-Err-Memory-clause-runs : goal.returns-in-Err-Memory-clause-runs
returns-in-Err-Memory-clause-runs g c = out_of_memory _ g.R.Driver.creates c.sessions_have_one_end.ensures.unserved _ _ (λ none. not_usage _ c.in-Err-Memory.field-0-is (c.in-Err-Memory.ensures.usage.1 none))

pub returns-in-Ok-Replay-clause-complete : goal.returns-in-Ok-Replay-clause-complete
returns-in-Ok-Replay-clause-complete g c =
    let is = c.in-Ok-Replay.ensures.read ∙ ap Some c.in-Ok-Replay.field-0-is in
    rw is (λ input output content sound. due c.lines_in_order_make_a_record.ensures.only g.R.Driver.creates _ _ _ _ _ c.replay_cmd.ensures.replays input output content sound)

pub returns-in-Ok-Replay-clause-unanswered : goal.returns-in-Ok-Replay-clause-unanswered
returns-in-Ok-Replay-clause-unanswered g c =
    let is = c.in-Ok-Replay.ensures.read ∙ ap Some c.in-Ok-Replay.field-0-is in
    rw is (λ nine. c.replay_cmd.ensures.causes.unanswered nine)
