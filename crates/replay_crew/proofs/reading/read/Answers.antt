use Rattle.std.proofs.Common.{Ok, Err, sym, subst}
use Rattle.worker_msg.specs.Feeds.{Answers}
use Rattle.replay_crew.specs.Readings.{Reads}
use Rattle.replay_crew.proofs.Messages.{read_message, bad_is_wrong}
use Rattle.replay_crew.proofs.reading.read.Goals as goal

pub returns-in-Ok-Some-clause-reads : goal.returns-in-Ok-Some-clause-reads
returns-in-Ok-Some-clause-reads c =
    let taken = subst (λ o. Answers c.args.feed.now (Ok o) c.take.new.self) c.in-Ok-Some.field-0-is c.in-Ok-Some.ensures.answer in
    subst (Reads c.args.key c.args.feed.now.kept) (sym c.reading_of.ensures) (read_message c.args.key c.args.feed.now c.take.new.self c.in-Ok-Some.message c.requires.side c.requires.few taken)

pub returns-in-Err-BadFrame-clause-reads : goal.returns-in-Err-BadFrame-clause-reads
returns-in-Err-BadFrame-clause-reads c =
    let refused = subst (λ e. Answers c.args.feed.now (Err e) c.take.new.self) c.in-Err-BadFrame.field-0-is c.in-Err-BadFrame.ensures.answer in
    bad_is_wrong c.args.key c.args.feed.now _ c.requires.side refused.0
