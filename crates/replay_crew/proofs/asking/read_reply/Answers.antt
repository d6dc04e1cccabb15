use Rattle.std.proofs.Common.{◌≡◌, ◌+◌, ◌-◌, ◌<◌, ◌≤◌, ◌++◌, length, length-append, refl, sym, ap, ◌∙◌, subst, arith}
use Rattle.disk_model.specs.Faults.{Rose}
use Rattle.slot_log.specs.Answers.{IsUnfinished}
use Rattle.replay_crew.proofs.Gathering.{Gathering, gathered_none, gather_more, gathered_answer, gathered_gone, gathered_wrong, awaits, nothing_yet}
use Rattle.replay_crew.proofs.asking.read_reply.Goals as goal

pub loop-alloc-init : goal.loop-alloc-init
loop-alloc-init g c =
    let fresh = c.new-feed.ensures in
    let kept = ap (λ feed. feed.kept) fresh in record {
      faults = refl;
      deaths = refl;
      running = c.requires.running;
      side = ap (λ feed. feed.side) fresh;
      place = ap (λ feed. feed.place) fresh;
      lacks = (let long = ap length kept in omega arith);
      unfinished = subst IsUnfinished (sym kept) nothing_yet;
      gathering = subst (Gathering (g.S.Slot.log c.args.slot.now) (g.S.Slot.log c.args.slot.now)) (sym kept) (gathered_none (g.S.Slot.log c.args.slot.now));
    }

pub loop-alloc-preserved : goal.loop-alloc-preserved
loop-alloc-preserved g c =
    let was = c.loop-alloc.invariant in
    let got = c.in-Ok.ensures.got in
    let received = got.1 in
    let rest = c.in-Unfinished.ensures.unfinished refl in
    let kept = ap (λ feed. feed.kept) rest.0 in record {
      faults = c.receive.ensures.faults ∙ was.faults;
      deaths = got.2 ∙ was.deaths;
      running = got.0;
      side = ap (λ feed. feed.side) rest.0 ∙ (ap (λ feed. feed.side) received.feed_is ∙ was.side);
      place = ap (λ feed. feed.place) rest.0 ∙ (ap (λ feed. feed.place) received.feed_is ∙ was.place);
      lacks = subst (λ bytes. length bytes < 21) (sym kept) rest.1;
      unfinished = subst IsUnfinished (sym kept) c.in-Unfinished.ensures.reads;
      gathering = subst (Gathering (g.S.Slot.log c.args.slot.now) (g.S.Slot.log c.receive.new.slot)) (sym kept) (gather_more (g.S.Slot.log c.args.slot.now) (g.S.Slot.log c.loop-alloc.slot) (g.S.Slot.log c.receive.new.slot) c.loop-alloc.feed c.receive.new.feed was.gathering received);
    }

pub returns-in-Answer-clause-answered : goal.returns-in-Answer-clause-answered
returns-in-Answer-clause-answered g c =
    gathered_answer c.args.key c.in-Answer.code (g.S.Slot.log c.args.slot.now) (g.S.Slot.log c.receive.new.slot) c.receive.new.feed.kept
    (gather_more (g.S.Slot.log c.args.slot.now) (g.S.Slot.log c.loop-alloc.slot) (g.S.Slot.log c.receive.new.slot) c.loop-alloc.feed c.receive.new.feed c.loop-alloc.invariant.gathering c.in-Ok.ensures.got.1) c.in-Answer.ensures.reads

pub returns-in-Wrong-clause-answered : goal.returns-in-Wrong-clause-answered
returns-in-Wrong-clause-answered g c =
    gathered_wrong c.args.key (g.S.Slot.log c.args.slot.now) (g.S.Slot.log c.receive.new.slot) (g.S.Slot.log c.stop.new.self) c.receive.new.feed.kept
    (gather_more (g.S.Slot.log c.args.slot.now) (g.S.Slot.log c.loop-alloc.slot) (g.S.Slot.log c.receive.new.slot) c.loop-alloc.feed c.receive.new.feed c.loop-alloc.invariant.gathering c.in-Ok.ensures.got.1) c.in-Wrong.ensures.reads c.stop.ensures.log
