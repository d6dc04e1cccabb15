use Rattle.std.proofs.Common.{refl, ap, ◌∙◌, set, subst, true}
use Rattle.disk_model.specs.Faults.{Rose}
use Rattle.replay_crew.specs.Jobs.{orders_of}
use Rattle.replay_crew.proofs.Loading.{load_none, load_more, loads_done, gone_at_load}
use Rattle.replay_crew.proofs.asking.load_all.Goals as goal

pub loop-load-init : goal.loop-load-init
loop-load-init g c = record { faults = refl; deaths = refl; running = c.requires.running; loading = load_none (orders_of c.args.jobs.now) c.args.loader.now c.args.item (g.S.Slot.log c.args.slot.now) c.requires.closed c.requires.items }

pub loop-load-preserved : goal.loop-load-preserved
loop-load-preserved g c = record {
  faults = c.send.ensures.faults ∙ c.loop-load.invariant.faults;
  deaths = c.in-Ok.ensures.sent.2 ∙ c.loop-load.invariant.deaths;
  running = c.in-Ok.ensures.sent.0;
  loading = load_more (orders_of c.args.jobs.now) c.args.loader.now c.args.item (g.S.Slot.log c.args.slot.now) (g.S.Slot.log c.loop-load.slot) (g.S.Slot.log c.send.new.slot) c.loop-load.loader c.mark.new.self c.in-Some.load c.loop-load.invariant.loading c.in-Some.ensures.below c.in-Some.ensures.inside c.in-Some.ensures.new c.in-Some.ensures.ready c.in-Ok.ensures.sent.1 (c.mark.ensures.marked ∙ ap (λ ms. set ms c.in-Some.load true) c.send.ensures.marks);
}

pub returns-clause-loaded : goal.returns-clause-loaded
returns-clause-loaded g c = (c.loop-load.invariant.running, loads_done (orders_of c.args.jobs.now) c.args.loader.now c.args.item (g.S.Slot.log c.args.slot.now) (g.S.Slot.log c.loop-load.slot) c.loop-load.loader c.loop-load.invariant.loading c.in_default.ensures.none, c.loop-load.invariant.deaths)

pub returns-in_default-send-clause-gone : goal.returns-in_default-send-clause-gone
returns-in_default-send-clause-gone g c =
    let gone = c.in_default-send.ensures.gone in
    (gone.0, gone_at_load (orders_of c.args.jobs.now) c.args.loader.now c.args.item (g.S.Slot.log c.args.slot.now) (g.S.Slot.log c.loop-load.slot) (g.S.Slot.log c.send.new.slot) c.loop-load.loader c.send.new.self c.loop-load.invariant.loading gone.1, subst (λ n. Rose n (g.S.Slot.deaths c.send.new.slot)) c.loop-load.invariant.deaths gone.2)
