use Rattle.std.proofs.Common.{◌≡◌, ◌<◌, subst, sym, ap, ◌∙◌, refl}
use Rattle.replay_core.specs.declared.event.Event.TheVariants.{Start}
use Rattle.replay_core.specs.declared.event.SlotState.TheVariants.{Idle}
use Rattle.replay_core.specs.Runs.{Setup, NoMiss, AllDecided, Allowed, slot_at}
use Rattle.replay_core.specs.Histories.{History}
use Rattle.replay_core.specs.Turns.{state_told, IsFoundedWork, AddsMisses, TakesTurn}
use Rattle.replay_core.specs.Plans.{Founded}
use Rattle.replay_core.proofs.Grounds.{ready_founded}
use Rattle.replay_core.proofs.Turning.{no_miss_after_start, undecided_after_start}
use Rattle.replay_core.proofs.Queueing.{kept_quiet}
use Rattle.replay_core.proofs.Settled.{settled_no_miss, settled_no_start, kept_taken, idle_told, asks_on, setup_on, started_holds, started_not_waiting}
use Rattle.replay_core.proofs.scheduler.Core.next.Goals as goal
use Rattle.replay_core.proofs.scheduler.Core.next.Goals.{After-settle, In-Some, In_default, then-all_decided, else-all_decided}

asks : (c : After-settle) → (c.args.slot < c.settle.new.story.setup.slots) × (slot_at c.settle.new.story.events c.args.slot ≡ Idle)
asks c = asks_on c.self.inside.record c.args.self.now c.settle.new.story c.args.slot c.self.view_is c.requires.inside c.requires.idle c.settle.ensures.misses

misses : (c : After-settle) → AddsMisses c.args.self.now c.settle.new.story
misses c = subst (λ (h : History). AddsMisses h c.settle.new.story) c.self.view_is c.settle.ensures.misses

no_miss : (c : After-settle) → NoMiss c.settle.new.story.setup c.settle.new.story.events
no_miss c = settled_no_miss c.settle.new.story c.settle.new.queues c.settle.ensures.kept c.settle.ensures.done

pub add-requires : goal.add-requires
add-requires c = let at = asks (goal.at.add-requires c).After-settle in record { slot = at.0; idle = at.1; waiting = c.in-Some.ensures.waits; met = c.in-Some.ensures.met }

may_start : (a : After-settle) (c : In-Some) → Allowed c.settle.new.story.setup c.settle.new.story.events (Start c.args.slot c.in-Some.item)
may_start a c = let at = asks_on c.self.inside.record c.args.self.now c.settle.new.story c.args.slot c.self.view_is c.requires.inside c.requires.idle c.settle.ensures.misses in record { slot = at.0; idle = at.1; waiting = c.in-Some.ensures.waits; met = c.in-Some.ensures.met }

pub invariant_of-self : goal.invariant_of-self
invariant_of-self c =
    let at = goal.at.invariant_of-self c in
    kept_taken c.add.new.self c.first_ready.new.queues c.in-Some.item
    (kept_quiet c.settle.new.story c.add.new.self c.first_ready.new.queues (Start c.args.slot c.in-Some.item) c.in-Some.ensures.kept (may_start at.After-settle at.In-Some) (λ j. refl) c.add.ensures.added)
    c.in-Some.ensures.inside c.in-Some.ensures.first (started_not_waiting c.settle.new.story c.add.new.self c.args.slot c.in-Some.item c.add.ensures.added)

pub returns-in-Some-clause-turn : goal.returns-in-Some-clause-turn
returns-in-Some-clause-turn c =
    let at = goal.at.returns-in-Some-clause-turn c in
    record { between = c.settle.new.story; misses = misses at.After-settle; no_miss = no_miss at.After-settle; told = (may_start at.After-settle at.In-Some, c.add.ensures.added) }

pub returns-in-Some-clause-no_miss : goal.returns-in-Some-clause-no_miss
returns-in-Some-clause-no_miss c =
    let at = goal.at.returns-in-Some-clause-no_miss c in
    subst (λ (h : History). NoMiss h.setup h.events) (sym c.add.ensures.added)
    (no_miss_after_start c.settle.new.story.setup c.settle.new.story.events c.args.slot c.in-Some.item (no_miss at.After-settle) (may_start at.After-settle at.In-Some))

pub returns-in-Some-clause-finished : goal.returns-in-Some-clause-finished
returns-in-Some-clause-finished c =
    let at = goal.at.returns-in-Some-clause-finished c in (
      λ e. cc,
      λ all. absurd (undecided_after_start c.settle.new.story.setup c.settle.new.story.events c.args.slot c.in-Some.item (may_start at.After-settle at.In-Some)
          (subst (λ (h : History). AllDecided h.setup h.events) c.add.ensures.added all)),
    )

pub returns-clause-no_miss : goal.returns-clause-no_miss
returns-clause-no_miss c = no_miss (goal.at.returns-clause-no_miss c).After-settle

pub returns-clause-turn : goal.returns-clause-turn
returns-clause-turn c =
    let at = goal.at.returns-clause-turn c in
    let h = c.settle.new.story in
    let ask = asks at.After-settle in
    let none = no_miss at.After-settle in
    let no_start = settled_no_start h c.first_ready.new.queues c.args.slot c.in_default.ensures.kept c.in_default.ensures.done c.in_default.ensures.none in
    elim c.if-all_decided.branch [
      | then-all_decided w ↦
          subst (λ r. TakesTurn c.args.self.now c.args.slot r h) (sym w.result-is)
          (record { between = h; misses = misses at.After-settle; no_miss = none; told = (w.if-all_decided.ensures.all.0 refl, refl) })
      | else-all_decided w ↦ (
          let idle = idle_told h c.args.slot c.settle.ensures.kept.run ask.0 ask.1 no_start none (λ all. let wrong = w.if-all_decided.ensures.all.1 all in cc) w.if-all_decided.ensures.hands in
          subst (λ r. TakesTurn c.args.self.now c.args.slot r h) (sym w.result-is)
          (record { between = h; misses = misses at.After-settle; no_miss = none; told = (no_start, idle.0, idle.1, refl) }))
    ]

pub returns-in-Some-clause-slot : goal.returns-in-Some-clause-slot
returns-in-Some-clause-slot c = started_holds c.settle.new.story c.add.new.self c.args.slot c.in-Some.item c.add.ensures.added

pub returns-clause-slot : goal.returns-clause-slot
returns-clause-slot c =
    let ask = asks (goal.at.returns-clause-slot c).After-settle in
    elim c.if-all_decided.branch [
      | then-all_decided w ↦ ask.1 ∙ ap state_told (sym w.result-is)
      | else-all_decided w ↦ ask.1 ∙ ap state_told (sym w.result-is)
    ]

pub returns-in-Some-clause-founded : goal.returns-in-Some-clause-founded
returns-in-Some-clause-founded c =
    let at = goal.at.returns-in-Some-clause-founded c in
    subst (λ (s : Setup). Founded s.plan c.in-Some.item) (setup_on c.self.inside.record c.args.self.now c.settle.new.story c.self.view_is c.settle.ensures.misses)
    (ready_founded c.settle.new.story.setup c.settle.new.story.events c.in-Some.item c.settle.ensures.kept.run c.in-Some.ensures.waits.in_plan c.in-Some.ensures.met)

pub returns-clause-founded : goal.returns-clause-founded
returns-clause-founded c =
    elim c.if-all_decided.branch [
      | then-all_decided w ↦ subst (IsFoundedWork c.args.self.now.setup.plan) (sym w.result-is) tt
      | else-all_decided w ↦ subst (IsFoundedWork c.args.self.now.setup.plan) (sym w.result-is) tt
    ]
