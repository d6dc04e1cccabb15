use Rattle.slot_log.specs.Loads.{directly, further}
use Rattle.replay_crew.proofs.Walking.{founded_need, new_not_needed}
use Rattle.replay_crew.proofs.loader.lowest_new.Goals as goal

pub loop-lower-init : goal.loop-lower-init
loop-lower-init c = record {
  below = directly c.in_ok-lowest.lowest c.in_ok-lowest.ensures.needed;
  new = c.in_ok-lowest.ensures.new;
  inside = c.in_ok-lowest.ensures.inside;
  founded = founded_need c.args.plan.now c.args.item c.in_ok-lowest.lowest c.requires.founded c.in_ok-lowest.ensures.needed;
}

pub loop-lower-smaller : goal.loop-lower-smaller
loop-lower-smaller c = c.ranks_fall.ensures.falls c.args.plan.now c.loop-lower.lowest c.in-Some.ensures.needed.0 c.in-Some.lower c.loop-lower.invariant.founded c.in-Some.ensures.needed.1

pub loop-lower-preserved : goal.loop-lower-preserved
loop-lower-preserved c = record {
  below = further c.loop-lower.lowest c.in-Some.lower c.loop-lower.invariant.below c.in-Some.ensures.needed;
  new = c.in-Some.ensures.new;
  inside = c.in-Some.ensures.inside;
  founded = founded_need c.args.plan.now c.loop-lower.lowest c.in-Some.lower c.loop-lower.invariant.founded c.in-Some.ensures.needed;
}

pub returns-clause-all : goal.returns-clause-all
returns-clause-all c = λ all. absurd (new_not_needed c.args.plan.now c.args.created.now c.args.item c.in_ok-lowest.lowest all c.in_ok-lowest.ensures.needed c.in_ok-lowest.ensures.new)
