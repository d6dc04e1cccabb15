use Rattle.std.proofs.Common.{◌≡◌, ◌++◌, map, take}
use Rattle.state_words.specs.References.{with_tag}
use Rattle.state_words.proofs.references.put_graphics.Given as goal

abbrev pub invariant-loop-stage : goal.invariant-loop-stage
invariant-loop-stage l = l.refs ≡ l.initial.refs ++ map (λ stage. with_tag 4 stage.«module») (take l.stage-index l.fn.pipeline.stages)
