use Rattle.std.proofs.Common.{◌≡◌, ◌++◌, map, take}
use Rattle.std.specs.List.{flat_map}
use Rattle.state_words.specs.References.{with_tag}
use Rattle.state_words.proofs.references.put_samplers.Given as goal

abbrev pub invariant-loop-binding : goal.invariant-loop-binding
invariant-loop-binding l = l.refs ≡ l.initial.refs ++ flat_map (λ binding. map (with_tag 1) binding.immutable_samplers) (take l.binding-index l.fn.layout.bindings)
