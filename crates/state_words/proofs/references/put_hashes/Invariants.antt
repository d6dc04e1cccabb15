use Rattle.std.proofs.Common.{◌≡◌, ◌++◌, map, take}
use Rattle.state_words.specs.References.{with_tag}
use Rattle.state_words.proofs.references.put_hashes.Given as goal

abbrev pub invariant-loop-hash : goal.invariant-loop-hash
invariant-loop-hash l = l.refs ≡ l.initial.refs ++ map (with_tag l.tag) (take l.hash-index l.hashes)
