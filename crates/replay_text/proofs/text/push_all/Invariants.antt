use Rattle.std.proofs.Common.{◌≡◌, ◌++◌}
use Rattle.std.specs.List.{flat_map, range_with_len}
use Rattle.replay_text.specs.Lines.{line_at}
use Rattle.replay_text.proofs.text.push_all.Given as goal

abbrev pub invariant-loop-index : goal.invariant-loop-index
invariant-loop-index l = record {
  text : l.out.items ≡ l.fn.out.items ++ flat_map (line_at l.entries l.graph l.verdicts) (range_with_len 0 l.index);
}
