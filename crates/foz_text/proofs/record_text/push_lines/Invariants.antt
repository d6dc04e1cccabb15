use Rattle.std.proofs.Common.{◌≡◌, ◌++◌, take}
use Rattle.std.specs.List.{flat_map}
use Rattle.foz_text.specs.RecordText.{record_line}
use Rattle.foz_text.proofs.record_text.push_lines.Given as goal

abbrev pub invariant-loop-answered : goal.invariant-loop-answered
invariant-loop-answered g l = record {
  text : l.out.items ≡ l.fn.out.items ++ flat_map (record_line g.C.CauseText.text) (take l.answered-index l.answers);
}
