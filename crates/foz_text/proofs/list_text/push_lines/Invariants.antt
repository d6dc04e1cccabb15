use Rattle.std.proofs.Common.{take}
use Rattle.foz_words.specs.contracts.key.KeyPartialEq.TheImpl as KeyPartialEq
use Rattle.report_words.specs.Fronts.{BeginsWith}
use Rattle.foz_text.specs.ListText.{AreKeysHeld}
use Rattle.foz_text.proofs.Lines.{AreLinesTo}
use Rattle.foz_text.proofs.list_text.push_lines.Given as goal

abbrev pub invariant-loop-entry : goal.invariant-loop-entry
invariant-loop-entry l = record {
  lines : AreLinesTo l.entry-items l.fn.out.items l.out.items l.flawless l.entry-index;
  front : BeginsWith l.fn.out.items l.out.items;
  seen : AreKeysHeld KeyPartialEq.ghosts.eq l.seen (take l.entry-index l.entry-items);
}
