use Rattle.std.proofs.Common.{arith}
use Rattle.report_words.proofs.Fronts.{all_front}
use Rattle.foz_text.proofs.HashLines.{hashed_none, all_hashed}
use Rattle.foz_text.proofs.hash_text.push_lines.Goals as goal

pub loop-line-init : goal.loop-line-init
loop-line-init c = record {
  so_far = hashed_none c.args.capture.now c.args.out.now.items;
  front = all_front c.args.out.now.items;
  counted = omega arith;
}

pub returns-clause-text : goal.returns-clause-text
returns-clause-text c = (all_hashed _ _ _ c.loop-line.rest.now _ _ c.in_default.ensures.none c.loop-line.invariant.so_far).0

pub returns-clause-readable : goal.returns-clause-readable
returns-clause-readable c = (all_hashed _ _ _ c.loop-line.rest.now _ _ c.in_default.ensures.none c.loop-line.invariant.so_far).1
