use Rattle.std.proofs.Common.{◌+◌, [], ◌∷◌, ◌++◌, take, drop, refl, arith}
use Rattle.foz_entry.specs.declared.cut.Entry.{Entry}
use Rattle.foz_entry.proofs.Heads.{length-whole}
use Rattle.foz_archive.proofs.Standing.{goes_on, goes_on_none}
use Rattle.foz_archive.proofs.scanned.end_of_row.Goals as goal

pub split_at-requires : goal.split_at-requires
split_at-requires c = omega (arith, length-whole _ _ _ _ c.in-Some.ensures.found)

pub loop-head-preserved : goal.loop-head-preserved
loop-head-preserved c =
    let head = c.in-Some.head in
    let rest = c.loop-head.left.now in
    let read = c.loop-head.invariant.read in
    let entry : Entry = record { offset = c.loop-head.place; head = head; payload = take head.size (drop 56 rest) } in
    let next = rw (← c.split_at.ensures.back) at c.in-Some.ensures.found in
    record {
      read = (read.0 ++ entry ∷ [], goes_on c.args.from c.args.bytes.now read.0 c.loop-head.place (c.loop-head.place + head.total) rest c.split_at.result.1.now entry read.1 refl next refl);
      placed = omega (arith, c.split_at.ensures.back_len);
    }

pub returns : goal.returns
returns c =
    let read = c.loop-head.invariant.read in
    (read.0, goes_on_none c.args.from c.args.bytes.now read.0 c.loop-head.place c.loop-head.left.now read.1 c.in_default.ensures.none)
