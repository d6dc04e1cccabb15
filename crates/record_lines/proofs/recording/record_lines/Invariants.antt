use Rattle.std.proofs.Common.{◌≡◌, ◌<◌, ◌≤◌, ◌+◌, length, false}
use Rattle.record_lines.specs.Batches.{AreDurable, LeavesBatches}
use Rattle.record_lines.proofs.SoFar.{IsSoFar}
use Rattle.record_lines.proofs.recording.record_lines.Given as goal

abbrev pub invariant-loop-answers : goal.invariant-loop-answers
invariant-loop-answers g l = record {
  so_far : IsSoFar l.fn.book.entries l.book.entries (g.L.Lines.rest l.fn.lines) (g.L.Lines.rest l.lines) l.number l.answers l.book.flushed l.unwritten;
  images : g.D.Disk.tells_images → AreDurable (g.D.Disk.history l.fn.book.disk) l.fn.book.entries
      → LeavesBatches l.fn.book.entries (g.L.Lines.rest l.fn.lines) (g.D.Disk.history l.fn.book.disk) (g.D.Disk.history l.book.disk);
  whole : l.book.broken ≡ false;
  few : l.unwritten < 64;
  wait : length l.book.entries ≤ l.book.flushed + l.unwritten;
  began : l.book.began ≡ l.fn.book.began;
  opened : l.book.opened ≡ l.fn.book.opened;
  later : g.D.Disk.faults l.fn.book.disk ≤ g.D.Disk.faults l.book.disk;
}

abbrev pub decreases-loop-answers : goal.decreases-loop-answers
decreases-loop-answers g l = length (g.L.Lines.rest l.lines)
