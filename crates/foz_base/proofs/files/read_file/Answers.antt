use Rattle.std.proofs.Common.{ap, subst, List, ℕ}
use Rattle.foz_archive.specs.Reading.{IsReading}
use Rattle.foz_base.specs.Outside.{file_of}
use Rattle.foz_base.proofs.Taken.{found_to_read, only_read, stored_back}
use Rattle.foz_base.proofs.files.read_file.Goals as goal

pub returns-in-Ok-scanned-clause-reads : goal.returns-in-Ok-scanned-clause-reads
returns-in-Ok-scanned-clause-reads g c = λ shelf told.
    let read = c.in-Ok-scanned.ensures.read in
    record {
      bytes = g.F.Held.Disk.content c.in-Ok.disk;
      is_there = ap (file_of g.F.Held.Disk.content) (found_to_read _ _ _ (c.in-Ok.ensures.taken shelf));
      reading = subst (λ (bytes : List ℕ). IsReading bytes c.in-Ok-scanned.scanned) (read.is_content told) read.reading;
    }

pub returns-in-Ok-scanned-clause-only_read : goal.returns-in-Ok-scanned-clause-only_read
returns-in-Ok-scanned-clause-only_read g c = λ shelf told.
    only_read g.F.Held.Disk.tells_images g.F.Held.Disk.content g.F.Held.Disk.history g.F.Held.Disk.faults (g.F.Shelf.places c.args.files.now) (g.F.Shelf.places c.put_back.new.self)
    (g.F.Shelf.faults c.args.files.now) (g.F.Shelf.faults c.put_back.new.self) c.args.name.now c.in-Ok.disk _ (found_to_read _ _ _ (c.in-Ok.ensures.taken shelf)) (stored_back _ _ _ _ (c.put_back.ensures.back shelf))
    (c.read_disk-scanned.ensures.content told) c.read_disk-scanned.ensures.images

pub returns-in-Ok-scanned-clause-bounded : goal.returns-in-Ok-scanned-clause-bounded
returns-in-Ok-scanned-clause-bounded g c =
    let read = c.in-Ok-scanned.ensures.read in
    let law = c.entries_are_bounded.ensures in
    record {
      few = law.few _ _ _ _ read.reading.accepted;
      within = rw read.reading.length (law.within _ _ _ _ read.reading.accepted);
      sized = law.sized _ _ _ _ read.reading.accepted;
    }
