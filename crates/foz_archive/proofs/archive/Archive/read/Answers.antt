use Rattle.std.proofs.Common.{List, ℕ, sym, subst}
use Rattle.foz_archive.specs.Opened.{Begins}
use Rattle.foz_archive.proofs.Opened.{begins_hold}
use Rattle.foz_archive.proofs.archive.Archive.read.Goals as goal

pub invariant_of-result : goal.invariant_of-result
invariant_of-result g c =
    let start = c.in-Ok.start in
    let read = c.in-Ok.ensures.start in (
      record {
        begins = λ told. subst (λ (l : List ℕ). Begins start.is_new l start.entries start.end) (sym (c.in-Ok.ensures.content told)) (read.begins told);
        some_file = read.some_file;
        batch = read.batch;
      },
      c.in-Ok.ensures.durable,
    )

pub returns-in-Ok-clause-held : goal.returns-in-Ok-clause-held
returns-in-Ok-clause-held g c told =
    let start = c.in-Ok.start in
    let read = c.in-Ok.ensures.start in
    begins_hold start.is_new (g.D.Disk.content c.args.disk) start.entries start.end (read.begins told)
