use Rattle.std.proofs.Common.{◌≡◌, ◌∷◌, [], List, refl, sym, subst, arith, rules}
use Rattle.foz_entry.specs.declared.cut.Entry.{Entry}
use Rattle.foz_archive.specs.Reading.{SomeFileHolds}
use Rattle.foz_archive.proofs.Opened.{refused_is_new, new_some_file}
use Rattle.foz_archive.proofs.opening.start_of_unread.Goals as goal

pub returns-clause-start : goal.returns-clause-start
returns-clause-start g c =
    let gate : c.in_ok-vec.field-0.items ≡ 0 ∷ [] = search rules in
    record {
      begins = λ told. (refused_is_new (g.D.Disk.content c.args.disk.now) c.args.error (c.requires.unread told) (omega (arith, c.if-branch.false, c.in_ok-len.ensures.length told)), c.new.ensures, refl);
      some_file = subst (λ (entries : List Entry). SomeFileHolds entries 16) (sym c.new.ensures) new_some_file;
      batch = gate;
    }
