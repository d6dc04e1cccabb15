use Rattle.std.proofs.Common.{◌≡◌, List, ℕ, length, sym, ap, subst, arith}
use Rattle.std.proofs.lemmas.List.{take_all}
use Rattle.gate_append.specs.Gate.{IsAtRest}
use Rattle.foz_entry.specs.declared.cut.Entry.{Entry}
use Rattle.foz_archive.specs.Kept.{IsSettled}
use Rattle.foz_archive.specs.Reading.{SomeFileHolds, writing}
use Rattle.foz_archive.proofs.Held.{end_within}
use Rattle.foz_archive.proofs.Opened.{gate_mends, opened_settled, none_waits}
use Rattle.foz_archive.proofs.opening.go_on.Goals as goal

pub open_at-requires-clause-room : goal.open_at-requires-clause-room
open_at-requires-clause-room g c = let near = c.requires.some_file.accepted.near in omega arith

pub open_at-requires-clause-within : goal.open_at-requires-clause-within
open_at-requires-clause-within g c told =
    let accepted = c.requires.accepted told in end_within writing (g.D.Disk.content c.args.disk) c.args.start.entries c.args.start.end accepted.reads

module _ (g : _) (c : goal.In-Ok g) where
  at : c.args.start.end ≡ c.in-Ok.gate.end
  at = sym c.in-Ok.ensures.ok.1

  settled_at : IsSettled g.D.Disk.tells_content g.D.Disk.tells_images (g.D.Disk.content c.in-Ok.gate.disk) (g.D.Disk.history c.in-Ok.gate.disk) c.args.start.entries c.in-Ok.gate.end
  settled_at =
      let d = g.D.Disk in
      subst (λ (n : ℕ). IsSettled d.tells_content d.tells_images (d.content c.in-Ok.gate.disk) (d.history c.in-Ok.gate.disk) c.args.start.entries n) at
      (opened_settled d.tells_content d.tells_images (d.content c.args.disk) (d.content c.in-Ok.gate.disk) (d.history c.in-Ok.gate.disk) c.args.start.entries c.args.start.end c.requires.accepted c.in-Ok.ensures.content
      (subst (λ (n : ℕ). IsAtRest d.tells_content d.tells_images (d.content c.in-Ok.gate.disk) (d.history c.in-Ok.gate.disk) n) (sym at) c.in-Ok.ensures.at_rest))

pub invariant_of-result : goal.invariant_of-result
invariant_of-result g c =
    let d = g.D.Disk in (
      λ whole. subst (λ (es : List Entry). IsSettled d.tells_content d.tells_images (d.content c.in-Ok.gate.disk) (d.history c.in-Ok.gate.disk) es c.in-Ok.gate.end)
          (sym (take_all c.len-flushed.result c.args.start.entries (omega (arith, c.len-flushed.ensures)))) (settled_at g c),
      none_waits c.args.start.entries c.in-Ok.gate.end c.len-flushed.result c.args.start.batch.items c.requires.gate c.len-flushed.ensures,
      subst (SomeFileHolds c.args.start.entries) (omega (arith, c.in-Ok.ensures.ok.1, ap length c.requires.gate)) c.requires.some_file,
    )

pub returns-in-Ok-clause-settled : goal.returns-in-Ok-clause-settled
returns-in-Ok-clause-settled g c =
    let d = g.D.Disk in
    subst (λ (n : ℕ). IsSettled d.tells_content d.tells_images (d.content c.in-Ok.gate.disk) (d.history c.in-Ok.gate.disk) c.args.start.entries n) (omega (arith, ap length c.requires.gate)) (settled_at g c)

pub returns-in-Ok-clause-mends : goal.returns-in-Ok-clause-mends
returns-in-Ok-clause-mends g c =
    let d = g.D.Disk in
    gate_mends d.tells_content d.tells_images g.met.D.Disk.tells_both d.content d.history _ _ c.args.start.entries c.args.start.end c.requires.accepted
    c.in-Ok.ensures.any_moment c.in-Ok.ensures.untouched c.in-Ok.ensures.only_read

pub returns-in-Err-clause-mends : goal.returns-in-Err-clause-mends
returns-in-Err-clause-mends g c =
    let d = g.D.Disk in
    gate_mends d.tells_content d.tells_images g.met.D.Disk.tells_both d.content d.history _ _ c.args.start.entries c.args.start.end c.requires.accepted
    c.in-Err.ensures.any_moment c.in-Err.ensures.untouched c.in-Err.ensures.only_read
