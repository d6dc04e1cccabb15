use Rattle.std.proofs.Common.{◌⊎◌, take, List, ℕ, subst, sym}
use Rattle.indexmap.specs.IndexMap.{get}
use Rattle.foz_words.specs.contracts.key.KeyPartialEq.TheImpl as KeyPartialEq
use Rattle.foz_entry.specs.declared.cut.Entry.{Entry}
use Rattle.foz_archive.specs.Reading.{Holds, SomeFileHolds}
use Rattle.disk_model.specs.Disk.{LeavesOnly}
use Rattle.record_words.specs.Index.{IsIndexOf}
use Rattle.record_dedup.specs.Kept.{Booked}
use Rattle.record_dedup.proofs.Kept.{commit_known, no_leaves, settled_written}
use Rattle.record_dedup.proofs.book.Book.flush.Goals as goal

pub invariant_of-self : goal.invariant_of-self
invariant_of-self g c =
    let i = c.self.inside in
    let d = g.D.Disk in
    let law = g.met.D.Disk in
    let e = c.commit.ensures in
    let new = c.commit.new.self in (
      commit_known d.tells_content d.tells_images d.content d.history d.faults law.tells_both law.content_is_now i.archive i.began.value i.opened c.self.invariant.0 new e.entries e.any_moment
          c.entries_are_bounded.ensures.end c.commit.result e.flushed e.broken e.settled e.cause,
      subst (λ (z : List Entry). SomeFileHolds z new.end) (sym e.entries) (subst (λ (n : ℕ). SomeFileHolds i.archive.entries n) (sym e.end) c.self.invariant.1),
      subst (IsIndexOf (get KeyPartialEq.ghosts.eq i.index)) (sym e.entries) c.self.invariant.2,
    )

pub invariant_of-self-2 : goal.invariant_of-self-2
invariant_of-self-2 g c =
    let i = c.self.inside in
    let d = g.D.Disk in
    let law = g.met.D.Disk in
    let e = c.commit.ensures in
    let new = c.commit.new.self in (
      commit_known d.tells_content d.tells_images d.content d.history d.faults law.tells_both law.content_is_now i.archive i.began.value i.opened c.self.invariant.0 new e.entries e.any_moment
          c.entries_are_bounded.ensures.end c.commit.result e.flushed e.broken e.settled e.cause,
      subst (λ (z : List Entry). SomeFileHolds z new.end) (sym e.entries) (subst (λ (n : ℕ). SomeFileHolds i.archive.entries n) (sym e.end) c.self.invariant.1),
      subst (IsIndexOf (get KeyPartialEq.ghosts.eq i.index)) (sym e.entries) c.self.invariant.2,
    )

pub returns-clause-any_moment : goal.returns-clause-any_moment
returns-clause-any_moment g c told =
    let d = g.D.Disk in
    subst (λ (b : Booked _). LeavesOnly (d.history b.disk) (d.history c.commit.new.self.disk) (λ bytes. Holds bytes (take b.flushed b.entries) ⊎ Holds bytes b.entries)) c.self.view_is (c.commit.ensures.any_moment told)

pub returns-in_err-commit-clause-any_moment : goal.returns-in_err-commit-clause-any_moment
returns-in_err-commit-clause-any_moment g c told =
    let d = g.D.Disk in
    subst (λ (b : Booked _). LeavesOnly (d.history b.disk) (d.history c.commit.new.self.disk) (λ bytes. Holds bytes (take b.flushed b.entries) ⊎ Holds bytes b.entries)) c.self.view_is (c.commit.ensures.any_moment told)

pub returns-then-is_broken-clause-any_moment : goal.returns-then-is_broken-clause-any_moment
returns-then-is_broken-clause-any_moment g c told =
    let d = g.D.Disk in
    subst (λ (b : Booked _). LeavesOnly (d.history b.disk) (d.history b.disk) (λ bytes. Holds bytes (take b.flushed b.entries) ⊎ Holds bytes b.entries)) c.self.view_is
    (no_leaves d.tells_content d.tells_images d.content d.history d.faults _ c.self.invariant.0 told)

pub returns-clause-written : goal.returns-clause-written
returns-clause-written g c =
    let d = g.D.Disk in
    settled_written c.entries_are_bounded.ensures.end d.tells_content d.tells_images _ _ _ _ c.in_ok-commit.ensures.settled
