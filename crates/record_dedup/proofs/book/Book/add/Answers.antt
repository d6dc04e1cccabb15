use Rattle.std.proofs.Common.{◌≡◌, ℕ, ◌++◌, ◌∷◌, [], length, None, sym, ap, subst, ◌∙◌}
use Rattle.indexmap.specs.IndexMap.{get}
use Rattle.foz_words.specs.contracts.key.KeyPartialEq.TheImpl as KeyPartialEq
use Rattle.foz_entry.specs.Entries.{end_of, entry_of}
use Rattle.foz_archive.specs.Kept.{Archived}
use Rattle.foz_archive.specs.Pushed.{HasRoom, with_entry}
use Rattle.record_words.specs.Entries.{holder}
use Rattle.record_words.specs.Index.{IsIndexOf}
use Rattle.record_words.proofs.History.{entry_sound}
use Rattle.record_dedup.specs.declared.ack.Ack.TheVariants.{New}
use Rattle.record_dedup.specs.Kept.{Booked, booked}
use Rattle.record_dedup.proofs.Answers.{ends_of}
use Rattle.record_dedup.proofs.Kept.{push_known}
use Rattle.record_dedup.proofs.book.Book.add.Goals as goal

pub push_with_room-requires-clause-room : goal.push_with_room-requires-clause-room
push_with_room-requires-clause-room g c =
    let i = c.self.inside in
    let size = length c.args.payload.now in
    subst (λ (n : ℕ). HasRoom n (length i.archive.entries) size) (sym (ends_of c.entries_are_bounded.ensures.end i.archive.entries i.archive.end c.self.invariant.1))
    (subst (λ (b : Booked _). HasRoom (end_of b.entries) (length b.entries) size) (sym c.self.view_is) c.requires.room)

pub invariant_of-self-2 : goal.invariant_of-self-2
invariant_of-self-2 g c =
    let i = c.self.inside in
    let d = g.D.Disk in
    let law = g.met.D.Disk in
    let new = c.push_with_room.new.self in
    let p = c.args.payload.now in
    let key = c.args.key in
    let added = c.in_ok-index.ensures.added in
    let entry = entry_of i.archive.end key p in
    let more : new.entries ≡ i.archive.entries ++ entry ∷ [] = ap (λ (a : Archived _). a.entries) added.1 in
    let old = get KeyPartialEq.ghosts.eq c.reserve.new.self in
    let grown = get KeyPartialEq.ghosts.eq c.insert.new.self in
    let free : holder key i.archive.entries ≡ None = ap (λ (b : Booked _). holder key b.entries) c.self.view_is ∙ c.requires.free in
    let still : IsIndexOf old i.archive.entries = (λ q. rw c.reserve.ensures.entries (c.self.invariant.2 q)) in
    let indexed : IsIndexOf grown (i.archive.entries ++ entry ∷ []) = c.indexes_grow.ensures.first old grown i.archive.entries entry c.in_ok-index.index still (entry_sound i.archive.end key p c.requires.room.small)
    (still key ∙ free) (sym added.0) c.in-Ok.ensures.updates.0 in (
      push_known d.tells_content d.tells_images d.content d.history d.faults law.tells_both law.content_is_now i.archive i.began.value i.opened c.self.invariant.0 new entry
          (ap (λ (b : Booked _). b.broken) c.self.view_is ∙ c.requires.whole) more
          (ap (λ (a : Archived _). a.disk) added.1) (ap (λ (a : Archived _). a.flushed) added.1) (ap (λ (a : Archived _). a.broken) added.1),
      c.in_ok-index.ensures.some_file,
      subst (IsIndexOf grown) (sym more) indexed,
    )

pub returns-clause-added : goal.returns-clause-added
returns-clause-added g c =
    let i = c.self.inside in
    let key = c.args.key in
    let p = c.args.payload.now in
    let added = c.in_ok-index.ensures.added in
    let at = ends_of c.entries_are_bounded.ensures.end i.archive.entries i.archive.end c.self.invariant.1 in (
      ap New (added.0 ∙ ap (λ (b : Booked _). length b.entries) c.self.view_is),
      ap (λ (a : Archived _). booked a i.began.value i.opened) added.1
          ∙ (ap (λ (n : ℕ). booked (with_entry i.archive (entry_of n key p)) i.began.value i.opened) at
          ∙ ap (λ (b : Booked _). record b { entries = b.entries ++ entry_of (end_of b.entries) key p ∷ [] }) c.self.view_is),
    )
