use Rattle.std.proofs.Common.{◌≡◌, ◌+◌, ◌-◌, ◌<◌, ◌^◌, ◌++◌, [], ◌∷◌, Bool, List, ℕ, length, take, sym, ap, subst, ◌∙◌, arith}
use Rattle.foz_crc.specs.Crc32.{crc32_of}
use Rattle.foz_entry.specs.declared.cut.Cut.{Cut}
use Rattle.foz_entry.specs.declared.cut.Entry.{Entry}
use Rattle.foz_entry.specs.Entries.{entry_of}
use Rattle.foz_entry.specs.Spelling.{head_text, head_of, stored_head}
use Rattle.foz_archive.specs.Reading.{SomeFileHolds}
use Rattle.foz_archive.specs.Kept.{Archived, IsWaiting}
use Rattle.foz_archive.specs.Pushed.{HasRoom, with_entry}
use Rattle.foz_archive.proofs.Pushed.{entry_is, settled_still, still_waiting, still_in_a_file, new_end}
use Rattle.foz_archive.proofs.archive.Archive.push_with_room.Goals as goal

module _ (g : _) (c : goal.After-lay_before_gate g) where
  abbrev place : ℕ
  place = c.self.inside.gate.end + (length c.self.inside.batch.items - 1)

  abbrev batch : List ℕ
  batch = c.self.inside.batch.items

  abbrev payload : List ℕ
  payload = c.args.payload.now

  abbrev new : List ℕ
  new = c.lay_before_gate.new.batch.items

  abbrev entry : Entry
  entry = entry_of place c.args.key payload

  room : HasRoom place (length c.self.inside.entries) (length payload)
  room = subst (λ (a : Archived _). HasRoom a.end (length a.entries) (length payload)) (sym c.self.view_is) c.requires.room

  head_is : c.stored_head-head.result ≡ head_of c.args.key payload
  head_is = c.stored_head-head.ensures ∙ ap (λ (n : ℕ). stored_head c.args.key n (length payload)) c.crc32.ensures

  entries_are : c.push.new.self ≡ c.self.inside.entries ++ entry ∷ []
  entries_are =
      c.in_ok-push.ensures.ok ∙ ap (λ (e : Entry). c.self.inside.entries ++ e ∷ [])
      (entry_is c.end-offset.result place c.stored_head-head.result c.from_vec-kept.result payload c.args.key c.crc32.result (c.end-offset.ensures.end ∙ sym (ap (λ (a : Archived _). a.end) c.self.view_is)) c.stored_head-head.ensures c.crc32.ensures
      (c.from_vec-kept.ensures ∙ c.in_ok-from_slice.ensures.items))

  new_is : new ≡ take (length batch - 1) batch ++ (head_text (head_of c.args.key payload) ++ (payload ++ 0 ∷ []))
  new_is =
      c.lay_before_gate.ensures
      ∙ (ap (λ (l : List ℕ). take (length l - 1) l ++ (head_text c.stored_head-head.result ++ (payload ++ 0 ∷ []))) c.reserve.ensures.items
      ∙ ap (λ (h : Cut). take (length batch - 1) batch ++ (head_text h ++ (payload ++ 0 ∷ []))) head_is)

  tag_fits : c.args.key.tag < 2 ^ 32
  tag_fits = omega arith

  hash_fits : c.args.key.hash < 2 ^ 64
  hash_fits = omega arith

  crc_fits : crc32_of payload < 2 ^ 32
  crc_fits = omega (arith, c.crc32.ensures, c.crc32.type_inv)

  some_file : SomeFileHolds c.push.new.self (c.self.inside.gate.end + (length new - 1))
  some_file =
      subst (λ (es : List Entry). SomeFileHolds es (c.self.inside.gate.end + (length new - 1))) (sym entries_are)
      (still_in_a_file c.self.inside.gate.end batch c.self.inside.entries c.self.inside.flushed c.self.invariant.1 c.args.key payload tag_fits hash_fits crc_fits room new new_is c.self.invariant.2)

pub invariant_of-self-2 : goal.invariant_of-self-2
invariant_of-self-2 g c =
    let i = c.self.inside in
    let waiting = c.self.invariant.1 in (
      λ whole. settled_still _ _ _ _ i.entries c.push.new.self (entry g c ∷ []) i.flushed i.gate.end waiting.counted (entries_are g c) (c.self.invariant.0 whole),
      subst (λ (es : List Entry). IsWaiting i.gate.end (new g c) es i.flushed) (sym (entries_are g c))
          (still_waiting i.gate.end i.batch.items i.entries i.flushed waiting c.args.key c.args.payload.now (tag_fits g c) (hash_fits g c) (crc_fits g c) (room g c) (new g c) (new_is g c)),
      some_file g c,
    )

view_of : {D : Type 0} (disk : D) (entries : List Entry) (flushed flushed_end end : ℕ) (broken : Bool) → Archived D
view_of disk entries flushed flushed_end end broken = record { disk = disk; entries = entries; flushed = flushed; flushed_end = flushed_end; end = end; broken = broken }

pub returns-clause-added : goal.returns-clause-added
unfolding view_of
returns-clause-added g c =
    let i = c.self.inside in
    let ends = new_end i.gate.end i.batch.items i.entries i.flushed c.self.invariant.1 c.args.key c.args.payload.now (tag_fits g c) (hash_fits g c) (crc_fits g c) (room g c) (new g c) (new_is g c) in (
      c.len-index.ensures ∙ ap (λ (a : Archived _). length a.entries) c.self.view_is,
      (λ j. view_of i.gate.disk (entries_are g c j) i.flushed i.gate.end (ends j) i.gate.broken)
          ∙ ap (λ (a : Archived _). with_entry a (entry_of a.end c.args.key c.args.payload.now)) c.self.view_is,
    )

pub returns-clause-some_file : goal.returns-clause-some_file
returns-clause-some_file g c = some_file g c
