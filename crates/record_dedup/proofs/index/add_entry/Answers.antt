use Rattle.std.proofs.Common.{◌≡◌, Bool, true, false, is_some, is_ok, Option, None, Some, List, ℕ, Result, refl, sym, ap, ◌∙◌}
use Rattle.indexmap.specs.IndexMap.{get}
use Rattle.foz_words.specs.contracts.key.KeyPartialEq.TheImpl as KeyPartialEq
use Rattle.foz_entry.specs.declared.cut.Entry.{Entry}
use Rattle.foz_entry.specs.declared.damage.EntryCause.{EntryCause}
use Rattle.foz_entry.specs.Damage.{damage, ok_unless}
use Rattle.foz_entry.specs.Entries.{is_undamaged}
use Rattle.record_dedup.proofs.index.add_entry.Goals as goal
use Rattle.record_dedup.proofs.index.add_entry.Goals.{else-is_ok-via-then-is_ok+else-not-contains_key, else-is_ok-via-else-is_ok}

none_of : (o : Option ℕ) → false ≡ is_some o → o ≡ None
none_of None e = refl
none_of (Some i) e = absurd cc

-- what the check of the entry says of it
judged : (entry : Entry) (payload : List ℕ) (r : Result (Unit {0}) EntryCause) (b : Bool) → is_ok (ok_unless (damage entry.head entry.payload)) ≡ is_undamaged entry
    → payload ≡ entry.payload → r ≡ ok_unless (damage entry.head payload) → b ≡ is_ok r → is_undamaged entry ≡ b
judged entry payload r b checked same answered is =
    sym checked ∙ (ap (λ (p : List ℕ). is_ok (ok_unless (damage entry.head p))) (sym same) ∙ (ap is_ok (sym answered) ∙ sym is))

pub returns-in_ok-insert : goal.returns-in_ok-insert
returns-in_ok-insert c = λ before long indexed.
    let entry = c.args.entry.now in
    let checked = c.first_of_its_key_holds_it.ensures.checked entry in
    c.indexes_grow.ensures.first (get KeyPartialEq.ghosts.eq c.args.index.now) (get KeyPartialEq.ghosts.eq c.insert.new.self) before entry c.args.place indexed
    (judged entry c.as_slice.result.now c.check.result true checked c.as_slice.ensures c.check.ensures c.if-is_ok.ensures.value)
    (none_of (get KeyPartialEq.ghosts.eq c.args.index.now entry.head.key) c.if-not-contains_key.ensures)
    long c.in_ok-insert.ensures.updates.0

pub returns-else-is_ok : goal.returns-else-is_ok
returns-else-is_ok c = λ before long indexed.
    let entry = c.args.entry.now in
    let look_up = get KeyPartialEq.ghosts.eq c.args.index.now in
    let checked = c.first_of_its_key_holds_it.ensures.checked entry in
    elim c.else-is_ok.branch [
      | else-is_ok-via-then-is_ok+else-not-contains_key w ↦ c.indexes_grow.ensures.held look_up before entry indexed (sym w.if-not-contains_key.ensures)
      | else-is_ok-via-else-is_ok w ↦ c.indexes_grow.ensures.damaged look_up before entry indexed
          (judged entry c.as_slice.result.now c.check.result false checked c.as_slice.ensures c.check.ensures w.if-is_ok.ensures.value)
    ]
