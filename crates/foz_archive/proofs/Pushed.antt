-- One entry more after those that wait.
use Rattle.std.proofs.Common.{◌≡◌, ℕ, ◌+◌, ◌-◌, ◌≤◌, ◌<◌, ◌^◌, List, [], ◌∷◌, ◌++◌, length, take, drop, refl, sym, ◌∙◌, ap, subst, arith, length-append}
use Rattle.std.proofs.lemmas.List.{take_at, take-append-le, drop-append-le}
use Rattle.disk_model.specs.Disk.{History}
use Rattle.foz_words.specs.declared.key.Key.{Key}
use Rattle.foz_crc.specs.Crc32.{crc32_of}
use Rattle.foz_entry.specs.declared.cut.Cut.{Cut}
use Rattle.foz_entry.specs.declared.cut.Entry.{Entry}
use Rattle.foz_entry.specs.Entries.{entry_of}
use Rattle.foz_entry.specs.Spelling.{head_text, head_of, stored_head}
use Rattle.foz_entry.proofs.Names.{spelled_whole, length-head_text}
use Rattle.foz_archive.specs.Reading.{InRow, SomeFileHolds}
use Rattle.foz_archive.specs.Kept.{IsSettled, IsWaiting}
use Rattle.foz_archive.specs.Pushed.{HasRoom}
use Rattle.foz_archive.proofs.Held.{batch_accepted}
use Rattle.foz_archive.proofs.Rows.{Row, row_of, rows_join}

module _ (end : ℕ) (batch : List ℕ) (entries : List Entry) (flushed : ℕ) (waiting : IsWaiting end batch entries flushed) (key : Key) (payload : List ℕ)
    (tag : key.tag < 2 ^ 32) (hash : key.hash < 2 ^ 64) (fits : crc32_of payload < 2 ^ 32) (room : HasRoom (end + (length batch - 1)) (length entries) (length payload)) where
  abbrev next : ℕ
  next = end + (length batch - 1)

  abbrev entry : Entry
  entry = entry_of next key payload

  -- the entry, and the gate after it
  abbrev tail : List ℕ
  tail = head_text (head_of key payload) ++ (payload ++ 0 ∷ [])

  length-tail : length tail ≡ 56 + length payload + 1
  length-tail =
      omega (arith, length-append (head_text (head_of key payload)) (payload ++ 0 ∷ []), length-append payload (0 ∷ []), length-head_text key (crc32_of payload) (length payload) tag hash)

  tail_row : InRow next tail (entry ∷ []) (next + (56 + length payload)) (0 ∷ [])
  tail_row =
      let small = room.small in
      (refl, (0 ∷ [], spelled_whole key (crc32_of payload) payload (0 ∷ []) tag hash fits (omega (arith, small)), (refl, refl)))

  module _ (new : List ℕ) (is : new ≡ take (length batch - 1) batch ++ tail) where
    it : Row end batch (drop flushed entries) (end + (length batch - 1)) (0 ∷ [])
    it = row_of end batch (drop flushed entries) (end + (length batch - 1)) (0 ∷ []) waiting.row

    long : length batch ≡ length it.spelling + 1
    long = omega (arith, ap length it.is, length-append it.spelling (0 ∷ []))

    new_is : new ≡ it.spelling ++ tail
    new_is =
        let before : take (length batch - 1) batch ≡ it.spelling = ap (take (length batch - 1)) it.is ∙ take_at it.spelling (0 ∷ []) (length batch - 1) (omega (arith, long)) in
        is ∙ ap (λ (l : List ℕ). l ++ tail) before

    pub longer : length new ≡ length batch + (56 + length payload)
    longer = omega (arith, ap length new_is, length-append it.spelling tail, length-tail, long)

    pub new_end : end + (length new - 1) ≡ end + (length batch - 1) + (56 + length payload)
    new_end = omega (arith, longer, waiting.some)

    joined : InRow end (it.spelling ++ tail) (drop flushed entries ++ entry ∷ []) (next + (56 + length payload)) (0 ∷ [])
    joined =
        rows_join end next (next + (56 + length payload)) (it.spelling ++ tail) tail (0 ∷ []) (drop flushed entries) (entry ∷ []) (it.before tail) tail_row

    pub still_waiting : IsWaiting end new (entries ++ entry_of (end + (length batch - 1)) key payload ∷ []) flushed
    still_waiting = record {
      row =
          subst (λ (es : List Entry). InRow end new es (end + (length new - 1)) (0 ∷ [])) (sym (drop-append-le flushed entries (entry ∷ []) waiting.counted))
          (subst (λ (n : ℕ). InRow end new (drop flushed entries ++ entry ∷ []) n (0 ∷ [])) (sym new_end)
          (subst (λ (l : List ℕ). InRow end l (drop flushed entries ++ entry ∷ []) (next + (56 + length payload)) (0 ∷ [])) (sym new_is) joined));
      some = omega (arith, longer);
      counted = omega (arith, length-append entries (entry ∷ []), waiting.counted);
    }

    pub still_in_a_file : SomeFileHolds entries (end + (length batch - 1)) → SomeFileHolds (entries ++ entry_of (end + (length batch - 1)) key payload ∷ []) (end + (length new - 1))
    still_in_a_file some_file =
        let few = room.few in
        let near = room.near in
        subst (SomeFileHolds (entries ++ entry ∷ [])) (sym new_end)
        (record {
          file = take next some_file.file ++ tail;
          accepted = batch_accepted some_file.file entries next some_file.accepted (entry ∷ []) tail (next + (56 + length payload)) tail_row near (omega (arith, length-append entries (entry ∷ []), few));
        })

-- the entry that is made is the one that is promised
pub entry_is : (offset place : ℕ) (head : Cut) (kept payload : List ℕ) (key : Key) (crc : ℕ) → offset ≡ place → head ≡ stored_head key crc (length payload) → crc ≡ crc32_of payload → kept ≡ payload
    → record { offset = offset; head = head; payload = kept } ≡ entry_of place key payload
entry_is offset place head kept payload key crc at heads crcs same =
    let head_is : head ≡ head_of key payload = heads ∙ ap (λ (n : ℕ). stored_head key n (length payload)) crcs in
    λ i. record { offset = at i; head = head_is i; payload = same i }

-- what stands in the file stays, whatever waits
pub settled_still : (tells_content tells_images : Type 0) (content : List ℕ) (history : History) (entries new added : List Entry) (flushed end : ℕ) → flushed ≤ length entries → new ≡ entries ++ added
    → IsSettled tells_content tells_images content history (take flushed entries) end → IsSettled tells_content tells_images content history (take flushed new) end
settled_still tells_content tells_images content history entries new added flushed end within is settled =
    subst (λ (es : List Entry). IsSettled tells_content tells_images content history es end) (sym (ap (take flushed) is ∙ take-append-le flushed entries added within)) settled
