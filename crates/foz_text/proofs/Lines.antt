-- The lines of a list, one after the other.
use Rattle.std.proofs.Common.{◌≡◌, ℕ, ◌+◌, ◌<◌, ◌≤◌, Bool, true, false, ◌&&◌, List, [], ◌∷◌, ◌++◌, length, get_or, take, drop, refl, sym, ap, ◌∙◌, append_assoc, append-nil}
use Rattle.std.proofs.lemmas.List.{take_more, drop_more, drop_all}
use Rattle.foz_entry.specs.declared.cut.Entry.{Entry}
use Rattle.foz_archive.specs.declared.scanned.Scanned.{Scanned}
use Rattle.foz_text.specs.ListText.{line, is_sound, lines_after, are_sound_after, last_line, list_text, is_flawless}

-- the lines written, and those still to write, are the whole
pub record AreLinesTo (entries : List Entry) (start written : List ℕ) (sound : Bool) (i : ℕ) : Type 0 where
  pub text : written ++ lines_after (take i entries) (drop i entries) ≡ start ++ lines_after [] entries
  pub flawless : (sound && are_sound_after (take i entries) (drop i entries)) ≡ are_sound_after [] entries

and_assoc : (a b c : Bool) → (a && (b && c)) ≡ ((a && b) && c)
and_assoc true b c = refl
and_assoc false b c = refl

and_true : (a : Bool) → (a && true) ≡ a
and_true true = refl
and_true false = refl

pub lines_more : (entries : List Entry) (start written more : List ℕ) (sound next : Bool) (i : ℕ) (e : Entry) → i < length entries → e ≡ get_or entries i e
    → more ≡ written ++ line (take i entries) e → next ≡ is_sound (take i entries) e
    → AreLinesTo entries start written sound i → AreLinesTo entries start more (sound && next) (i + 1)
lines_more entries start written more sound next i e lt is text says so_far =
    let head : drop i entries ≡ e ∷ drop (i + 1) entries = drop_more entries i e lt ∙ ap (λ (x : Entry). x ∷ drop (i + 1) entries) (sym is) in
    let front : take (i + 1) entries ≡ take i entries ++ e ∷ [] = take_more entries i e lt ∙ ap (λ (x : Entry). take i entries ++ x ∷ []) (sym is) in
    record {
      text = rw (front, text, append_assoc written (line (take i entries) e) (lines_after (take i entries ++ e ∷ []) (drop (i + 1) entries))) (rw head at so_far.text);
      flawless = rw (front, says, ← and_assoc sound (is_sound (take i entries) e) (are_sound_after (take i entries ++ e ∷ []) (drop (i + 1) entries))) (rw head at so_far.flawless);
    }

pub all_lines : (entries : List Entry) (start written : List ℕ) (sound : Bool) (i : ℕ) → length entries ≤ i → AreLinesTo entries start written sound i
    → (written ≡ start ++ lines_after [] entries) × (sound ≡ are_sound_after [] entries)
all_lines entries start written sound i le so_far =
    (sym (append-nil written) ∙ rw (drop_all i entries le) at so_far.text, sym (and_true sound) ∙ rw (drop_all i entries le) at so_far.flawless)

pub list_text_is : (start lines text : List ℕ) (scanned : Scanned) → lines ≡ start ++ lines_after [] scanned.entries → text ≡ lines ++ last_line scanned → text ≡ start ++ list_text scanned
unfolding list_text
list_text_is start lines text scanned a b = b ∙ ap (λ (x : List ℕ). x ++ last_line scanned) a ∙ append_assoc start (lines_after [] scanned.entries) (last_line scanned)

pub is_flawless_is : (scanned : Scanned) (sound : Bool) → sound ≡ are_sound_after [] scanned.entries → sound ≡ is_flawless scanned
unfolding is_flawless
is_flawless_is scanned sound e = e
