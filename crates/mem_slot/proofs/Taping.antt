-- One more note on a tape.
use Rattle.std.proofs.Common.{ℕ, zero, suc, ◌≡◌, ◌+◌, ◌-◌, ◌<◌, ◌≤◌, Bool, true, false, List, [], ◌∷◌, ◌++◌, length, length-append, refl, ap, sym, ◌∙◌, inl, inr, arith, get_or, take, drop, replicate, append_assoc}
use Rattle.std.proofs.lemmas.Grind.{common_steps}
use Rattle.std.proofs.lemmas.Bool.{cases_lt}
use Rattle.std.proofs.lemmas.List.{append-nil, take_more, take_all, take-append-le, drop-append-le, length-drop}
use Rattle.mem_slot.specs.declared.tape.Stamp.{Stamp}
use Rattle.mem_slot.specs.Tapes.{Taped, taped, IsTape, HasByteRoom, size_of, total, note_of, notes_of, log_with}
use Rattle.slot_log.specs.declared.note.SlotNote.{SlotNote}
use Rattle.slot_log.specs.declared.note.SlotNote.TheVariants as notes

total_snoc : (ss : List Stamp) (s : Stamp) → total (ss ++ s ∷ []) ≡ total ss + size_of s
total_snoc [] s = omega arith
total_snoc (x ∷ xs) s = let h = total_snoc xs s in omega arith

notes_snoc : (ss : List Stamp) (s : Stamp) (bytes piece : List ℕ) → total ss ≡ length bytes → size_of s ≡ length piece → notes_of (ss ++ s ∷ []) (bytes ++ piece) ≡ notes_of ss bytes ++ note_of s piece ∷ []
notes_snoc [] s [] piece t e = ap (λ b. note_of s b ∷ []) (take_all (size_of s) piece (omega arith))
notes_snoc [] s (b ∷ bs) piece t e = absurd (omega arith)
notes_snoc (x ∷ xs) s bytes piece t e =
    let l : size_of x ≤ length bytes = omega arith in
    let rest : total xs ≡ length (drop (size_of x) bytes) = (let d = length-drop (size_of x) bytes in omega arith) in
    ap (λ b. note_of x b ∷ notes_of (xs ++ s ∷ []) (drop (size_of x) (bytes ++ piece))) (take-append-le (size_of x) bytes piece l)
    ∙ ap (λ ns. note_of x (take (size_of x) bytes) ∷ ns) (ap (notes_of (xs ++ s ∷ [])) (drop-append-le (size_of x) bytes piece l) ∙ notes_snoc xs s (drop (size_of x) bytes) piece rest e)

-- the same, where the note's bytes are read at their place
notes_at : (ss : List Stamp) (s : Stamp) (bytes : List ℕ) → notes_of (ss ++ s ∷ []) bytes ≡ notes_of ss bytes ++ note_of s (take (size_of s) (drop (total ss) bytes)) ∷ []
notes_at [] s bytes = refl
notes_at (x ∷ xs) s bytes = ap (λ ns. note_of x (take (size_of x) bytes) ∷ ns) (notes_at xs s (drop (size_of x) bytes) ∙ ap (λ b. notes_of xs (drop (size_of x) bytes) ++ note_of s (take (size_of s) b) ∷ []) (dropped (total xs) (size_of x) bytes))
  where
    dropped : (m n : ℕ) (bs : List ℕ) → drop m (drop n bs) ≡ drop (n + m) bs
    dropped m n bs = grind (arith, common_steps)

replicate_snoc : (k : ℕ) (x : SlotNote) → replicate (suc k) x ≡ replicate k x ++ x ∷ []
replicate_snoc zero x = refl
replicate_snoc (suc k) x = ap (λ xs. x ∷ xs) (replicate_snoc k x)

pub log_later : (told : List SlotNote) (late next : ℕ) → next ≡ late + 1 → log_with told next ≡ log_with told late ++ notes.NotStarted ∷ []
log_later told late next e =
    let s : next ≡ suc late = omega arith in
    ap (λ k. told ++ replicate k notes.NotStarted) s ∙ (ap (λ x. told ++ x) (replicate_snoc late notes.NotStarted) ∙ sym (append_assoc told (replicate late notes.NotStarted) (notes.NotStarted ∷ [])))

none_late : (told : List SlotNote) (late : ℕ) → late ≡ 0 → log_with told late ≡ told
none_late told late z = ap (log_with told) z ∙ append-nil told

abbrev seen_as : List SlotNote → Bool → ℕ → ℕ → Taped
seen_as log running notes_left bytes_left = record { log = log; running = running; notes_left = notes_left; bytes_left = bytes_left }

same_taped : (a b : List SlotNote) (r s : Bool) (m n k l : ℕ) → a ≡ b → r ≡ s → m ≡ n → k ≡ l → seen_as a r m k ≡ seen_as b s n l
same_taped a b r s m n k l e f g h =
    ap (λ x. seen_as x r m k) e ∙ (ap (λ x. seen_as b x m k) f ∙ (ap (λ x. seen_as b s x k) g ∙ ap (λ x. seen_as b s n x) h))

-- no start has failed late, where there is room
pub early : (ss : List Stamp) (bytes : List ℕ) (late : ℕ) (running : Bool) (capacity : ℕ) → IsTape ss bytes late running capacity → 2 ≤ capacity - length ss → late ≡ 0
early ss bytes zero running capacity t room = refl
early ss bytes (suc late) running capacity t room = absurd (let full = t.full (omega arith) in omega arith)

-- a note was added in the room that there was
pub pushed : (ss ts : List Stamp) (s : Stamp) (bytes piece now : List ℕ) (late : ℕ) (running after : Bool) (capacity room bytes_capacity bytes_room : ℕ) → IsTape ss bytes late running capacity → late ≡ 0 →
    ts ≡ ss ++ s ∷ [] → now ≡ bytes ++ piece → size_of s ≡ length piece → room ≡ capacity → bytes_room ≡ bytes_capacity →
    taped ts now late after room bytes_room ≡ record { log = (taped ss bytes late running capacity bytes_capacity).log ++ note_of s piece ∷ []; running = after; notes_left = capacity - length ss - 1; bytes_left = bytes_capacity - length bytes - length piece }
pushed ss ts s bytes piece now late running after capacity room bytes_capacity bytes_room t z push add size r b =
    let long : length ts ≡ length ss + 1 = ap length push ∙ length-append ss (s ∷ []) in
    let more : length now ≡ length bytes + length piece = ap length add ∙ length-append bytes piece in
    let told = ap (λ x. notes_of x now) push ∙ (ap (notes_of (ss ++ s ∷ [])) add ∙ notes_snoc ss s bytes piece t.sized size) in
    same_taped (log_with (notes_of ts now) late) (log_with (notes_of ss bytes) late ++ note_of s piece ∷ []) after after (room - length ts) (capacity - length ss - 1) (bytes_room - length now) (bytes_capacity - length bytes - length piece)
    (none_late (notes_of ts now) late z ∙ (told ∙ ap (λ ns. ns ++ note_of s piece ∷ []) (sym (none_late (notes_of ss bytes) late z)))) refl (omega arith) (omega arith)

pub pushed_fits : (ss ts : List Stamp) (s : Stamp) (bytes piece now : List ℕ) (late : ℕ) (running after : Bool) (capacity room : ℕ) → IsTape ss bytes late running capacity → late ≡ 0 →
    ts ≡ ss ++ s ∷ [] → now ≡ bytes ++ piece → size_of s ≡ length piece → room ≡ capacity → (after ≡ true → 2 ≤ capacity - length ss) → IsTape ts now late after room
pushed_fits ss ts s bytes piece now late running after capacity room t z push add size r aside =
    let long : length ts ≡ length ss + 1 = ap length push ∙ length-append ss (s ∷ []) in
    let more : length now ≡ length bytes + length piece = ap length add ∙ length-append bytes piece in
    let sum = ap total push ∙ total_snoc ss s in
    let sized = t.sized in record {
      sized = omega arith;
      early = λ a. z;
      aside = λ a. (let least = aside a in omega arith);
      full = λ some. absurd (omega arith);
    }

-- a start failed when there was no room
pub failed_late : (ss : List Stamp) (bytes : List ℕ) (late next : ℕ) (running after : Bool) (capacity : ℕ) → IsTape ss bytes late running capacity → next ≡ late + 1 → after ≡ false → (2 ≤ capacity - length ss → ⊥) → IsTape ss bytes next after capacity
failed_late ss bytes late next running after capacity t e stopped none = record {
  sized = t.sized;
  early = λ a. absurd (let wrong : true ≡ false = sym a ∙ stopped in cc);
  aside = λ a. absurd (let wrong : true ≡ false = sym a ∙ stopped in cc);
  full = λ some. elim (cases_lt capacity (length ss + 2)) [ inl less ↦ less | inr more ↦ absurd (none (omega arith)) ];
}

-- the same for a note without bytes
pub pushed_bare : (ss ts : List Stamp) (s : Stamp) (bytes : List ℕ) (late : ℕ) (running after : Bool) (capacity room bytes_room : ℕ) → IsTape ss bytes late running capacity → late ≡ 0 →
    ts ≡ ss ++ s ∷ [] → size_of s ≡ 0 → room ≡ capacity →
    taped ts bytes late after room bytes_room ≡ record { log = (taped ss bytes late running capacity bytes_room).log ++ note_of s [] ∷ []; running = after; notes_left = capacity - length ss - 1; bytes_left = bytes_room - length bytes }
pushed_bare ss ts s bytes late running after capacity room bytes_room t z push size r =
    let long : length ts ≡ length ss + 1 = ap length push ∙ length-append ss (s ∷ []) in
    let told = ap (λ x. notes_of x bytes) push ∙ (ap (notes_of (ss ++ s ∷ [])) (sym (append-nil bytes)) ∙ notes_snoc ss s bytes [] t.sized size) in
    same_taped (log_with (notes_of ts bytes) late) (log_with (notes_of ss bytes) late ++ note_of s [] ∷ []) after after (room - length ts) (capacity - length ss - 1) (bytes_room - length bytes) (bytes_room - length bytes)
    (none_late (notes_of ts bytes) late z ∙ (told ∙ ap (λ ns. ns ++ note_of s [] ∷ []) (sym (none_late (notes_of ss bytes) late z)))) refl (omega arith) refl

pub bare_fits : (ss ts : List Stamp) (s : Stamp) (bytes : List ℕ) (late : ℕ) (running after : Bool) (capacity room : ℕ) → IsTape ss bytes late running capacity → late ≡ 0 →
    ts ≡ ss ++ s ∷ [] → size_of s ≡ 0 → room ≡ capacity → (after ≡ true → 2 ≤ capacity - length ss) → IsTape ts bytes late after room
bare_fits ss ts s bytes late running after capacity room t z push size r aside = pushed_fits ss ts s bytes [] bytes late running after capacity room t z push (sym (append-nil bytes)) size r aside

total_take : (ss : List Stamp) (k : ℕ) → total (take k ss) ≤ total ss
total_take [] zero = omega arith
total_take [] (suc k) = omega arith
total_take (s ∷ ss) zero = omega arith
total_take (s ∷ ss) (suc k) = let h = total_take ss k in omega arith

-- the first bytes of some stamps, and those of the next
pub next_end : (ss : List Stamp) (k : ℕ) (d : Stamp) (from : ℕ) (bytes : List ℕ) → k < length ss → from ≡ total (take k ss) → total ss ≡ length bytes → from + size_of (get_or ss k d) ≤ length bytes
next_end ss k d from bytes l at sized =
    let more = ap total (take_more ss k d l) ∙ total_snoc (take k ss) (get_or ss k d) in
    let most = total_take ss (k + 1) in
    omega arith

pub next_from : (ss : List Stamp) (k : ℕ) (d : Stamp) (from : ℕ) → k < length ss → from ≡ total (take k ss) → from + size_of (get_or ss k d) ≡ total (take (k + 1) ss)
next_from ss k d from l at = let more = ap total (take_more ss k d l) ∙ total_snoc (take k ss) (get_or ss k d) in omega arith

pub next_note : (ss : List Stamp) (k : ℕ) (d : Stamp) (bytes : List ℕ) → k < length ss → notes_of (take (k + 1) ss) bytes ≡ notes_of (take k ss) bytes ++ note_of (get_or ss k d) (take (size_of (get_or ss k d)) (drop (total (take k ss)) bytes)) ∷ []
next_note ss k d bytes l = ap (λ x. notes_of x bytes) (take_more ss k d l) ∙ notes_at (take k ss) (get_or ss k d) bytes

pub stopped_fits : (ss ts : List Stamp) (s : Stamp) (bytes : List ℕ) (late : ℕ) (running : Bool) (capacity room : ℕ) → IsTape ss bytes late running capacity → late ≡ 0 →
    ts ≡ ss ++ s ∷ [] → size_of s ≡ 0 → room ≡ capacity → IsTape ts bytes late false room
stopped_fits ss ts s bytes late running capacity room t z push size r = bare_fits ss ts s bytes late running false capacity room t z push size r (λ wrong. absurd cc)

pub bytes_fit : (room capacity larger : ℕ) (old new piece : List ℕ) → HasByteRoom room (length old) capacity → new ≡ old ++ piece → capacity ≤ larger → length piece ≤ room - length old → HasByteRoom room (length new) larger
bytes_fit room capacity larger old new piece h e grew fits =
    let long = ap length e ∙ length-append old piece in
    let within = h.within in
    let taken = h.taken in
    record { within = omega arith; taken = omega arith }
