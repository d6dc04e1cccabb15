-- The walk over the instructions.
use Rattle.std.proofs.Common.{ℕ, ◌≡◌, ◌+◌, ◌-◌, ◌/◌, ◌<◌, ◌≤◌, ◌⊎◌, inl, inr, List, [], ◌∷◌, ◌++◌, length, get_or, take, drop, refl, ap, sym, subst, ◌∙◌, arith}
use Rattle.std.proofs.lemmas.List.{length-drop, length-take-le, take-append-drop, drop-drop, get_or-take, get_or-drop, drop_all}
use Rattle.spirv_check.specs.Modules.{Instruction, count_of, HasHeader, IsFramed, IsBadLength, Splits}
use Rattle.spirv_check.specs.Seen.{IsWalked, seen_in, seen_next}
use Rattle.spirv_check.specs.declared.seen.Seen.{Seen}
use Rattle.spirv_check.proofs.Framing.{Splits-push}
use Rattle.spirv_check.proofs.Findings.{seen_in-push, models_next}

-- the words before this place are instructions, and this was seen of them
pub record Walking (words : List ℕ) (at : ℕ) (seen : Seen) : Type 0 where
  pub instructions : List Instruction
  pub split : Splits 5 (drop 5 words) instructions (drop at words)
  pub least : 5 ≤ at
  pub within : at ≤ length words
  pub is : seen ≡ seen_in instructions
  pub few : seen.models + 5 ≤ at

pub starts : (words : List ℕ) (seen : Seen) → HasHeader words → seen ≡ seen_in [] → Walking words 5 seen
unfolding Splits seen_in
starts words seen header e = record { instructions = []; split = refl; least = omega arith; within = header.long; is = e; few = let none = ap (λ (s : Seen). s.models) e in omega arith }

first_word : (words : List ℕ) (at : ℕ) → get_or (drop at words) 0 0 ≡ get_or words at 0
first_word words at = get_or-drop at words 0 0 ∙ ap (λ n. get_or words n 0) (let e : at + 0 ≡ at = omega arith in e)

pub steps : (words part : List ℕ) (at count : ℕ) (seen new : Seen) → Walking words at seen → at < length words → count ≡ get_or words at 0 / 65536 → 0 < count → count ≤ length words - at
    → part ≡ take count (drop at words) → new ≡ seen_next seen (record { at = at; words = part }) → Walking words (at + count) new
steps words part at count seen new w lt is some room part_is next =
    let left = length-drop at words in
    let size : length part ≡ count = ap length part_is ∙ length-take-le count (drop at words) (omega arith) in
    let first : get_or part 0 0 ≡ get_or words at 0 = ap (λ l. get_or l 0 0) part_is ∙ (get_or-take count (drop at words) 0 0 some ∙ first_word words at) in
    let framed : IsFramed part = record { some = omega arith; count = ap count_of first ∙ (sym is ∙ sym size) } in
    let rest : drop count (drop at words) ≡ drop (at + count) words = drop-drop count at words in
    let parts : drop at words ≡ part ++ drop (at + count) words = sym (take-append-drop count (drop at words)) ∙ (ap (λ l. l ++ drop count (drop at words)) (sym part_is) ∙ ap (λ l. part ++ l) rest) in
    let least = w.least in
    let five = length-drop 5 words in
    let place : at + length (part ++ drop (at + count) words) ≡ 5 + length (drop 5 words) = ap (λ l. at + length l) (sym parts) ∙ (let e : at + length (drop at words) ≡ 5 + length (drop 5 words) = omega arith in e) in record {
      instructions = w.instructions ++ record { at = at; words = part } ∷ [];
      split = Splits-push 5 (drop 5 words) w.instructions part (drop (at + count) words) at (subst (λ (l : List ℕ). Splits 5 (drop 5 words) w.instructions l) parts w.split) framed place;
      least = omega arith;
      within = omega arith;
      is = next ∙ (ap (λ (s : Seen). seen_next s (record { at = at; words = part })) w.is ∙ sym (seen_in-push w.instructions (record { at = at; words = part })));
      few = (let few = w.few in let more = models_next seen (record { at = at; words = part }) in let same = ap (λ (s : Seen). s.models) next in omega arith);
    }

pub stops : (words : List ℕ) (at count : ℕ) (seen : Seen) → HasHeader words → Walking words at seen → at < length words → count ≡ get_or words at 0 / 65536 → (count ≡ 0) ⊎ (length words - at < count) → IsBadLength words at
stops words at count seen header w lt is bad =
    let left = length-drop at words in
    let counted : count_of (get_or (drop at words) 0 0) ≡ count = ap count_of (first_word words at) ∙ sym is in record {
      header = header;
      instructions = w.instructions;
      rest = drop at words;
      split = w.split;
      unframed = record { some = omega arith; count = elim bad [ inl none ↦ inl (counted ∙ none) | inr past ↦ inr (let c = counted in omega arith) ] };
      place = omega arith;
    }

pub ends : (words : List ℕ) (at : ℕ) (seen : Seen) → HasHeader words → Walking words at seen → length words ≤ at → IsWalked words seen
ends words at seen header w past = record {
  instructions = w.instructions;
  whole = record { header = header; split = subst (λ (l : List ℕ). Splits 5 (drop 5 words) w.instructions l) (drop_all at words past) w.split };
  is = w.is;
}
