-- The lines of a record, one after the other.
use Rattle.std.proofs.Common.{◌≡◌, ℕ, ◌+◌, ◌<◌, ◌≤◌, List, [], ◌∷◌, ◌++◌, length, get_or, take, sym, ap, ◌∙◌, append_assoc, append-nil}
use Rattle.std.specs.List.{flat_map}
use Rattle.std.proofs.lemmas.List.{take_more, take_all}
use Rattle.record_words.specs.declared.answered.Answered.{Answered}
use Rattle.foz_text.specs.RecordText.{record_line, record_text, summary}

module _ {Cause : Type 0} (cause_text : Cause → List ℕ) where
  then_one : (answers : List (Answered Cause)) (last : Answered Cause) → flat_map (record_line cause_text) (answers ++ last ∷ []) ≡ flat_map (record_line cause_text) answers ++ record_line cause_text last
  then_one [] last = append-nil (record_line cause_text last)
  then_one (first ∷ answers) last =
      ap (λ (l : List ℕ). record_line cause_text first ++ l) (then_one answers last) ∙ sym (append_assoc (record_line cause_text first) (flat_map (record_line cause_text) answers) (record_line cause_text last))

  pub lines_more : (start written more : List ℕ) (answers : List (Answered Cause)) (i : ℕ) (next : Answered Cause) → i < length answers → next ≡ get_or answers i next
      → written ≡ start ++ flat_map (record_line cause_text) (take i answers) → more ≡ written ++ record_line cause_text next → more ≡ start ++ flat_map (record_line cause_text) (take (i + 1) answers)
  lines_more start written more answers i next lt is so_far wrote =
      let longer : take (i + 1) answers ≡ take i answers ++ next ∷ [] = take_more answers i next lt ∙ ap (λ (x : Answered Cause). take i answers ++ x ∷ []) (sym is) in
      wrote
      ∙ (ap (λ (l : List ℕ). l ++ record_line cause_text next) so_far
      ∙ (append_assoc start (flat_map (record_line cause_text) (take i answers)) (record_line cause_text next)
      ∙ ap (λ (l : List ℕ). start ++ l) (sym (ap (flat_map (record_line cause_text)) longer ∙ then_one (take i answers) next))))

  pub lines_all : (start written whole : List ℕ) (answers : List (Answered Cause)) (i entries : ℕ) → length answers ≤ i
      → written ≡ start ++ flat_map (record_line cause_text) (take i answers) → whole ≡ written ++ summary answers entries → whole ≡ start ++ record_text cause_text answers entries
  unfolding record_text
  lines_all start written whole answers i entries le so_far wrote =
      let lines : written ≡ start ++ flat_map (record_line cause_text) answers = so_far ∙ ap (λ (l : List (Answered Cause)). start ++ flat_map (record_line cause_text) l) (take_all i answers le) in
      wrote ∙ (ap (λ (l : List ℕ). l ++ summary answers entries) lines ∙ append_assoc start (flat_map (record_line cause_text) answers) (summary answers entries))
