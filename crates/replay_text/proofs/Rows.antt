-- Words in a row, and the line of an entry.
use Rattle.std.proofs.Common.{◌≡◌, ℕ, List, ◌++◌, sym, ap, ◌∙◌, append_assoc, Option, Some}
use Rattle.std.specs.List.{slice_get}
use Rattle.foz_entry.specs.declared.cut.Entry.{Entry}
use Rattle.replay_core.specs.declared.event.Verdict.{Verdict}
use Rattle.dep_graph.specs.declared.class.Class.{Class}
use Rattle.dep_graph.specs.declared.graph.Graph.{Graph}
use Rattle.replay_text.specs.Lines.{line, line_of, line_at, class_words}

pub eight_in_a_row : (a b c d e f g h : List ℕ) → a ++ (b ++ (c ++ (d ++ (e ++ (f ++ (g ++ h)))))) ≡ ((((((a ++ b) ++ c) ++ d) ++ e) ++ f) ++ g) ++ h
eight_in_a_row a b c d e f g h = simp append_assoc

pub eleven_in_a_row : (a b c d e f g h i j k : List ℕ) → a ++ (b ++ (c ++ (d ++ (e ++ (f ++ (g ++ (h ++ (i ++ (j ++ k))))))))) ≡ (((((((((a ++ b) ++ c) ++ d) ++ e) ++ f) ++ g) ++ h) ++ i) ++ j) ++ k
eleven_in_a_row a b c d e f g h i j k = simp append_assoc

-- the line of an entry that is there
pub line_is : (entries : List Entry) (graph : Graph) (verdicts : List (Option Verdict)) (index : ℕ) (entry : Entry) (kind : Class) → slice_get entries index ≡ Some entry → slice_get graph.classes index ≡ Some kind
    → line index entry.head.key (class_words entries graph verdicts kind) ≡ line_at entries graph verdicts index
unfolding line_at
line_is entries graph verdicts index entry kind found named =
    sym (ap (λ (e : Option Entry). line_of entries graph verdicts index e (slice_get graph.classes index)) found ∙ ap (λ (k : Option Class). line_of entries graph verdicts index (Some entry) k) named)
