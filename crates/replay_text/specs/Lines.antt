-- The lines of entries.
use Rattle.std.specs.Prelude.{ℕ, ◌==◌, if◌then◌else◌, List, [], ◌++◌, codes, decimal, slice_get, Option, Some, None, option_and_then}
use Rattle.std.specs.Option.{option_map}
use Rattle.foz_words.specs.Hex.{hex_text}
use Rattle.foz_words.specs.declared.key.Key.{Key}
use Rattle.foz_entry.specs.declared.cut.Entry.{Entry}
use Rattle.replay_core.specs.declared.plan.Dep.{Dep}
use Rattle.replay_core.specs.declared.plan.Dep.TheVariants as dep
use Rattle.replay_core.specs.declared.event.Verdict.{Verdict}
use Rattle.replay_core.specs.declared.event.Verdict.TheVariants.{Done, Blamed, Missing}
use Rattle.dep_graph.specs.declared.class.Class.{Class}
use Rattle.dep_graph.specs.declared.class.Class.TheVariants.{Damaged, Duplicate, Kept, Unreadable, Item}
use Rattle.dep_graph.specs.declared.graph.Graph.{Graph}
use Rattle.dep_graph.specs.Graphs.{entry_at}
use Rattle.report_words.specs.Words.{damage_words}
use Rattle.replay_text.specs.Words.{unreadable_words}

-- the key of the item with this number
abbrev pub item_key : List Entry → Graph → ℕ → Option Key
item_key entries graph item = option_map (λ (entry : Entry). entry.head.key) (entry_at entries graph item)

-- the key that a dependency names
abbrev pub dep_key : List Entry → Graph → Dep → Option Key
dep_key entries graph (dep.Item item) = item_key entries graph item
dep_key entries graph (dep.Absent key) = Some key

-- the key of the dependency at this place in an item's list
abbrev pub missing_key : List Entry → Graph → ℕ → ℕ → Option Key
missing_key entries graph item place = option_and_then (dep_key entries graph) (option_and_then (λ deps. slice_get deps place) (slice_get graph.plan.deps item))

abbrev pub missing_words : Option Key → List ℕ
missing_words (Some key) = codes "missing " ++ decimal key.tag ++ codes " " ++ hex_text 16 key.hash
missing_words None = codes "missing"

-- how an item came out, whose dependencies have these keys
abbrev pub verdict_words : (ℕ → Option Key) → Option Verdict → List ℕ
verdict_words keys (Some (Done code)) = if code == 0 then codes "done" else codes "refused " ++ decimal code
verdict_words keys (Some Blamed) = codes "blamed"
verdict_words keys (Some (Missing place)) = missing_words (keys place)
verdict_words keys None = codes "unanswered"

-- the verdict of an item, none where it is undecided
abbrev pub verdict_in : List (Option Verdict) → ℕ → Option Verdict
verdict_in verdicts item = option_and_then (λ v. v) (slice_get verdicts item)

-- the words of an entry of this class
abbrev pub class_words : List Entry → Graph → List (Option Verdict) → Class → List ℕ
class_words entries graph verdicts (Damaged cause) = damage_words cause
class_words entries graph verdicts (Duplicate first) = codes "duplicate"
class_words entries graph verdicts Kept = codes "kept"
class_words entries graph verdicts (Unreadable cause) = codes "unreadable " ++ unreadable_words cause
class_words entries graph verdicts (Item number) = verdict_words (missing_key entries graph number) (verdict_in verdicts number)

-- a line: the entry's place, its key, and its words
abbrev pub line : ℕ → Key → List ℕ → List ℕ
line index key words = decimal index ++ codes " " ++ decimal key.tag ++ codes " " ++ hex_text 16 key.hash ++ codes " " ++ words ++ codes "\n"

abbrev pub line_of : List Entry → Graph → List (Option Verdict) → ℕ → Option Entry → Option Class → List ℕ
line_of entries graph verdicts index (Some entry) (Some kind) = line index entry.head.key (class_words entries graph verdicts kind)
line_of entries graph verdicts index entry kind = []

-- the line of the entry at this place
unfoldable pub line_at : List Entry → Graph → List (Option Verdict) → ℕ → List ℕ
line_at entries graph verdicts index = line_of entries graph verdicts index (slice_get entries index) (slice_get graph.classes index)
