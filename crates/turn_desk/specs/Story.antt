-- A story is a list of notes, the oldest first, each with the number of the seat that wrote it. What a seat knows of it, and how its view changes.
use Rattle.std.specs.Prelude.{◌≡◌, ◌≢◌, ◌⊎◌, ℕ, ◌+◌, ◌-◌, ◌<◌, ◌==◌, true, false, List, [], ◌∷◌, ◌++◌, length, drop, map, filter, All, Option, Some, None}
use mathlib.Core.Option.{some}
use mathlib.Core.List.{IsPrefix}
use lib.ListN.{get_elem?}
use Rattle.turn_desk.specs.declared.view.View.{View}
use Rattle.turn_desk.specs.declared.view.Joined.{Joined}

-- the notes that carry the number k
abbrev pub notes_of : {N : Type 0} → (N → ℕ) → ℕ → List N → List N
notes_of number k story = filter (λ n. number n == k) story

-- the longer of two prefixes of one story
abbrev pub longer : {N : Type 0} → List N → List N → List N
longer a b = a ++ drop (length a) b

-- what was written since a turn found this story
abbrev pub fresh : {N : Type 0} → Option (List N) → List N → List N
fresh (Some found) story = drop (length found) story
fresh None story = []

module _ {N O : Type 0} where
  abbrev pub newcomer : Option O → ℕ → ℕ → List N → View N O
  newcomer origin number made seen = record { live = true; origin = origin; number = number; turns = 0; out = 0; made = made; inside = None; seen = seen; mine = []; joined = [] }

  -- the first seat, of a value with an empty story
  abbrev pub root_of : O → View N O
  root_of origin = newcomer (Some origin) 0 1 []

  -- what is left of a seat that was joined
  abbrev pub spent : View N O
  spent = record { live = false; origin = None; number = 0; turns = 0; out = 0; made = 0; inside = None; seen = []; mine = []; joined = [] }

  -- one more turn, which found this story
  abbrev pub entered : View N O → List N → View N O
  entered v story = record v { turns = v.turns + 1; inside = Some story }

  -- the turn is over, and left this story
  abbrev pub left : View N O → List N → View N O
  left v story = record v { inside = None; seen = story; mine = v.mine ++ fresh v.inside story }

  -- the root, with one more seat split off, and that seat
  abbrev pub split_from : View N O → View N O
  split_from v = record v { out = v.out + 1; made = v.made + 1 }

  abbrev pub split_off : View N O → View N O
  split_off v = newcomer v.origin v.made 0 v.seen

  -- the root, with the seat of w joined
  abbrev pub joined_with : View N O → View N O → View N O
  joined_with v w = record v { out = v.out - 1; seen = longer v.seen w.seen; joined = v.joined ++ record { number = w.number; notes = w.mine; seen = w.seen } ∷ [] }

-- the number is that of a seat that was joined
abbrev pub IsJoined : {N : Type 0} → List (Joined N) → ℕ → Type 0
IsJoined {N} joined k = (p : ℕ) × (j : Joined N) × (get_elem? joined p ≡ some j) × (j.number ≡ k)

module _ {N : Type 0} where
  -- no number stands twice among the joined seats, none is the root's, and all were given
  pub record AreApart (made : ℕ) (joined : List (Joined N)) : Type 0 where
    pub once : (p q : ℕ) (a b : Joined N) → get_elem? joined p ≡ some a → get_elem? joined q ≡ some b → a.number ≡ b.number → p ≡ q
    pub given : (p : ℕ) (j : Joined N) → get_elem? joined p ≡ some j → (0 < j.number) × (j.number < made)

-- each number that was given is the root's or that of a joined seat
abbrev pub HasAllBack : {N O : Type 0} → View N O → Type 0
HasAllBack v = (k : ℕ) → k < v.made → (k ≡ 0) ⊎ IsJoined v.joined k

-- the story has of each joined seat the notes that were kept of it
abbrev pub HasKept : {N : Type 0} → (N → ℕ) → List (Joined N) → List N → Type 0
HasKept {N} number joined story = (p : ℕ) (j : Joined N) → get_elem? joined p ≡ some j → notes_of number j.number story ≡ j.notes

-- inside a turn, the story is what the turn found, and then notes with the seat's own number
abbrev pub Continues : {N O : Type 0} → (N → ℕ) → View N O → List N → Type 0
Continues {N} {O} number v story = (found : List N) × (more : List N) × (v.inside ≡ Some found) × (story ≡ found ++ more) × All (λ n. number n ≡ v.number) more

-- all that the joined seats had seen is a prefix of what is seen
abbrev pub HasHeard : {N : Type 0} → List (Joined N) → List N → Type 0
HasHeard {N} joined seen = (p : ℕ) (j : Joined N) → get_elem? joined p ≡ some j → IsPrefix j.seen seen

-- each note is the root's or that of a joined seat
abbrev pub IsAllOf : {N O : Type 0} → (N → ℕ) → View N O → List N → Type 0
IsAllOf number v story = All (λ n. (number n ≡ 0) ⊎ IsJoined v.joined (number n)) story

-- the slots that a seat has with it: the one, while it is inside a turn
abbrev pub held : {N : Type 0} → Option (List N) → List ℕ
held None = []
held (Some found) = 0 ∷ []

-- the places of the slots that are out with a seat
abbrev pub slots : {S : Type 0} → List (ℕ × S) → List ℕ
slots out = map (λ x. x.0) out

-- what one turn adds to what its seat had seen: notes of other seats, and then these
abbrev pub Adds : {N O : Type 0} → (N → ℕ) → View N O → List N → View N O → Type 0
Adds {N} number before notes after =
    (between : List N) × (after.seen ≡ (before.seen ++ between) ++ notes) × All (λ n. number n ≢ before.number) between × (after.mine ≡ before.mine ++ notes)
