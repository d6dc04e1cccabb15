-- The desk's rule, over one word, one slot and the views of all seats, and what each step tells.
-- The word is 1 while a seat is inside a turn, and 0 while the value is at home. A seat's number is its place among the views.
use Rattle.std.specs.Prelude.{◌≡◌, ◌≢◌, ℕ, ◌+◌, ◌≤◌, true, false, List, [], ◌∷◌, length, count_by, Option, Some, None}
use mathlib.Core.List.{IsPrefix}
use mathlib.Core.Option as place
use lib.ListN.{get_elem?}
use Rattle.atomic_table.specs.Table.{State, Me, Step}
use Rattle.turn_desk.specs.declared.view.View.{View}
use Rattle.turn_desk.specs.declared.view.Joined.{Joined}
use Rattle.turn_desk.specs.Story.{notes_of, entered, left, IsJoined, AreApart, HasAllBack, HasKept, HasHeard, IsAllOf}

module _ {N O : Type 0} (number : N → ℕ) where
  -- the seat at the place i has the number i. It has seen a prefix of the story, with all of its own notes
  pub record Fits (known : O) (log : List N) (i : ℕ) (v : View N O) : Type 0 where
    pub numbered : v.number ≡ i
    pub origin_is : v.origin ≡ Some known
    pub begins : IsPrefix v.seen log
    pub own : notes_of number i log ≡ v.mine
    pub own_seen : notes_of number i v.seen ≡ v.mine

  -- the root counts the seats, and has seen all notes of the joined ones
  pub record IsRoot (made out : ℕ) (joined : List (Joined N)) (v : View N O) : Type 0 where
    pub here : v.live ≡ true
    pub made_is : v.made ≡ made
    pub out_is : v.out ≡ out
    pub joined_is : v.joined ≡ joined
    pub has_kept : HasKept number joined v.seen
    pub has_heard : HasHeard joined v.seen

  -- what the root has seen: of the joined seats all, and of those not made yet nothing
  pub record Knows (v : View N O) : Type 0 where
    pub own : notes_of number v.number v.seen ≡ v.mine
    pub has_kept : HasKept number v.joined v.seen
    pub has_heard : HasHeard v.joined v.seen
    pub all_of : v.out ≡ 0 → IsAllOf number v v.seen
    pub unmade : (k : ℕ) → v.made ≤ k → notes_of number k v.seen ≡ []
    pub apart : AreApart v.made v.joined
    pub all_back : v.out ≡ 0 → HasAllBack v
    pub sums : length v.joined + v.out + 1 ≡ v.made

module _ {N O : Type 0} where
  abbrev pub AllOutside : List (View N O) → Type 0
  AllOutside views = (i : ℕ) (v : View N O) → get_elem? views i ≡ place.some v → v.inside ≡ None

  abbrev pub OthersOutside : ℕ → List (View N O) → Type 0
  OthersOutside at views = (i : ℕ) (v : View N O) → i ≢ at → get_elem? views i ≡ place.some v → v.inside ≡ None

module _ {X N O : Type 0} (story : X → List N) (origin : X → O) (number : N → ℕ) where
  -- the value is at home with this story, or one seat is inside a turn that found it
  pub data Turn (known : O) (log : List N) (s : State (Option X) (View N O)) : Type 0 where
    at_home : (x : X) → s.words ≡ 0 ∷ [] → s.homes ≡ place.some (Some x) ∷ [] → story x ≡ log → origin x ≡ known → AllOutside s.views → Turn known log s
    taken : (at : ℕ) (v : View N O) → s.words ≡ 1 ∷ [] → s.homes ≡ place.none ∷ [] → get_elem? s.views at ≡ place.some v → v.live ≡ true → v.inside ≡ Some log → OthersOutside at s.views → Turn known log s

  -- There is one story, the log, of which each seat has seen a prefix. The root counts all seats and keeps the joined ones.
  -- The places are the numbers, spent ones too, and numbers not yet given have no note
  pub record IsKept (known : O) (s : State (Option X) (View N O)) : Type 0 where
    pub log : List N
    pub made : ℕ
    pub out : ℕ
    pub joined : List (Joined N)
    pub turn : Turn known log s
    pub places : length s.views ≡ made
    pub sums : length joined + out + 1 ≡ made
    pub counts : count_by (λ (v : View N O). v.live) s.views ≡ out + 1
    pub root : (v : View N O) → get_elem? s.views 0 ≡ place.some v → IsRoot number made out joined v
    pub seats : (i : ℕ) (v : View N O) → get_elem? s.views i ≡ place.some v → v.live ≡ true → Fits number known log i v
    pub gone : (i : ℕ) (v : View N O) → get_elem? s.views i ≡ place.some v → v.live ≡ false → IsJoined joined i
    pub kept : HasKept number joined log
    pub apart : AreApart made joined
    pub spent_places : (p : ℕ) (j : Joined N) → get_elem? joined p ≡ place.some j → (v : View N O) × (get_elem? s.views j.number ≡ place.some v) × (v.live ≡ false)
    pub unborn : (k : ℕ) → made ≤ k → notes_of number k log ≡ []

  -- of the value x that a turn found
  pub record Finds (v : View N O) (x : X) : Type 0 where
    pub begins : IsPrefix v.seen (story x)
    pub own : notes_of number v.number (story x) ≡ v.mine
    pub own_seen : notes_of number v.number v.seen ≡ v.mine
    pub origin_is : v.origin ≡ Some (origin x)

  abbrev Sat : Type 0
  Sat = Me (Option X) (View N O)

  -- try: where it wins, the seat is inside, with the slot and the value in it
  abbrev pub tried : Step (Option X) → Sat → ℕ → Sat → Type 0
  tried st m found m' = (found ≡ st.first → (x : X) × (m' ≡ (entered m.0 (story x), (0, Some x) ∷ m.1)) × Finds m.0 x) × (found ≢ st.first → m' ≡ m)

  -- free: the slot goes home with the value that the seat put into it
  abbrev pub freed : Step (Option X) → Sat → ℕ → Sat → Type 0
  freed st m found m' = (x : X) → m.1 ≡ (0, Some x) ∷ [] → (m' ≡ (left m.0 (story x), [])) × (notes_of number m.0.number (story x) ≡ (left m.0 (story x)).mine)

  -- split and join, at their load: the root's view stays, and the rule says what it has seen
  abbrev pub looked : Step (Option X) → Sat → ℕ → Sat → Type 0
  looked st m found m' = (m' ≡ m) × Knows number m.0
