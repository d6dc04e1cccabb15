-- Seats that come back.
use Rattle.std.proofs.Common.{◌≡◌, List, [], ◌∷◌, ◌++◌, length, drop, sym, ap, ◌∙◌, subst, append_assoc}
use mathlib.Core.List.{IsPrefix}
use mathlib.Core.Option.{some}
use lib.ListN.{get_elem?}
use Rattle.turn_desk.specs.declared.view.Joined.{Joined}
use Rattle.turn_desk.specs.declared.view.View.{View}
use Rattle.turn_desk.specs.Story.{joined_with}
use Rattle.replay_board.specs.declared.note.BoardNote.{BoardNote}
use Rattle.replay_board.specs.declared.origin.BoardOrigin.{BoardOrigin}
use Rattle.crew_run.specs.Roots.{HasBack}
use Rattle.crew_run.proofs.Places.{first_at, last_at}

prefix_then : {N : Type 0} (a b c : List N) → IsPrefix a b → IsPrefix b c → IsPrefix a c
prefix_then {N} a b c p q = (p.0 ++ q.0, sym (append_assoc a p.0 q.0) ∙ (ap (λ (l : List N). l ++ q.0) p.1 ∙ q.1))

abbrev joined_of : View BoardNote BoardOrigin → Joined BoardNote
joined_of seat = record { number = seat.number; notes = seat.mine; seen = seat.seen }

module _ (root seat after : View BoardNote BoardOrigin) (is : after ≡ joined_with root seat) where
  joined_is : after.joined ≡ root.joined ++ joined_of seat ∷ []
  joined_is = ap (λ (v : View BoardNote BoardOrigin). v.joined) is

  -- a seat that was back before is so still
  pub still_back : (other : View BoardNote BoardOrigin) → HasBack root other → HasBack after other
  still_back other back = (
    (back.0.0, subst (λ (l : List (Joined BoardNote)). get_elem? l back.0.0 ≡ some (joined_of other)) (sym joined_is) (first_at root.joined (joined_of seat ∷ []) back.0.0 (joined_of other) back.0.1)),
    prefix_then other.seen root.seen after.seen back.1 (drop (length root.seen) seat.seen, sym (ap (λ (v : View BoardNote BoardOrigin). v.seen) is)),
  )

  pub now_back : IsPrefix seat.seen after.seen → HasBack after seat
  now_back prefix = ((length root.joined, subst (λ (l : List (Joined BoardNote)). get_elem? l (length root.joined) ≡ some (joined_of seat)) (sym joined_is) (last_at root.joined (joined_of seat))), prefix)
