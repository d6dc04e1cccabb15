-- What each call adds to the events.
use Rattle.std.proofs.Common.{ℕ, ◌≡◌, ◌+◌, ◌<◌, ◌==◌, true, List, [], ◌∷◌, ◌++◌, All, ap, ◌∙◌, append_assoc, arith}
use Rattle.std.proofs.lemmas.Bool.Decides.{nat_tests}
use Rattle.std.proofs.lemmas.List.Elements.{All-head, All-tail, All-nil, All-cons, All-append}
use Rattle.replay_core.specs.declared.answer.Next.{Next}
use Rattle.replay_core.specs.declared.answer.Next.TheVariants.{Finished, Work, Idle}
use Rattle.replay_core.specs.declared.event.Event.{Event}
use Rattle.replay_core.specs.declared.event.Event.TheVariants.{Start, Reply, Death, Restart, Retire, Miss}
use Rattle.replay_core.specs.Histories.{History, with_events}
use Rattle.replay_core.specs.Turns.{IsMiss, IsAnswer, TakesTurn}
use Rattle.replay_board.specs.Notes.{MayMake}
use Rattle.replay_board.specs.Steps.{Grew}

-- a number is itself
pub same : (k : ℕ) → (k == k) ≡ true
same k = grind (arith, nat_tests)

miss_by : (k : ℕ) (e : Event) → 0 < k → IsMiss e → MayMake k e
miss_by k (Start v i) p h = absurd h
miss_by k (Reply v i c) p h = absurd h
miss_by k (Death v) p h = absurd h
miss_by k (Restart v) p h = absurd h
miss_by k (Retire v) p h = absurd h
miss_by k (Miss i q) p h = grind (arith, nat_tests)

misses_by : (k : ℕ) (es : List Event) → 0 < k → All IsMiss es → All (MayMake k) es
misses_by k [] p h = All-nil (MayMake k)
misses_by k (e ∷ es) p h = All-cons (MayMake k) e es (miss_by k e p (All-head IsMiss e es h)) (misses_by k es p (All-tail IsMiss e es h))

pub one_grew : (k : ℕ) (old new : History) (e : Event) → MayMake k e → new ≡ with_events old (e ∷ []) → Grew k old new
one_grew k old new e m is = record { added = e ∷ []; after_is = is; own = All-cons (MayMake k) e [] m (All-nil (MayMake k)) }

pub turn_grew : (w : ℕ) (old new : History) (answer : Next) → TakesTurn old w answer new → Grew (w + 1) old new
turn_grew w old new answer t = cases answer t.told
  where
    own : All (MayMake (w + 1)) t.misses.misses
    own = misses_by (w + 1) t.misses.misses (omega arith) t.misses.only_misses

    cases : (n : Next) → IsAnswer t.between w n new → Grew (w + 1) old new
    cases Finished d = record { added = t.misses.misses; after_is = d.1 ∙ t.misses.new_is; own = own }
    cases (Work item) d = record {
      added = t.misses.misses ++ Start w item ∷ [];
      after_is = d.1 ∙ (ap (λ (h : History). with_events h (Start w item ∷ [])) t.misses.new_is ∙ ap (λ (es : List Event). with_events (record { setup = old.setup; events = [] }) es) (append_assoc old.events t.misses.misses (Start w item ∷ [])));
      own = All-append (MayMake (w + 1)) t.misses.misses (Start w item ∷ []) own (All-cons (MayMake (w + 1)) (Start w item) [] (same (w + 1)) (All-nil (MayMake (w + 1))));
    }
    cases Idle d = record { added = t.misses.misses; after_is = d.3 ∙ t.misses.new_is; own = own }
