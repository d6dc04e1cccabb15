-- Events and the seats that made them.
use Rattle.std.proofs.Common.{ℕ, ◌≡◌, ◌+◌, ◌-◌, ◌≤◌, ◌==◌, Bool, true, false, List, [], ◌∷◌, ◌++◌, length, map, replicate, All, refl, ap, sym, ◌∙◌, true≢false, append-nil, length-append, arith}
use Rattle.std.specs.List.{filter}
use Rattle.std.proofs.lemmas.Bool.Decides.{nat_tests}
use Rattle.std.proofs.lemmas.List.{length-replicate}
use Rattle.std.proofs.lemmas.List.Elements.{All-head, All-tail, All-nil, All-cons, All-append}
use Rattle.replay_core.specs.declared.event.Event.{Event}
use Rattle.replay_core.specs.declared.event.Event.TheVariants.{Start, Reply, Death, Restart, Retire, Miss}
use Rattle.replay_core.specs.Runs.{names}
use Rattle.replay_core.specs.Histories.{History, with_events}
use Rattle.replay_board.specs.declared.note.BoardNote.{BoardNote}
use Rattle.replay_board.specs.Notes.{events_in, signed, MayMake, AreByMakers}
use Rattle.replay_board.specs.Steps.{Grew}

-- these events, by one seat
abbrev pub made_by : ℕ → List Event → List BoardNote
made_by k es = map (λ e. record { seat = k; event = e }) es

abbrev ByMaker : BoardNote → Type 0
ByMaker n = MayMake n.seat n.event

pub events_signed : (ks : List ℕ) (es : List Event) → length ks ≡ length es → events_in (signed ks es) ≡ es
events_signed [] [] e = refl
events_signed [] (x ∷ xs) e = absurd (omega arith)
events_signed (k ∷ ks) [] e = absurd (omega arith)
events_signed (k ∷ ks) (x ∷ xs) e = ap (λ (z : List Event). x ∷ z) (events_signed ks xs (omega arith))

pub events_made : (k : ℕ) (es : List Event) → events_in (made_by k es) ≡ es
events_made k [] = refl
events_made k (e ∷ es) = ap (λ (z : List Event). e ∷ z) (events_made k es)

pub made_by_it : (k : ℕ) (es : List Event) → All (λ n. n.seat ≡ k) (made_by k es)
made_by_it k [] = All-nil (λ (n : BoardNote). n.seat ≡ k)
made_by_it k (e ∷ es) = All-cons (λ (n : BoardNote). n.seat ≡ k) (record { seat = k; event = e }) (made_by k es) refl (made_by_it k es)

pub made_by_maker : (k : ℕ) (es : List Event) → All (MayMake k) es → AreByMakers (made_by k es)
made_by_maker k [] h = All-nil ByMaker
made_by_maker k (e ∷ es) h = All-cons ByMaker (record { seat = k; event = e }) (made_by k es) (All-head (MayMake k) e es h) (made_by_maker k es (All-tail (MayMake k) e es h))

signed_all : (k : ℕ) (es : List Event) → signed (replicate (length es) k) es ≡ made_by k es
signed_all k [] = refl
signed_all k (e ∷ es) = ap (λ (z : List BoardNote). record { seat = k; event = e } ∷ z) (signed_all k es)

pub signed_more : (k : ℕ) (ks : List ℕ) (es added : List Event) → length ks ≡ length es → signed (ks ++ replicate (length added) k) (es ++ added) ≡ signed ks es ++ made_by k added
signed_more k [] [] added e = signed_all k added
signed_more k [] (x ∷ xs) added e = absurd (omega arith)
signed_more k (y ∷ ys) [] added e = absurd (omega arith)
signed_more k (y ∷ ys) (x ∷ xs) added e = ap (λ (z : List BoardNote). record { seat = y; event = x } ∷ z) (signed_more k ys xs added (omega arith))

-- the makers after a call, by how many they are
pub makers_grown : (k : ℕ) (ks : List ℕ) (old new : History) (g : Grew k old new) → length ks ≡ length old.events → ks ++ replicate (length new.events - length ks) k ≡ ks ++ replicate (length g.added) k
makers_grown k ks old new g e =
    let all : length new.events ≡ length old.events + length g.added = ap (λ (h : History). length h.events) g.after_is ∙ length-append old.events g.added in
    let n : length new.events - length ks ≡ length g.added = omega arith in
    ap (λ m. ks ++ replicate m k) n

-- the story after a call
pub story_grown : (k : ℕ) (ks : List ℕ) (old new : History) (g : Grew k old new) → length ks ≡ length old.events → signed (ks ++ replicate (length new.events - length ks) k) new.events ≡ signed ks old.events ++ made_by k g.added
story_grown k ks old new g e = ap (λ m. signed m new.events) (makers_grown k ks old new g e) ∙ (ap (λ (h : History). signed (ks ++ replicate (length g.added) k) h.events) g.after_is ∙ signed_more k ks old.events g.added e)

-- a call that added no event left the scheduler as it was
pub unchanged : (k : ℕ) (old new : History) (g : Grew k old new) → length old.events ≡ length new.events → old ≡ new
unchanged k old new g e = cases g.added g.after_is
  where
    cases : (added : List Event) → new ≡ with_events old added → old ≡ new
    cases [] is = sym (is ∙ ap (λ (es : List Event). with_events (record { setup = old.setup; events = [] }) es) (append-nil old.events))
    cases (x ∷ xs) is = absurd (let l = ap (λ (h : History). length h.events) is in let m = length-append old.events (x ∷ xs) in omega arith)

-- there are not fewer events than makers
pub not_fewer : (k : ℕ) (ks : List ℕ) (old new : History) (g : Grew k old new) → length ks ≡ length old.events → length ks ≤ length new.events
not_fewer k ks old new g e =
    let all : length new.events ≡ length old.events + length g.added = ap (λ (h : History). length h.events) g.after_is ∙ length-append old.events g.added in
    omega arith

-- each event has its maker after a call
pub paired_grown : (k : ℕ) (ks : List ℕ) (old new : History) (g : Grew k old new) → length ks ≡ length old.events → length (ks ++ replicate (length new.events - length ks) k) ≡ length new.events
paired_grown k ks old new g e =
    let n : ℕ = length new.events - length ks in
    let all : length (ks ++ replicate n k) ≡ length ks + length (replicate n k) = length-append ks (replicate n k) in
    let more : length (replicate n k) ≡ n = length-replicate n k in
    let few = not_fewer k ks old new g e in
    omega arith

pub makers_kept : (k : ℕ) (notes : List BoardNote) (es : List Event) → AreByMakers notes → All (MayMake k) es → AreByMakers (notes ++ made_by k es)
makers_kept k notes es a b = All-append ByMaker notes (made_by k es) a (made_by_maker k es b)

named_by : (k w : ℕ) (e : Event) → names w e ≡ true → MayMake k e → k ≡ w + 1
named_by k w (Start v i) h m = grind (arith, nat_tests)
named_by k w (Reply v i c) h m = grind (arith, nat_tests)
named_by k w (Death v) h m = grind (arith, nat_tests)
named_by k w (Restart v) h m = grind (arith, nat_tests)
named_by k w (Retire v) h m = grind (arith, nat_tests)
named_by k w (Miss i p) h m = absurd (true≢false (sym h))

slot_step : (w : ℕ) (n : BoardNote) (ns : List BoardNote) → ByMaker n → filter (names w) (events_in ns) ≡ filter (names w) (events_in (filter (λ m. m.seat == w + 1) ns))
    → filter (names w) (events_in (n ∷ ns)) ≡ filter (names w) (events_in (filter (λ m. m.seat == w + 1) (n ∷ ns)))
slot_step w n ns m ih = cases (names w n.event) refl (n.seat == w + 1) refl
  where
    cases : (a : Bool) → names w n.event ≡ a → (b : Bool) → (n.seat == w + 1) ≡ b → filter (names w) (events_in (n ∷ ns)) ≡ filter (names w) (events_in (filter (λ m. m.seat == w + 1) (n ∷ ns)))
    cases true ha true hb = rw hb (rw ha (ap (λ (z : List Event). n.event ∷ z) ih))
    cases true ha false hb = absurd (let k : n.seat ≡ w + 1 = named_by n.seat w n.event ha m in grind (arith, nat_tests))
    cases false ha true hb = rw hb (rw ha ih)
    cases false ha false hb = rw hb (rw ha ih)

-- the events that name a slot are those of the slot's seat
pub slot_of_seat : (w : ℕ) (notes : List BoardNote) → AreByMakers notes → filter (names w) (events_in notes) ≡ filter (names w) (events_in (filter (λ m. m.seat == w + 1) notes))
slot_of_seat w [] h = refl
slot_of_seat w (n ∷ ns) h = slot_step w n ns (All-head ByMaker n ns h) (slot_of_seat w ns (All-tail ByMaker n ns h))

-- the root made none
pub none_by_root : (notes : List BoardNote) → AreByMakers notes → filter (λ m. m.seat == 0) notes ≡ []
none_by_root [] h = refl
none_by_root (n ∷ ns) h =
    let some : (n.seat == 0) ≡ false = not_root n.seat n.event (All-head ByMaker n ns h) in
    rw some (none_by_root ns (All-tail ByMaker n ns h))
  where
    not_root : (k : ℕ) (e : Event) → MayMake k e → (k == 0) ≡ false
    not_root k (Start v i) m = grind (arith, nat_tests)
    not_root k (Reply v i c) m = grind (arith, nat_tests)
    not_root k (Death v) m = grind (arith, nat_tests)
    not_root k (Restart v) m = grind (arith, nat_tests)
    not_root k (Retire v) m = grind (arith, nat_tests)
    not_root k (Miss i p) m = grind (arith, nat_tests)
