-- What is published of a scheduler's events.
use Rattle.std.proofs.Common.{◌≡◌, ◌+◌, ◌≤◌, List, [], ◌∷◌, ◌++◌, length, take, All, sym, subst, length-append, arith}
use Rattle.std.proofs.lemmas.List.{length-take, take_all, take-append-le}
use Rattle.std.proofs.lemmas.List.Elements.{All-head, All-tail, All-nil, All-cons, All-append}
use Rattle.replay_core.specs.declared.counts.Counts.{Counts}
use Rattle.replay_core.specs.declared.event.Event.{Event}
use Rattle.replay_core.specs.Runs.{Setup}
use Rattle.replay_core.specs.Histories.{History, with_events}
use Rattle.replay_core.specs.Counting.{IsCountOf}
use Rattle.progress_block.specs.Rows.{EndsWith}
use Rattle.replay_board.specs.Counted.{IsCountOfPrefix, AreCounted}

no_end : (rows : List Counts) (c : Counts) → rows ++ c ∷ [] ≡ [] → ⊥
no_end [] c e = cc
no_end (x ∷ xs) c e = cc

last_same : (f g : List Counts) (c d : Counts) → f ++ c ∷ [] ≡ g ++ d ∷ [] → c ≡ d
last_same [] [] c d e = cc
last_same [] (y ∷ ys) c d e = absurd (no_end ys d (let t : [] ≡ ys ++ d ∷ [] = cc in sym t))
last_same (x ∷ xs) [] c d e = absurd (no_end xs c (let t : xs ++ c ∷ [] ≡ [] = cc in t))
last_same (x ∷ xs) (y ∷ ys) c d e = last_same xs ys c d (let t : xs ++ c ∷ [] ≡ ys ++ d ∷ [] = cc in t)

prefixes : (s : Setup) (events added : List Event) (rows : List Counts) → All (IsCountOfPrefix s events) rows → All (IsCountOfPrefix s (events ++ added)) rows
prefixes s events added [] h = All-nil (IsCountOfPrefix s (events ++ added))
prefixes s events added (r ∷ rs) h =
    let one = All-head (IsCountOfPrefix s events) r rs h in
    let within : r.events ≤ length events = (let e = one.events in let l = length-take r.events events in omega arith) in
    let here : IsCountOfPrefix s (events ++ added) r = subst (λ (z : List Event). IsCountOf s z r) (sym (take-append-le r.events events added within)) one in
    All-cons (IsCountOfPrefix s (events ++ added)) r rs here (prefixes s events added rs (All-tail (IsCountOfPrefix s events) r rs h))

-- one row more, of all events
pub counted_more : (s : Setup) (events added : List Event) (rows : List Counts) (row : Counts) → AreCounted s events rows → IsCountOf s (events ++ added) row → AreCounted s (events ++ added) (rows ++ row ∷ [])
counted_more s events added rows row h c =
    let P : Counts → Type 0 = IsCountOfPrefix s (events ++ added) in
    let all : take row.events (events ++ added) ≡ events ++ added = take_all row.events (events ++ added) (let e = c.events in omega arith) in
    let whole : P row = subst (λ (z : List Event). IsCountOf s z row) (sym all) c in
    record {
      each = All-append P rows (row ∷ []) (prefixes s events added rows h.each) (All-cons P row [] whole (All-nil P));
      last = λ l e. subst (IsCountOf s (events ++ added)) (last_same rows e.0 row l e.1) c;
    }

-- the first row
pub counted_first : (s : Setup) (row : Counts) → IsCountOf s [] row → AreCounted s [] (row ∷ [])
counted_first s row c = counted_more s [] [] [] row (record { each = All-nil (IsCountOfPrefix s []); last = λ l e. absurd (no_end e.0 l (sym e.1)) }) c

-- the last row counts no more events than there are
pub last_below : (s : Setup) (events added : List Event) (rows : List Counts) (row last : Counts) → AreCounted s events rows → IsCountOf s (events ++ added) row → EndsWith rows last → last.events ≤ row.events
last_below s events added rows row last h c e =
    let old : last.events ≡ length events = (h.last last e).events in
    let new : row.events ≡ length (events ++ added) = c.events in
    let all : length (events ++ added) ≡ length events + length added = length-append events added in
    omega arith

-- the same of equal events and rows
pub counted_at : (s t : Setup) (es fs : List Event) (rows seen : List Counts) → s ≡ t → es ≡ fs → rows ≡ seen → AreCounted t fs seen → AreCounted s es rows
counted_at s t es fs rows seen a b e h = subst (λ (x : Setup). AreCounted x es rows) (sym a) (subst (λ (x : List Event). AreCounted t x rows) (sym b) (subst (AreCounted t fs) (sym e) h))

-- the row after a call, after those from before it
pub later_row : (before after : History) (added : List Event) → after ≡ with_events before added → (rows : List Counts) (row last : Counts) → AreCounted before.setup before.events rows → IsCountOf after.setup after.events row → EndsWith rows last → last.events ≤ row.events
later_row before after added is rows row last h c e = last_below before.setup before.events added rows row last h (subst (λ (x : History). IsCountOf x.setup x.events row) is c) e

pub counted_grown : (before after : History) (added : List Event) → after ≡ with_events before added → (rows : List Counts) (row : Counts) → AreCounted before.setup before.events rows → IsCountOf after.setup after.events row → AreCounted after.setup after.events (rows ++ row ∷ [])
counted_grown before after added is rows row h c = subst (λ (x : History). AreCounted x.setup x.events (rows ++ row ∷ [])) (sym is) (counted_more before.setup before.events added rows row h (subst (λ (x : History). IsCountOf x.setup x.events row) is c))
