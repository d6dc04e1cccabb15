-- Marking items until no more can be marked marks those that are founded.
use Rattle.std.proofs.Common.{ℕ, zero, suc, ◌≡◌, ◌≢◌, ◌+◌, ◌<◌, ◌≤◌, Bool, true, false, List, [], ◌++◌, length, Some, refl, ap, sym, ◌∙◌, subst, inl, inr, ◌⊎◌, arith, get_or, set, take, get_or-set_same, get_or-set_other, Contains}
use Rattle.std.specs.Prelude.{All, slice_get}
use Rattle.std.specs.Vec.{vec_capacity}
use Rattle.std.proofs.lemmas.List.{get_or_default, take_all}
use Rattle.std.proofs.lemmas.Bool.{cases_eq, cases_Bool}
use Rattle.std.proofs.lemmas.List.Sums.{AllPass-from_list_all}
use Rattle.replay_core.specs.declared.plan.Plan.{Plan}
use Rattle.replay_core.specs.declared.plan.Dep.{Dep}
use Rattle.replay_core.specs.declared.plan.Dep.TheVariants.{Item, Absent}
use Rattle.replay_core.specs.declared.worklist.Worklist.{Worklist}
use Rattle.replay_core.specs.Plans.{items_of, deps_of, is_item_of, is_founded_within, Founded, IsFoundedItem}
use Rattle.replay_core.specs.Histories.{IsInRange, IsPlan}
use Rattle.replay_core.specs.Notes.{MarksFounded}
use Rattle.replay_core.specs.Worklists.{rows_of, work_of, IsList, IsFirstList, ListGrows}
use Rattle.replay_core.specs.Searching.{is_marked_in, is_marked_dep, IsMarked, IsClosed, MarkedFounded, IsUnmarked, StopsAt, ItemStops, IsSearch, WasLookedAt}
use Rattle.replay_core.proofs.Ends.{founded_parts, not_founded_zero}
use Rattle.replay_core.proofs.Grounds.{founded_closed, item_of_more}
use Rattle.replay_core.proofs.Prospects.{All-at}
use Rattle.replay_core.proofs.Listing.{none_contained, none_passed, list_first, list_passed, list_stopped, list_next}

marked_item : (plan : Plan) (marks : List Bool) → MarkedFounded plan marks → (d : Dep) → IsInRange (items_of plan) d → IsMarked marks d → IsFoundedItem plan d
marked_item plan marks m (Item j) l h = m j l h
marked_item plan marks m (Absent key) l h = absurd (let e : false ≡ true = h in cc)

founded_by_marks : (plan : Plan) (marks : List Bool) (i : ℕ) → IsPlan plan → MarkedFounded plan marks → i < items_of plan → All (IsMarked marks) (deps_of plan i) → Founded plan i
founded_by_marks plan marks i p m l all = founded_closed plan i l (λ k d h. marked_item plan marks m _ (p.in_range i [] l k d h) (all k d h))

closed_marks : (plan : Plan) (marks : List Bool) → IsClosed plan marks → (n i : ℕ) → is_founded_within plan n i ≡ true → is_marked_in marks i ≡ true
closed_marks plan marks c zero i h = absurd (not_founded_zero plan i h)
closed_marks plan marks c (suc n) i h =
    let parts = founded_parts plan n i h in
    c i parts.0 (λ k d l. item_of_more (is_founded_within plan n) (is_marked_in marks) (closed_marks plan marks c n) _ (AllPass-from_list_all (is_item_of (is_founded_within plan n)) (deps_of plan i) parts.1 k d l))

-- a mark stays
still_marked : (marks : List Bool) (item i : ℕ) → item < length marks → is_marked_in marks i ≡ true → is_marked_in (set marks item true) i ≡ true
still_marked marks item i l h = elim (cases_eq i item) [
  | inl same ↦ subst (λ x. is_marked_in (set marks item true) x ≡ true) (sym same) (get_or-set_same marks item true false l)
  | inr apart ↦ get_or-set_other marks item i true false apart ∙ h
]

still_met : (marks : List Bool) (item : ℕ) → item < length marks → (d : Dep) → IsMarked marks d → IsMarked (set marks item true) d
still_met marks item l d h = item_of_more (is_marked_in marks) (is_marked_in (set marks item true)) (λ j. still_marked marks item j l) d h

-- an item that is not marked yet is another one than the item that was
other_item : (marks : List Bool) (item i : ℕ) → item < length marks → is_marked_in (set marks item true) i ≡ false → i ≢ item
other_item marks item i l h same =
    let on : is_marked_in (set marks item true) i ≡ true = subst (λ x. is_marked_in (set marks item true) x ≡ true) (sym same) (get_or-set_same marks item true false l) in
    let wrong : true ≡ false = sym on ∙ h in cc

unmarked_before : (marks : List Bool) (item i : ℕ) → item < length marks → is_marked_in (set marks item true) i ≡ false → is_marked_in marks i ≡ false
unmarked_before marks item i l h = sym (get_or-set_other marks item i true false (other_item marks item i l h)) ∙ h

-- what stopped at the item that is marked now is one of its users; what stopped elsewhere stops there still
stop_or_look : (marks : List Bool) (deps : List Dep) (row : List ℕ) (item i place : ℕ) (d : Dep) → slice_get deps place ≡ Some d → is_marked_dep marks d ≡ false → ((j : ℕ) → d ≡ Item j → j ≡ item → Contains row i) → Contains row i ⊎ StopsAt (set marks item true) deps place
stop_or_look marks deps row item i place (Absent key) at off user = inr (Absent key, at, refl)
stop_or_look marks deps row item i place (Item j) at off user = elim (cases_eq j item) [ inl same ↦ inl (user j refl same) | inr apart ↦ inr (Item j, at, get_or-set_other marks item j true false apart ∙ off) ]

-- before any look nothing is marked
pub search_first : (plan : Plan) (list : Worklist) → IsFirstList plan list → IsSearch plan list
search_first plan list f = record {
  kept = list_first plan (IsMarked list.passed.items) (IsUnmarked plan list.passed.items) (ItemStops plan list.passed.items) list f (λ i h. h.0);
  founded = λ k l on. absurd (let off = none_passed (items_of plan) k list.passed.items f.passed in let wrong : false ≡ true = sym off ∙ on in cc);
}

-- an item whose dependencies are marked was passed on, and so marked
pub search_passed : (plan : Plan) (old new : Worklist) (item : ℕ) → IsPlan plan → IsSearch plan old → item < items_of plan → All (IsMarked old.passed.items) (deps_of plan item) →
    new.passed.items ≡ set old.passed.items item true → new.fresh.items ≡ old.fresh.items ++ get_or (rows_of old.users) item [] → vec_capacity old.fresh ≤ vec_capacity new.fresh → work_of new ≡ work_of old →
    new ≡ record old { passed = new.passed; fresh = new.fresh } → IsSearch plan new
search_passed plan old new item p q inside met passed fresh room work rest =
    let marks = old.passed.items in
    let within : item < length marks = omega (arith, q.kept.fit.passed_len, inside) in
    record {
      kept = subst (λ ms. IsList plan (IsMarked ms) (IsUnmarked plan ms) (ItemStops plan ms) new) (sym passed)
          (list_passed plan (IsMarked marks) (IsMarked (set marks item true)) (IsUnmarked plan marks) (IsUnmarked plan (set marks item true)) (ItemStops plan marks) (ItemStops plan (set marks item true)) old new item q.kept
          (still_met marks item within)
          (λ i h. (h.0, unmarked_before marks item i within h.1))
          (λ i h stops. stop_or_look marks (deps_of plan i) (get_or (rows_of old.users) item []) item i (get_or old.progress.items i 0) stops.0 stops.1 stops.2
          (λ j is same. subst (λ x. Contains (get_or (rows_of old.users) x []) i) same (q.kept.fit.users_are.all i (get_or old.progress.items i 0) j h.0 (stops.1 ∙ ap (λ d. Some d) is))))
          passed fresh room work rest);
      founded = subst (MarkedFounded plan) (sym passed) (λ k l on. elim (cases_eq k item) [
        | inl same ↦ subst (Founded plan) (sym same) (founded_by_marks plan marks item p q.founded inside met)
        | inr apart ↦ q.founded k l (sym (get_or-set_other marks item k true false apart) ∙ on)
      ]);
    }

-- an item has come further, and stops there
pub search_stopped : (plan : Plan) (old new : Worklist) (item place : ℕ) → IsSearch plan old → item < items_of plan → place ≤ length (deps_of plan item) → All (IsMarked old.passed.items) (take place (deps_of plan item)) → StopsAt old.passed.items (deps_of plan item) place →
    new.progress.items ≡ set old.progress.items item place → new ≡ record old { progress = new.progress } → IsSearch plan new
search_stopped plan old new item place q inside within met stops progress rest =
    let marks = old.passed.items in
    let same : new.passed.items ≡ marks = ap (λ (x : Worklist). x.passed.items) rest in
    record {
      kept = subst (λ ms. IsList plan (IsMarked ms) (IsUnmarked plan ms) (ItemStops plan ms) new) (sym same)
          (list_stopped plan (IsMarked marks) (IsUnmarked plan marks) (ItemStops plan marks) old new item place q.kept inside within met stops progress rest);
      founded = subst (MarkedFounded plan) (sym same) q.founded;
    }

-- the next item was looked at
pub search_next : (plan : Plan) (before list : Worklist) (item : ℕ) → IsSearch plan list → WasLookedAt plan list item → before.head < length before.fresh.items → item ≡ get_or before.fresh.items before.head item → ListGrows before list → list.head ≡ before.head →
    IsSearch plan (record list { head = list.head + 1 })
search_next plan before list item q looked l got grows same = record {
  kept = list_next plan (IsMarked list.passed.items) (IsUnmarked plan list.passed.items) (ItemStops plan list.passed.items) before list item q.kept (λ h. looked h.1) l got grows same;
  founded = q.founded;
}

-- where nothing is left to look at, the marks are those of the founded items
pub search_done : (plan : Plan) (list : Worklist) → IsSearch plan list → list.head ≡ length list.fresh.items → MarksFounded plan list.passed.items
search_done plan list q done =
    let marks = list.passed.items in
    let closed : IsClosed plan marks = λ i l all. elim (cases_Bool (is_marked_in marks i)) [
      | inl on ↦ on
      | inr off ↦ elim (q.kept.fit.others_hang i (l, off)) [
        | inl there ↦ absurd (none_contained list.fresh.items list.head i done there)
        | inr stops ↦ absurd (let on : is_marked_dep marks stops.0 ≡ true = All-at (IsMarked marks) (deps_of plan i) _ stops.0 stops.1 all in let wrong : true ≡ false = sym on ∙ stops.2 in cc)
      ]
    ] in
    record {
      items = q.kept.fit.passed_len;
      marked = q.founded;
      unmarked = λ i l h f. (let marked = closed_marks plan marks closed f.0 i f.1 in let wrong : false ≡ true = sym h ∙ marked in cc);
    }

-- what was read of an item's dependencies are its dependencies
pub deps_read : (plan : Plan) (i : ℕ) (rows : List (List Dep)) (row deps : List Dep) → i < items_of plan → rows ≡ plan.deps → row ≡ get_or rows i row → deps ≡ row → deps ≡ deps_of plan i
deps_read plan i rows row deps inside rows_are row_is deps_are = deps_are ∙ (row_is ∙ (ap (λ rs. get_or rs i row) rows_are ∙ get_or_default plan.deps i row [] inside))

-- an item was looked at, and stops
pub look_stops : (plan : Plan) (old new : Worklist) (marks_read : List Bool) (item place : ℕ) (deps : List Dep) → deps ≡ deps_of plan item → marks_read ≡ old.passed.items → IsSearch plan old → item < items_of plan →
    place ≤ length deps → All (IsMarked marks_read) (take place deps) → StopsAt marks_read deps place → new.progress.items ≡ set old.progress.items item place → new ≡ record old { progress = new.progress } → IsSearch plan new
look_stops plan old new marks_read item place deps deps_are marks_are q inside within met stops progress rest =
    search_stopped plan old new item place q inside (subst (λ ds. place ≤ length ds) deps_are within)
    (subst (λ ds. All (IsMarked old.passed.items) (take place ds)) deps_are (subst (λ ms. All (IsMarked ms) (take place deps)) marks_are met))
    (subst (λ ds. StopsAt old.passed.items ds place) deps_are (subst (λ ms. StopsAt ms deps place) marks_are stops)) progress rest

-- an item was looked at, and all its dependencies are marked
pub look_meets : (plan : Plan) (marks marks_read : List Bool) (item place : ℕ) (deps : List Dep) → deps ≡ deps_of plan item → marks_read ≡ marks → length deps ≤ place → All (IsMarked marks_read) (take place deps) → All (IsMarked marks) (deps_of plan item)
look_meets plan marks marks_read item place deps deps_are marks_are all met =
    subst (All (IsMarked marks)) (take_all place deps all ∙ deps_are) (subst (λ ms. All (IsMarked ms) (take place deps)) marks_are met)
