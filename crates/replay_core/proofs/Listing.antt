-- The list of items that are to be looked at, after each step that is made on it.
use Rattle.std.proofs.Common.{ℕ, zero, suc, ◌≡◌, ◌+◌, ◌<◌, ◌≤◌, Bool, true, false, List, [], ◌∷◌, ◌++◌, length, ap, sym, ◌∙◌, subst, inl, inr, ◌⊎◌, arith, get_or, set, take, drop, replicate, get_or-set_same, get_or-set_other, Contains}
use Rattle.std.specs.Prelude.{All, sum_by, Vec}
use Rattle.std.specs.Global.{Global}
use Rattle.std.specs.Vec.{vec_capacity}
use Rattle.std.proofs.lemmas.List.{length-set, length-append, length-replicate, drop-append-le, drop_more, drop_all, get_or-replicate, get_or_past, get_or_append_left}
use Rattle.std.proofs.lemmas.List.Folds.{fold-map}
use Rattle.std.proofs.lemmas.List.Sums.{sum_by-cons}
use Rattle.std.proofs.lemmas.List.Elements.{All-append, All-nil, All-from_get_or, Contains-append_left, Contains-append_right, Contains-get_or}
use Rattle.std.proofs.lemmas.Bool.{cases_eq, cases_lt}
use Rattle.replay_core.specs.declared.plan.Plan.{Plan}
use Rattle.replay_core.specs.declared.plan.Dep.{Dep}
use Rattle.replay_core.specs.declared.worklist.Worklist.{Worklist}
use Rattle.replay_core.specs.Plans.{items_of, deps_of}
use Rattle.replay_core.specs.Worklists.{rows_of, left_in, work_of, AreUsers, IsUpTo, ListFits, IsList, IsFirstList, ListGrows}

-- how many looks are left

left_le : (rows : List (List ℕ)) (passed : List Bool) → left_in rows passed ≤ sum_by length rows
unfolding left_in
left_le [] passed = let g : 0 ≤ sum_by (length {A = ℕ}) [] = omega arith in g
left_le (row ∷ rows) [] = let g : 0 ≤ sum_by length (row ∷ rows) = omega arith in g
left_le (row ∷ rows) (true ∷ passed) =
    let rest = left_le rows passed in
    let first : sum_by length (row ∷ rows) ≡ length row + sum_by length rows = sum_by-cons length row rows in
    let g : left_in rows passed ≤ sum_by length (row ∷ rows) = omega (arith, rest, first) in g
left_le (row ∷ rows) (false ∷ passed) =
    let rest = left_le rows passed in
    let first : sum_by length (row ∷ rows) ≡ length row + sum_by length rows = sum_by-cons length row rows in
    let g : length row + left_in rows passed ≤ sum_by length (row ∷ rows) = omega (arith, rest, first) in g

-- the users of an item that is passed on are left no more
left_set : (rows : List (List ℕ)) (passed : List Bool) (k : ℕ) → k < length rows → k < length passed → get_or passed k false ≡ false → left_in rows (set passed k true) + length (get_or rows k []) ≡ left_in rows passed
unfolding left_in
left_set [] passed k l m h = absurd (omega (arith, l))
left_set (row ∷ rows) [] k l m h = absurd (omega (arith, m))
left_set (row ∷ rows) (true ∷ passed) zero l m h = absurd (let wrong : true ≡ false = h in cc)
left_set (row ∷ rows) (false ∷ passed) zero l m h = let g : left_in rows passed + length row ≡ length row + left_in rows passed = omega arith in g
left_set (row ∷ rows) (true ∷ passed) (suc k) l m h = left_set rows passed k (omega (arith, l)) (omega (arith, m)) h
left_set (row ∷ rows) (false ∷ passed) (suc k) l m h =
    let rest = left_set rows passed k (omega (arith, l)) (omega (arith, m)) h in
    let g : (length row + left_in rows (set passed k true)) + length (get_or rows k []) ≡ length row + left_in rows passed = omega (arith, rest) in g

pub work_same : (old : Worklist) (passed : List Bool) (fresh : List ℕ) (item : ℕ) → item < length (rows_of old.users) → item < length old.passed.items → get_or old.passed.items item false ≡ false →
    passed ≡ set old.passed.items item true → fresh ≡ old.fresh.items ++ get_or (rows_of old.users) item [] → length fresh + left_in (rows_of old.users) passed ≡ work_of old
work_same old passed fresh item l m off passed_is fresh_is =
    let len : length fresh ≡ length old.fresh.items + length (get_or (rows_of old.users) item []) = ap length fresh_is ∙ length-append old.fresh.items (get_or (rows_of old.users) item []) in
    let left : left_in (rows_of old.users) passed ≡ left_in (rows_of old.users) (set old.passed.items item true) = ap (left_in (rows_of old.users)) passed_is in
    let step = left_set (rows_of old.users) old.passed.items item l m off in
    omega (arith, len, left, step)

-- an item that was not passed on has no more users than are left
pub row_le : (rows : List (List ℕ)) (passed : List Bool) (k : ℕ) → k < length rows → k < length passed → get_or passed k false ≡ false → length (get_or rows k []) ≤ left_in rows passed
row_le rows passed k l m h = let step = left_set rows passed k l m h in omega (arith, step)

pub room_first : (users : Vec (Vec ℕ Global) Global) (passed : List Bool) (fresh : Vec ℕ Global) (n room : ℕ) → IsUpTo n fresh.items → room ≡ sum_by (λ (v : Vec ℕ Global). length v.items) users.items → n + room ≤ vec_capacity fresh →
    length fresh.items + left_in (rows_of users) passed ≤ vec_capacity fresh
room_first users passed fresh n room up is fits =
    let total : sum_by length (rows_of users) ≡ sum_by (λ (v : Vec ℕ Global). length v.items) users.items = fold-map (λ a (x : List ℕ). a + length x) (λ (v : Vec ℕ Global). v.items) 0 users.items in
    let left = left_le (rows_of users) passed in
    omega (arith, up.0, total, left, is, fits)

-- the users of an item are items

row_items : (plan : Plan) (users : List (List ℕ)) (item : ℕ) → AreUsers plan (items_of plan) users → All (λ i. i < items_of plan) (get_or users item [])
row_items plan users item a = All-from_get_or (λ i. i < items_of plan) (get_or users item []) 0 (λ i m. a.items item _ (Contains-get_or (get_or users item []) i 0 m))

contains_cons : {X : Type 0} (x y : X) (zs : List X) → Contains (y ∷ zs) x → (y ≡ x) ⊎ Contains zs x
contains_cons x y zs (zero, l, e) = inl e
contains_cons x y zs (suc k, l, e) = inr (k, omega arith, e)

pub contains_later : {X : Type 0} (xs : List X) (n : ℕ) (d x : X) → n < length xs → Contains (drop n xs) x → (get_or xs n d ≡ x) ⊎ Contains (drop (n + 1) xs) x
contains_later xs n d x l h = contains_cons x (get_or xs n d) (drop (n + 1) xs) (subst (λ l. Contains l x) (drop_more xs n d l) h)

pub none_contained : {X : Type 0} (xs : List X) (n : ℕ) (x : X) → n ≡ length xs → Contains (drop n xs) x → ⊥
none_contained xs n x e c = let c' = subst (λ ys. Contains ys x) (drop_all n xs (omega arith)) c in absurd (omega (arith, c'.1))

-- an item was passed on: what hung on it is one of its users, and what hung elsewhere hangs there still
fit_passed : (plan : Plan) (Met Met' : Dep → Type 0) (Waits Waits' : ℕ → Type 0) (Hangs Hangs' : ℕ → ℕ → Type 0) (users : List (List ℕ)) (passed : List Bool) (progress fresh : List ℕ) (head item : ℕ) →
    ListFits plan Met Waits Hangs users passed progress fresh head → ((d : Dep) → Met d → Met' d) → ((i : ℕ) → Waits' i → Waits i) →
    ((i : ℕ) → Waits' i → Hangs (get_or progress i 0) i → Contains (get_or users item []) i ⊎ Hangs' (get_or progress i 0) i) →
    ListFits plan Met' Waits' Hangs' users (set passed item true) progress (fresh ++ get_or users item []) head
fit_passed plan Met Met' Waits Waits' Hangs Hangs' users passed progress fresh head item q met waits hangs = record {
  users_are = q.users_are;
  passed_len = length-set passed item true ∙ q.passed_len;
  progress_len = q.progress_len;
  head_inside = omega (arith, q.head_inside, length-append fresh (get_or users item []));
  fresh_items = All-append (λ i. i < items_of plan) fresh (get_or users item []) q.fresh_items (row_items plan users item q.users_are);
  progress_inside = q.progress_inside;
  progress_met = λ i l k d m. met _ (q.progress_met i l k d m);
  others_hang = λ i w. (
      let more : drop head (fresh ++ get_or users item []) ≡ drop head fresh ++ get_or users item [] = drop-append-le head fresh (get_or users item []) q.head_inside in
      elim (q.others_hang i (waits i w)) [
        | inl there ↦ inl (subst (λ xs. Contains xs i) (sym more) (Contains-append_left (drop head fresh) (get_or users item []) i there))
        | inr hung ↦ elim (hangs i w hung) [
          | inl user ↦ inl (subst (λ xs. Contains xs i) (sym more) (Contains-append_right (drop head fresh) (get_or users item []) i user))
          | inr on ↦ inr on
        ]
      ]);
}

-- an item has come further, and hangs there
fit_stopped : (plan : Plan) (Met : Dep → Type 0) (Waits : ℕ → Type 0) (Hangs : ℕ → ℕ → Type 0) (users : List (List ℕ)) (passed : List Bool) (progress fresh : List ℕ) (head item place : ℕ) →
    ListFits plan Met Waits Hangs users passed progress fresh head → item < items_of plan → place ≤ length (deps_of plan item) → All Met (take place (deps_of plan item)) → Hangs place item →
    ListFits plan Met Waits Hangs users passed (set progress item place) fresh head
fit_stopped plan Met Waits Hangs users passed progress fresh head item place q inside within met hangs = record {
  users_are = q.users_are;
  passed_len = q.passed_len;
  progress_len = length-set progress item place ∙ q.progress_len;
  head_inside = q.head_inside;
  fresh_items = q.fresh_items;
  progress_inside = λ i l. at i (λ n. n ≤ length (deps_of plan i)) (λ same. subst (λ x. place ≤ length (deps_of plan x)) (sym same) within) (q.progress_inside i l);
  progress_met = λ i l. at i (λ n. All Met (take n (deps_of plan i))) (λ same. subst (λ x. All Met (take place (deps_of plan x))) (sym same) met) (q.progress_met i l);
  others_hang = λ i w. at i (λ n. Contains (drop head fresh) i ⊎ Hangs n i) (λ same. inr (subst (λ x. Hangs place x) (sym same) hangs)) (q.others_hang i w);
}
  where
    at : (i : ℕ) (P : ℕ → Type 0) → (i ≡ item → P place) → P (get_or progress i 0) → P (get_or (set progress item place) i 0)
    at i P new old = elim (cases_eq i item) [
      | inl same ↦ subst P (sym (ap (λ x. get_or (set progress item place) x 0) same ∙ get_or-set_same progress item place 0 (omega (arith, q.progress_len, inside)))) (new same)
      | inr apart ↦ subst P (sym (get_or-set_other progress item i place 0 apart)) old
    ]

-- the next item was looked at
fit_next : (plan : Plan) (Met : Dep → Type 0) (Waits : ℕ → Type 0) (Hangs : ℕ → ℕ → Type 0) (users : List (List ℕ)) (passed : List Bool) (progress fresh : List ℕ) (head item : ℕ) →
    ListFits plan Met Waits Hangs users passed progress fresh head → head < length fresh → item ≡ get_or fresh head item → (Waits item → Hangs (get_or progress item 0) item) →
    ListFits plan Met Waits Hangs users passed progress fresh (head + 1)
fit_next plan Met Waits Hangs users passed progress fresh head item q l is hangs = record {
  users_are = q.users_are;
  passed_len = q.passed_len;
  progress_len = q.progress_len;
  head_inside = omega (arith, l);
  fresh_items = q.fresh_items;
  progress_inside = q.progress_inside;
  progress_met = q.progress_met;
  others_hang = λ i w. elim (q.others_hang i w) [
    | inl there ↦ elim (contains_later fresh head item i l there) [
      | inl here ↦ inr (let same : item ≡ i = is ∙ here in subst (λ x. Waits x → Hangs (get_or progress x 0) x) same hangs w)
      | inr later ↦ inl later
    ]
    | inr on ↦ inr on
  ];
}

-- an item was passed on
pub list_passed : (plan : Plan) (Met Met' : Dep → Type 0) (Waits Waits' : ℕ → Type 0) (Hangs Hangs' : ℕ → ℕ → Type 0) (old new : Worklist) (item : ℕ) →
    IsList plan Met Waits Hangs old → ((d : Dep) → Met d → Met' d) → ((i : ℕ) → Waits' i → Waits i) →
    ((i : ℕ) → Waits' i → Hangs (get_or old.progress.items i 0) i → Contains (get_or (rows_of old.users) item []) i ⊎ Hangs' (get_or old.progress.items i 0) i) →
    new.passed.items ≡ set old.passed.items item true → new.fresh.items ≡ old.fresh.items ++ get_or (rows_of old.users) item [] → vec_capacity old.fresh ≤ vec_capacity new.fresh → work_of new ≡ work_of old →
    new ≡ record old { passed = new.passed; fresh = new.fresh } → IsList plan Met' Waits' Hangs' new
list_passed plan Met Met' Waits Waits' Hangs Hangs' old new item q met waits hangs passed fresh room work rest = record {
  fit =
      subst (λ (x : Worklist). ListFits plan Met' Waits' Hangs' (rows_of x.users) new.passed.items x.progress.items new.fresh.items x.head) (sym rest)
      (subst (λ ps. ListFits plan Met' Waits' Hangs' (rows_of old.users) ps old.progress.items new.fresh.items old.head) (sym passed)
      (subst (λ fs. ListFits plan Met' Waits' Hangs' (rows_of old.users) (set old.passed.items item true) old.progress.items fs old.head) (sym fresh)
      (fit_passed plan Met Met' Waits Waits' Hangs Hangs' (rows_of old.users) old.passed.items old.progress.items old.fresh.items old.head item q.fit met waits hangs)));
  room = let was = q.room in omega (arith, was, room, work);
}

-- the same list, where other things are met, wait and hang
pub list_on : (plan : Plan) (Met Met' : Dep → Type 0) (Waits Waits' : ℕ → Type 0) (Hangs Hangs' : ℕ → ℕ → Type 0) (list : Worklist) →
    IsList plan Met Waits Hangs list → ((d : Dep) → Met d → Met' d) → ((i : ℕ) → Waits' i → Waits i) → ((place i : ℕ) → Hangs place i → Hangs' place i) → IsList plan Met' Waits' Hangs' list
list_on plan Met Met' Waits Waits' Hangs Hangs' list q met waits hangs = record {
  fit = record {
    users_are = q.fit.users_are;
    passed_len = q.fit.passed_len;
    progress_len = q.fit.progress_len;
    head_inside = q.fit.head_inside;
    fresh_items = q.fit.fresh_items;
    progress_inside = q.fit.progress_inside;
    progress_met = λ i l k d m. met _ (q.fit.progress_met i l k d m);
    others_hang = λ i w. elim (q.fit.others_hang i (waits i w)) [ inl there ↦ inl there | inr hung ↦ inr (hangs _ i hung) ];
  };
  room = q.room;
}

-- an item has come further
pub list_stopped : (plan : Plan) (Met : Dep → Type 0) (Waits : ℕ → Type 0) (Hangs : ℕ → ℕ → Type 0) (old new : Worklist) (item place : ℕ) →
    IsList plan Met Waits Hangs old → item < items_of plan → place ≤ length (deps_of plan item) → All Met (take place (deps_of plan item)) → Hangs place item →
    new.progress.items ≡ set old.progress.items item place → new ≡ record old { progress = new.progress } → IsList plan Met Waits Hangs new
list_stopped plan Met Waits Hangs old new item place q inside within met hangs progress rest = record {
  fit =
      subst (λ (x : Worklist). ListFits plan Met Waits Hangs (rows_of x.users) x.passed.items new.progress.items x.fresh.items x.head) (sym rest)
      (subst (λ ps. ListFits plan Met Waits Hangs (rows_of old.users) old.passed.items ps old.fresh.items old.head) (sym progress)
      (fit_stopped plan Met Waits Hangs (rows_of old.users) old.passed.items old.progress.items old.fresh.items old.head item place q.fit inside within met hangs));
  room = subst (λ (x : Worklist). work_of x ≤ vec_capacity x.fresh) (sym rest) q.room;
}

-- the next item was looked at
pub list_next : (plan : Plan) (Met : Dep → Type 0) (Waits : ℕ → Type 0) (Hangs : ℕ → ℕ → Type 0) (before list : Worklist) (item : ℕ) →
    IsList plan Met Waits Hangs list → (Waits item → Hangs (get_or list.progress.items item 0) item) → before.head < length before.fresh.items → item ≡ get_or before.fresh.items before.head item → ListGrows before list → list.head ≡ before.head →
    IsList plan Met Waits Hangs (record list { head = list.head + 1 })
list_next plan Met Waits Hangs before list item q looked l got grows same =
    let more : length list.fresh.items ≡ length before.fresh.items + length grows.0 = ap length grows.1 ∙ length-append before.fresh.items grows.0 in
    let inside : list.head < length list.fresh.items = omega (arith, l, same, more) in
    let here : item ≡ get_or list.fresh.items list.head item =
    got ∙ (sym (get_or_append_left before.fresh.items grows.0 item before.head l) ∙ (ap (λ xs. get_or xs before.head item) (sym grows.1) ∙ ap (λ n. get_or list.fresh.items n item) (sym same))) in
    record {
      fit = fit_next plan Met Waits Hangs (rows_of list.users) list.passed.items list.progress.items list.fresh.items list.head item q.fit inside here looked;
      room = q.room;
    }

-- before any look all is still to be looked at
pub list_first : (plan : Plan) (Met : Dep → Type 0) (Waits : ℕ → Type 0) (Hangs : ℕ → ℕ → Type 0) (list : Worklist) → IsFirstList plan list → ((i : ℕ) → Waits i → i < items_of plan) → IsList plan Met Waits Hangs list
list_first plan Met Waits Hangs list f waits =
    let n = items_of plan in
    let fresh = list.fresh.items in
    let zeros : (i : ℕ) → i < n → get_or list.progress.items i 0 ≡ 0 = λ i l. ap (λ xs. get_or xs i 0) f.progress ∙ get_or-replicate n i 0 0 l in
    record {
      fit = record {
        users_are = f.users;
        passed_len = ap length f.passed ∙ length-replicate n false;
        progress_len = ap length f.progress ∙ length-replicate n 0;
        head_inside = omega (arith, f.head);
        fresh_items = All-from_get_or (λ i. i < n) fresh 0 (λ i l. subst (λ x. x < n) (sym (f.fresh.1 i (omega (arith, l, f.fresh.0)))) (omega (arith, l, f.fresh.0)));
        progress_inside = λ i l. rw (zeros i l) (omega arith);
        progress_met = λ i l. subst (λ m. All Met (take m (deps_of plan i))) (sym (zeros i l)) (All-nil Met);
        others_hang = λ i w. (let l = waits i w in inl (subst (λ m. Contains (drop m fresh) i) (sym f.head) (subst (Contains fresh) (f.fresh.1 i l) (Contains-get_or fresh i 0 (omega (arith, l, f.fresh.0))))));
      };
      room = f.room;
    }

-- no item was passed on yet
pub none_passed : (n j : ℕ) (passed : List Bool) → passed ≡ replicate n false → get_or passed j false ≡ false
none_passed n j passed is = ap (λ xs. get_or xs j false) is ∙ elim (cases_lt j n) [
  | inl l ↦ get_or-replicate n j false false l
  | inr g ↦ get_or_past (replicate n false) j false (omega (arith, g, length-replicate n false))
]
