-- The users of each item.
use Rattle.std.proofs.Common.{ℕ, zero, suc, ◌≡◌, ◌+◌, ◌<◌, ◌≤◌, List, [], ◌∷◌, ◌++◌, length, Some, None, refl, ap, sym, ◌∙◌, subst, inl, inr, ◌⊎◌, arith, get_or, set, take, replicate, ◌^◌, get_or-set_same, get_or-set_other, Contains}
use Rattle.std.specs.Prelude.{slice_get, sum_by}
use Rattle.replay_core.specs.declared.plan.Plan.{Plan}
use Rattle.replay_core.specs.Plans.{items_of, deps_of}
use Rattle.std.proofs.lemmas.List.{length-set, take_more, length_push, get_or_default, get_or-replicate, length-replicate, get_or_past, get_or_append_left, get_or_push}
use Rattle.std.proofs.lemmas.Bool.{cases_eq, cases_lt}
use Rattle.std.proofs.lemmas.List.Elements.{Contains-append_left, Contains-push, Contains-push_cases, All-replicate}
use Rattle.std.proofs.lemmas.List.Sums.{sum_by-set, sum_by-le}
use Rattle.replay_core.specs.declared.plan.Dep.{Dep}
use Rattle.replay_core.specs.declared.plan.Dep.TheVariants.{Item}
use Rattle.replay_core.specs.Worklists.{AddsUsers, AreUsers, IsUpTo}

get_push : (xs : List Dep) (y : Dep) (p : ℕ) (z : Dep) → slice_get (xs ++ y ∷ []) p ≡ Some z → (slice_get xs p ≡ Some z) ⊎ (y ≡ z)
get_push [] y zero z h = inr (let e : Some y ≡ Some z = h in cc)
get_push [] y (suc p) z h = absurd (let e : None ≡ Some z = h in cc)
get_push (x ∷ xs) y zero z h = inl h
get_push (x ∷ xs) y (suc p) z h = get_push xs y p z h

pub users_none : (old : List (List ℕ)) (deps : List Dep) (item : ℕ) → AddsUsers old old (take 0 deps) item
users_none old deps item = record { same_length = refl; kept = λ j i h. h; only = λ j i h. inl h; added = λ p j h. absurd (let e : None ≡ Some (Item j) = h in cc); few = omega arith }

pub users_skip : (old mid : List (List ℕ)) (deps : List Dep) (item k : ℕ) (d : Dep) → AddsUsers old mid (take k deps) item → k < length deps → get_or deps k d ≡ d → ((j : ℕ) → d ≡ Item j → ⊥) → AddsUsers old mid (take (k + 1) deps) item
users_skip old mid deps item k d a l is not_item =
    let more : take (k + 1) deps ≡ take k deps ++ d ∷ [] = take_more deps k d l ∙ ap (λ x. take k deps ++ x ∷ []) is in
    subst (λ ds. AddsUsers old mid ds item) (sym more)
    (record {
      same_length = a.same_length;
      kept = a.kept;
      only = a.only;
      added = λ p j h. elim (get_push (take k deps) d p (Item j) h) [ inl front ↦ a.added p j front | inr here ↦ absurd (not_item j here) ];
      few = omega (arith, a.few, length_push (take k deps) d);
    })

pub users_push : (old mid new : List (List ℕ)) (deps : List Dep) (item k j : ℕ) → AddsUsers old mid (take k deps) item → k < length deps → get_or deps k (Item j) ≡ Item j → j < length mid → new ≡ set mid j (get_or mid j [] ++ item ∷ []) → AddsUsers old new (take (k + 1) deps) item
users_push old mid new deps item k j a l is inside new_is =
    let more : take (k + 1) deps ≡ take k deps ++ Item j ∷ [] = take_more deps k (Item j) l ∙ ap (λ x. take k deps ++ x ∷ []) is in
    subst (λ ds. AddsUsers old new ds item) (sym more)
    (subst (λ xs. AddsUsers old xs (take k deps ++ Item j ∷ []) item) (sym new_is)
    (record {
      same_length = length-set mid j (get_or mid j [] ++ item ∷ []) ∙ a.same_length;
      kept = λ n i h. still n i (a.kept n i h);
      only = λ n i h. elim (cases_eq n j) [
        | inl same ↦ elim (Contains-push_cases (get_or mid j []) item i (subst (λ row. Contains row i) (ap (λ x. get_or (set mid j (get_or mid j [] ++ item ∷ [])) x []) same ∙ here) h)) [
          | inl old_one ↦ a.only n i (subst (λ x. Contains (get_or mid x []) i) (sym same) old_one)
          | inr it ↦ inr (sym it)
        ]
        | inr apart ↦ a.only n i (subst (λ row. Contains row i) (get_or-set_other mid j n (get_or mid j [] ++ item ∷ []) [] apart) h)
      ];
      added = λ p n h. elim (get_push (take k deps) (Item j) p (Item n) h) [
        | inl front ↦ still n item (a.added p n front)
        | inr it ↦ (let same : j ≡ n = cc in subst (λ x. Contains (get_or (set mid j (get_or mid j [] ++ item ∷ [])) x []) item) same (subst (λ row. Contains row item) (sym here) (Contains-push (get_or mid j []) item)))
      ];
      few =
          let step : sum_by length (set mid j (get_or mid j [] ++ item ∷ [])) + length (get_or mid j []) ≡ sum_by length mid + length (get_or mid j [] ++ item ∷ []) = sum_by-set length mid j (get_or mid j [] ++ item ∷ []) [] inside in
          omega (arith, step, a.few, length_push (get_or mid j []) item, length_push (take k deps) (Item j));
    }))
  where
    here : get_or (set mid j (get_or mid j [] ++ item ∷ [])) j [] ≡ get_or mid j [] ++ item ∷ []
    here = get_or-set_same mid j (get_or mid j [] ++ item ∷ []) [] inside

    still : (n i : ℕ) → Contains (get_or mid n []) i → Contains (get_or (set mid j (get_or mid j [] ++ item ∷ [])) n []) i
    still n i h = elim (cases_eq n j) [
      | inl same ↦ subst (λ x. Contains (get_or (set mid j (get_or mid j [] ++ item ∷ [])) x []) i) (sym same) (subst (λ row. Contains row i) (sym (get_or-set_same mid j (get_or mid j [] ++ item ∷ []) [] inside)) (Contains-append_left (get_or mid j []) (item ∷ []) i (subst (λ x. Contains (get_or mid x []) i) same h)))
      | inr apart ↦ subst (λ row. Contains row i) (sym (get_or-set_other mid j n (get_or mid j [] ++ item ∷ []) [] apart)) h
    ]

pub get_or_default_item : (deps : List Dep) (k j : ℕ) → k < length deps → get_or deps k (Item 0) ≡ Item j → get_or deps k (Item j) ≡ Item j
get_or_default_item deps k j l h = get_or_default deps k (Item j) (Item 0) l ∙ h

none_in : {X : Type 0} (x : X) → Contains [] x → ⊥
none_in x h = absurd (omega (arith, h.1))

empty_row : (n j : ℕ) → get_or (replicate {A = List ℕ} n []) j [] ≡ []
empty_row n j = elim (cases_lt j n) [ inl l ↦ get_or-replicate n j [] [] l | inr g ↦ get_or_past (replicate n []) j [] (omega (arith, g, length-replicate {A = List ℕ} n [])) ]

-- no item was looked at yet
pub users_at_first : (plan : Plan) (users : List (List ℕ)) → users ≡ replicate (items_of plan) [] → AreUsers plan 0 users
users_at_first plan users is = subst (AreUsers plan 0) (sym is) (record {
  same_length = length-replicate (items_of plan) [];
  all = λ i p j l h. absurd (omega arith);
  items = λ j i h. absurd (none_in i (subst (λ row. Contains row i) (empty_row (items_of plan) j) h));
  few = let none = sum_by-le (length {A = ℕ}) 0 (replicate (items_of plan) []) (All-replicate (λ (row : List ℕ). length row ≤ 0) (items_of plan) [] (omega arith)) in omega (arith, none);
})

-- one more item was added to the users of what it depends on
pub users_more : (plan : Plan) (mid new : List (List ℕ)) (deps : List Dep) (i : ℕ) → AreUsers plan i mid → AddsUsers mid new deps i → deps_of plan i ≡ deps → length deps < 2 ^ 30 → AreUsers plan (i + 1) new
users_more plan mid new deps i a b is short = record {
  same_length = b.same_length ∙ a.same_length;
  all = λ k p j l h. elim (cases_lt k i) [
    | inl before ↦ b.kept j k (a.all k p j before h)
    | inr here ↦ (let same : k ≡ i = omega arith in subst (λ x. Contains (get_or new j []) x) (sym same) (b.added p j (subst (λ ds. slice_get ds p ≡ Some (Item j)) (ap (deps_of plan) same ∙ is) h)))
  ];
  items = λ j k h. elim (b.only j k h) [ inl old ↦ (let l = a.items j k old in omega (arith, l)) | inr same ↦ omega arith ];
  few = omega (arith, a.few, b.few, short);
}

pub upto_push : (n : ℕ) (xs : List ℕ) → IsUpTo n xs → IsUpTo (n + 1) (xs ++ n ∷ [])
upto_push n xs h = (
  length_push xs n ∙ ap (λ m. m + 1) h.0,
  λ i l. elim (cases_lt i n) [ inl before ↦ get_or_append_left xs (n ∷ []) 0 i (omega (arith, h.0)) ∙ h.1 i before | inr here ↦ (let same : i ≡ n = omega arith in ap (λ k. get_or (xs ++ n ∷ []) k 0) same ∙ (get_or_push xs n 0 n h.0 ∙ sym same)) ],
)
