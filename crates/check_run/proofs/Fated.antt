-- What the shipped driver has kept after the events of a replay, and that each reply is the code over all states.
use Rattle.std.proofs.Common.{◌≡◌, ℕ, zero, suc, ◌<◌, ◌==◌, ⊎_elim, ◌⊎◌, inl, inr, Bool, true, false, cond, if◌then◌else◌, List, [], ◌∷◌, ◌++◌, length, map, get_or, Option, Some, None, Result, Ok, refl, sym, ap, ◌∙◌, subst, append_assoc, arith}
use Rattle.std.specs.Prelude.{All, position, slice_get, slice_index_or, is_some}
use Rattle.std.specs.List.{AllZip, zip}
use Rattle.std.specs.Map.{lookup}
use Rattle.std.proofs.lemmas.Option.{slice_get-get_or, get_or_from_slice_get, slice_get_within}
use Rattle.std.proofs.lemmas.List.Quantifiers.{position-Some}
use Rattle.foz_words.specs.Key.{is_key}
use Rattle.foz_words.specs.declared.key.Key.{Key}
use Rattle.foz_entry.specs.declared.cut.Entry.{Entry}
use Rattle.state_words.specs.declared.state.State.{State}
use Rattle.state_words.specs.References.{refs_of}
use Rattle.foz_payload.specs.declared.unreadable.Unreadable.{Unreadable}
use Rattle.foz_payload.specs.Meaning.{Means}
use Rattle.driver_check.specs.Kept.{KeptStates, AgreeOn, nothing_kept, with_state}
use Rattle.driver_check.specs.Codes.{code, kept_after, Creates}
use Rattle.replay_core.specs.declared.plan.Dep.{Dep}
use Rattle.replay_core.specs.declared.plan.Dep.TheVariants.{Item, Absent}
use Rattle.replay_core.specs.declared.event.Event.{Event}
use Rattle.replay_core.specs.declared.event.Event.TheVariants.{Start, Reply, Death, Restart, Retire, Miss}
use Rattle.replay_core.specs.declared.event.SlotState.{SlotState}
use Rattle.replay_core.specs.declared.event.SlotState.TheVariants.{Idle, Holds}
use Rattle.replay_core.specs.Plans.{items_of, deps_of}
use Rattle.replay_core.specs.Runs.{Setup, next_state, slot_at, IsRun, AllDecided, verdict_list}
use Rattle.replay_core.specs.Fates.{Outcome, Code, StandsIn, Agrees, IsFateList}
use Rattle.replay_core.specs.Laws.{WasDone, StartsAfterDependencies, VerdictsAreFates}
use Rattle.replay_core.proofs.Steps.{run_at, slot_at-nil, slot_at-push}
use Rattle.dep_graph.specs.declared.graph.Graph.{Graph}
use Rattle.dep_graph.specs.Classes.{HoldsState}
use Rattle.dep_graph.specs.Items.{item_entries, item_keys, dep_from, dep_on, DependsAs}
use Rattle.dep_graph.specs.Graphs.{IsPlanOf}
use Rattle.check_run.specs.Checks.{Drives, none, starts, misses as missed, replies as replied, IsAnswered}
use Rattle.check_run.specs.Fated.{AreStatesOf, all_kept, codes_of, by_codes}

-- ---- lists and keys

some_same : {X : Type 0} (a b : X) → Some a ≡ Some b → a ≡ b
some_same a b e = cc

-- the value that stands beside the first key that passes
lookup_first : {K X : Type 0} (test : K → Bool) (ks : List K) (vs : List X) (i : ℕ) (d : K) (v : X) → i < length ks → test (get_or ks i d) ≡ true → ((k : ℕ) → k < i → test (get_or ks k d) ≡ false)
    → slice_get vs i ≡ Some v → lookup test (zip ks vs) ≡ Some v
lookup_first test [] vs i d v inside passes before e = absurd (omega (arith, inside))
lookup_first test (k ∷ ks) [] i d v inside passes before e = absurd cc
lookup_first {K} {X} test (k ∷ ks) (w ∷ vs) zero d v inside passes before e = ap (λ (b : Bool). cond b (Some w) (lookup test (zip ks vs))) passes ∙ e
lookup_first {K} {X} test (k ∷ ks) (w ∷ vs) (suc i) d v inside passes before e =
    ap (λ (b : Bool). cond b (Some w) (lookup test (zip ks vs))) (before 0 (omega arith))
    ∙ lookup_first test ks vs i d v (omega (arith, inside)) passes (λ j below. before (suc j) (omega (arith, below))) e

mapped_at : {A B : Type 0} (f : A → B) (xs : List A) (i : ℕ) (x : A) → slice_get xs i ≡ Some x → slice_get (map f xs) i ≡ Some (f x)
mapped_at f [] i x e = absurd cc
mapped_at f (y ∷ xs) zero x e = ap (λ z. Some (f z)) (some_same y x e)
mapped_at f (y ∷ xs) (suc i) x e = mapped_at f xs i x e

pair_at : {A B : Type 0} (R : A → B → Type 0) (xs : List A) (ys : List B) (i : ℕ) (x : A) → AllZip R xs ys → slice_get xs i ≡ Some x → (y : B) × (slice_get ys i ≡ Some y) × R x y
pair_at R [] ys i x h e = absurd cc
pair_at R (z ∷ xs) [] i x h e = absurd h
pair_at R (z ∷ xs) (y ∷ ys) zero x h e = (y, refl, subst (λ u. R u y) (some_same z x e) h.0)
pair_at R (z ∷ xs) (y ∷ ys) (suc i) x h e = pair_at R xs ys i x h.1 e

all_of_map : {A B : Type 0} (P : B → Type 0) (f : A → B) (xs : List A) → All P (map f xs) → All (λ x. P (f x)) xs
all_of_map P f [] h i d k = absurd (omega (arith, k))
all_of_map P f (x ∷ xs) h zero d k = h 0 (f x) (omega arith)
all_of_map {A} {B} P f (x ∷ xs) h (suc i) d k = all_of_map P f xs (λ j e l. h (suc j) e (omega (arith, l))) i d (omega (arith, k))

there : {X : Type 0} (o : Option X) → is_some o ≡ true → (x : X) × (o ≡ Some x)
there (Some x) e = (x, refl)
there None e = absurd cc

-- the items' states, taken from their rows
pub states_of : (keys : List Key) (entries : List Entry) (rows : List (List Dep)) → AllZip (DependsAs keys) entries rows → (states : List State) × AllZip HoldsState entries states
states_of keys [] [] h = ([], tt)
states_of keys [] (row ∷ rows) h = absurd h
states_of keys (entry ∷ entries) [] h = absurd h
states_of keys (entry ∷ entries) (row ∷ rows) h =
    let more = states_of keys entries rows h.1 in
    let first = h.0 in
    (first.state ∷ more.0, (first.meant, more.1))

-- ---- one event more

-- an event of a list with one more stands before the last, or is the last
stood : (es before after : List Event) (x e : Event) → es ++ x ∷ [] ≡ before ++ e ∷ after → StandsIn es before e ⊎ (x ≡ e)
stood [] [] after x e is = inr (let same : x ∷ [] ≡ e ∷ after = is in cc)
stood [] (b ∷ before) after x e is = absurd (let more : x ∷ [] ≡ b ∷ (before ++ e ∷ after) = is in no_more before (let rest : [] ≡ before ++ e ∷ after = cc in rest))
  where
    no_more : (before : List Event) → [] ≡ before ++ e ∷ after → ⊥
    no_more [] is = cc
    no_more (b ∷ before) is = cc
stood (y ∷ es) [] after x e is = inl (es, (let same : y ∷ (es ++ x ∷ []) ≡ e ∷ after = is in let first : y ≡ e = cc in ap (λ (z : Event). z ∷ es) first))
stood (y ∷ es) (b ∷ before) after x e is =
    let same : y ∷ (es ++ x ∷ []) ≡ b ∷ (before ++ e ∷ after) = is in
    let first : y ≡ b = cc in
    let rest : es ++ x ∷ [] ≡ before ++ e ∷ after = cc in
    ⊎_elim
    (λ stands. inl (stands.0, ap (λ (z : Event). z ∷ es) first ∙ ap (λ (zs : List Event). b ∷ zs) stands.1))
    (λ last. inr last)
    (stood es before after x e rest)

done_stays : (es : List Event) (x : Event) (d : Dep) → WasDone es d → WasDone (es ++ x ∷ []) d
done_stays es x (Item j) h = (h.0, (h.1.0, (h.1.1.0 ++ x ∷ [], ap (λ (zs : List Event). zs ++ x ∷ []) h.1.1.1 ∙ append_assoc h.0 (Reply h.1.0 j 0 ∷ h.1.1.0) (x ∷ []))))
done_stays es x (Absent key) h = absurd h

all_done_stays : (es : List Event) (x : Event) (ds : List Dep) → All (WasDone es) ds → All (WasDone (es ++ x ∷ [])) ds
all_done_stays es x ds h = λ i d k. done_stays es x (get_or ds i d) (h i d k)

-- ---- what is kept along the way

kept_is : (between after : KeptStates) (key : Key) (state : State) (answer : ℕ) → Creates between key state answer after → (q : Key) → after q ≡ (if answer == 0 then with_state between key state else between) q
unfolding kept_after
kept_is between after key state answer called q =
    ap (λ (kept : KeptStates). kept q) called.kept ∙ ap (λ (n : ℕ). (if n == 0 then with_state between key state else between) q) (sym called.coded)

module _ (alone : (key : Key) (payload : List ℕ) (answer other : Result State Unreadable) → Means key payload answer → Means key payload other → answer ≡ other)
    (by_references : (kept other : KeptStates) (state : State) → AgreeOn (refs_of state) kept other → code kept state ≡ code other state)
    (same_key : (a b : Key) → is_key a b ≡ true → a ≡ b) (itself : (key : Key) → is_key key key ≡ true)
    (after_dependencies : StartsAfterDependencies)
    (entries : List Entry) (graph : Graph) (is : IsPlanOf entries graph) (states : List State) (meant : AreStatesOf entries graph.classes states)
    (setup : Setup) (planned : setup.plan ≡ graph.plan) where
  abbrev keys : List Key
  keys = item_keys entries graph.classes

  abbrev all : KeptStates
  all = all_kept keys states

  same_state : (entry : Entry) (state other : State) → HoldsState entry state → HoldsState entry other → state ≡ other
  same_state entry state other first second = let same : Result.Ok state ≡ Result.Ok other = alone entry.head.key entry.payload (Ok state) (Ok other) first second in cc

  state_at : (item : ℕ) (entry : Entry) (state : State) → slice_get (item_entries entries graph.classes) item ≡ Some entry → HoldsState entry state → slice_get states item ≡ Some state
  state_at item entry state stands means =
      let found = pair_at HoldsState (item_entries entries graph.classes) states item entry meant stands in
      found.1 ∙ ap Some (same_state entry found.0 state found.2 means)

  key_at : (item : ℕ) (entry : Entry) → slice_get (item_entries entries graph.classes) item ≡ Some entry → slice_get keys item ≡ Some entry.head.key
  unfolding item_keys
  key_at item entry stands = mapped_at (λ (z : Entry). z.head.key) (item_entries entries graph.classes) item entry stands

  -- among all of them, an item's key has the item's state
  found_in_all : (item : ℕ) (key : Key) (state : State) → slice_get keys item ≡ Some key → slice_get states item ≡ Some state → all key ≡ Some state
  found_in_all item key state keyed held =
      let first = position-Some (is_key key) keys item key (is.distinct item key keyed) in
      lookup_first (is_key key) keys states item key state first.0 first.1 first.2 held

  -- what an item depends on
  depends : (item : ℕ) (entry : Entry) (state : State) → slice_get (item_entries entries graph.classes) item ≡ Some entry → HoldsState entry state → deps_of setup.plan item ≡ map (dep_on keys) (refs_of state)
  depends item entry state stands means =
      let row = pair_at (DependsAs keys) (item_entries entries graph.classes) graph.plan.deps item entry is.deps stands in
      let told = row.2 in
      ap (λ plan. deps_of plan item) planned
      ∙ (get_or_from_slice_get graph.plan.deps item row.0 [] row.1
      ∙ (told.named ∙ ap (λ (s : State). map (dep_on keys) (refs_of s)) (same_state entry told.state state told.meant means)))

  pub record Goes (events : List Event) (now : KeptStates) : Type 0 where
    pub within : (key : Key) (state : State) → now key ≡ Some state → all key ≡ Some state
    pub done : (before : List Event) (w j : ℕ) (key : Key) → StandsIn events before (Reply w j 0) → slice_get keys j ≡ Some key → is_some (now key) ≡ true
    pub ready : (w i : ℕ) → slot_at events w ≡ Holds i → All (WasDone events) (deps_of setup.plan i)
    pub replies : (before : List Event) (w i c : ℕ) → StandsIn events before (Reply w i c) → by_codes (codes_of keys states) i ≡ Code c
    pub deaths : (before : List Event) (w : ℕ) → StandsIn events before (Death w) → ⊥

  nothing_stands : (before : List Event) (e : Event) → StandsIn [] before e → ⊥
  nothing_stands [] e h = let is : [] ≡ e ∷ h.0 = h.1 in cc
  nothing_stands (b ∷ before) e h = let is : [] ≡ b ∷ (before ++ e ∷ h.0) = h.1 in cc

  goes_first : Goes [] nothing_kept
  goes_first = record {
    within = λ key state e. absurd (none_is state e);
    done = λ before w j key stands e. absurd (nothing_stands before (Reply w j 0) stands);
    ready = λ w i e. absurd (idle_holds i (sym (slot_at-nil w) ∙ e));
    replies = λ before w i c stands. absurd (nothing_stands before (Reply w i c) stands);
    deaths = λ before w stands. nothing_stands before (Death w) stands;
  }
    where
      none_is : (state : State) → None ≡ Some state → ⊥
      none_is state e = cc

      idle_holds : (i : ℕ) → Idle ≡ Holds i → ⊥
      idle_holds i e = cc

  module _ (events : List Event) (between : KeptStates) (g : Goes events between) where
    -- an event that is no reply and no death leaves what was there
    goes_quiet : (x : Event) → ((w i c : ℕ) → x ≡ Reply w i c → ⊥) → ((w : ℕ) → x ≡ Death w → ⊥)
        → ((w i : ℕ) → slot_at (events ++ x ∷ []) w ≡ Holds i → All (WasDone (events ++ x ∷ [])) (deps_of setup.plan i)) → Goes (events ++ x ∷ []) between
    goes_quiet x no_reply no_death ready = record {
      within = g.within;
      done = λ before w j key stands e. ⊎_elim (λ s. g.done before w j key s e) (λ last. absurd (no_reply w j 0 last)) (stood events before stands.0 x (Reply w j 0) stands.1);
      ready = ready;
      replies = λ before w i c stands. ⊎_elim (λ s. g.replies before w i c s) (λ last. absurd (no_reply w i c last)) (stood events before stands.0 x (Reply w i c) stands.1);
      deaths = λ before w stands. ⊎_elim (λ s. g.deaths before w s) (λ last. no_death w last) (stood events before stands.0 x (Death w) stands.1);
    }

    held_on : (x : Event) (w i : ℕ) → slot_at events w ≡ Holds i → All (WasDone (events ++ x ∷ [])) (deps_of setup.plan i)
    held_on x w i holds = all_done_stays events x (deps_of setup.plan i) (g.ready w i holds)

    goes_starts : (slot item : ℕ) → IsRun setup (events ++ Start slot item ∷ []) → Goes (events ++ Start slot item ∷ []) between
    goes_starts slot item run = goes_quiet (Start slot item) (λ w i c e. cc) (λ w e. cc) (λ w i holds. by_slot w i (slot == w) refl (sym (slot_at-push events (Start slot item) w) ∙ holds))
      where
        same_item : (i : ℕ) → Holds item ≡ Holds i → item ≡ i
        same_item i e = cc

        by_slot : (w i : ℕ) (b : Bool) → (slot == w) ≡ b → (if slot == w then Holds item else slot_at events w) ≡ Holds i → All (WasDone (events ++ Start slot item ∷ [])) (deps_of setup.plan i)
        by_slot w i true t holds =
            subst (λ (j : ℕ). All (WasDone (events ++ Start slot item ∷ [])) (deps_of setup.plan j))
            (same_item i (sym (ap (λ (b : Bool). if b then Holds item else slot_at events w) t) ∙ holds))
            (all_done_stays events (Start slot item) (deps_of setup.plan item) (after_dependencies setup (events ++ Start slot item ∷ []) events slot item run ([], refl)))
        by_slot w i false t holds = held_on (Start slot item) w i (sym (ap (λ (b : Bool). if b then Holds item else slot_at events w) t) ∙ holds)

    goes_misses : (item place : ℕ) → Goes (events ++ Miss item place ∷ []) between
    goes_misses item place = goes_quiet (Miss item place) (λ w i c e. cc) (λ w e. cc) (λ w i holds. held_on (Miss item place) w i (sym (slot_at-push events (Miss item place) w) ∙ holds))

    module _ (after : KeptStates) (slot item answer : ℕ) (entry : Entry) (state : State) (stands : slice_get (item_entries entries graph.classes) item ≡ Some entry) (means : HoldsState entry state)
        (called : Creates between entry.head.key state answer after) (holds : slot_at events slot ≡ Holds item) where
      all_done : All (λ key. WasDone events (dep_on keys key)) (refs_of state)
      all_done = all_of_map (WasDone events) (dep_on keys) (refs_of state) (subst (All (WasDone events)) (depends item entry state stands means) (g.ready slot item holds))

      -- what a key refers to that an item has, whose reply was 0
      kept_alike : (key : Key) (o : Option ℕ) → position (is_key key) keys ≡ o → WasDone events (dep_from o key) → between key ≡ all key
      kept_alike key None e h = absurd h
      kept_alike key (Some j) e h =
          let first = position-Some (is_key key) keys j key e in
          let same : key ≡ get_or keys j key = same_key key (get_or keys j key) first.1 in
          let kept = there (between key) (g.done h.0 h.1.0 j key h.1.1 (slice_get-get_or keys j key first.0 ∙ ap Some (sym same))) in
          kept.1 ∙ sym (g.within key kept.0 kept.1)

      over_all : code between state ≡ code all state
      over_all = by_references between all state (λ i d k. kept_alike (get_or (refs_of state) i d) (position (is_key (get_or (refs_of state) i d)) keys) refl (all_done i d k))

      has_code : by_codes (codes_of keys states) item ≡ Code answer
      has_code = ap Code
          (get_or_from_slice_get (codes_of keys states) item (code all state) 0 (mapped_at (code all) states item state (state_at item entry state stands means))
          ∙ sym (called.coded ∙ over_all))

      in_all : all entry.head.key ≡ Some state
      in_all = found_in_all item entry.head.key state (key_at item entry stands) (state_at item entry state stands means)

      within_more : (key : Key) (s : State) → after key ≡ Some s → all key ≡ Some s
      within_more key s e = by_answer (answer == 0) (sym (kept_is between after entry.head.key state answer called key) ∙ e)
        where
          by_key : (b : Bool) → is_key entry.head.key key ≡ b → (if b then Some state else between key) ≡ Some s → all key ≡ Some s
          by_key true t e = subst (λ (q : Key). all q ≡ Some s) (same_key entry.head.key key t) (in_all ∙ e)
          by_key false t e = g.within key s e

          by_answer : (b : Bool) → (if b then with_state between entry.head.key state else between) key ≡ Some s → all key ≡ Some s
          by_answer true e = by_key (is_key entry.head.key key) refl e
          by_answer false e = g.within key s e

      still_kept : (key : Key) → is_some (between key) ≡ true → is_some (after key) ≡ true
      still_kept key e = ap is_some (kept_is between after entry.head.key state answer called key) ∙ by_answer (answer == 0)
        where
          by_key : (b : Bool) → is_some (if b then Some state else between key) ≡ true
          by_key true = refl
          by_key false = e

          by_answer : (b : Bool) → is_some ((if b then with_state between entry.head.key state else between) key) ≡ true
          by_answer true = by_key (is_key entry.head.key key)
          by_answer false = e

      now_kept : answer ≡ 0 → is_some (after entry.head.key) ≡ true
      now_kept zero_is =
          ap is_some (kept_is between after entry.head.key state answer called entry.head.key)
          ∙ (ap (λ (n : ℕ). is_some ((if n == 0 then with_state between entry.head.key state else between) entry.head.key)) zero_is
          ∙ ap (λ (b : Bool). is_some (if b then Some state else between entry.head.key)) (itself entry.head.key))

      goes_replies : Goes (events ++ Reply slot item answer ∷ []) after
      goes_replies = record {
        within = within_more;
        done = λ before w j key stood_there e. ⊎_elim (λ s. still_kept key (g.done before w j key s e)) (λ last. last_done w j key e last) (stood events before stood_there.0 (Reply slot item answer) (Reply w j 0) stood_there.1);
        ready = λ w i e. by_slot w i (slot == w) refl (sym (slot_at-push events (Reply slot item answer) w) ∙ e);
        replies = λ before w i c stood_there. ⊎_elim (λ s. g.replies before w i c s) (λ last. last_code w i c last) (stood events before stood_there.0 (Reply slot item answer) (Reply w i c) stood_there.1);
        deaths = λ before w stood_there. ⊎_elim (λ s. g.deaths before w s) (λ last. no_death w last) (stood events before stood_there.0 (Reply slot item answer) (Death w) stood_there.1);
      }
        where
          no_death : (w : ℕ) → Reply slot item answer ≡ Death w → ⊥
          no_death w e = cc

          last_done : (w j : ℕ) (key : Key) → slice_get keys j ≡ Some key → Reply slot item answer ≡ Reply w j 0 → is_some (after key) ≡ true
          last_done w j key e last =
              let same : item ≡ j = cc in
              let nought : answer ≡ 0 = cc in
              let one : entry.head.key ≡ key = some_same entry.head.key key (sym (key_at item entry stands) ∙ (ap (slice_get keys) same ∙ e)) in
              subst (λ (q : Key). is_some (after q) ≡ true) one (now_kept nought)

          last_code : (w i c : ℕ) → Reply slot item answer ≡ Reply w i c → by_codes (codes_of keys states) i ≡ Code c
          last_code w i c last =
              let same : item ≡ i = cc in
              let coded : answer ≡ c = cc in
              subst (λ (n : ℕ). by_codes (codes_of keys states) i ≡ Code n) coded (subst (λ (n : ℕ). by_codes (codes_of keys states) n ≡ Code answer) same has_code)

          idle_holds : (i : ℕ) → Idle ≡ Holds i → ⊥
          idle_holds i e = cc

          by_slot : (w i : ℕ) (b : Bool) → (slot == w) ≡ b → (if slot == w then Idle else slot_at events w) ≡ Holds i → All (WasDone (events ++ Reply slot item answer ∷ [])) (deps_of setup.plan i)
          by_slot w i true t e = absurd (idle_holds i (sym (ap (λ (b : Bool). if b then Idle else slot_at events w) t) ∙ e))
          by_slot w i false t e = held_on (Reply slot item answer) w i (sym (ap (λ (b : Bool). if b then Idle else slot_at events w) t) ∙ e)

  goes : (events : List Event) (now : KeptStates) → Drives Creates nothing_kept entries graph.classes events now → IsRun setup events → Goes events now
  goes events now none run = goes_first
  goes events now (starts es between slot item d) run = goes_starts es between (goes es between d (run_at setup es (Start slot item) [] run).0) slot item run
  goes events now (missed es between item place d) run = goes_misses es between (goes es between d (run_at setup es (Miss item place) [] run).0) item place
  goes events now (replied es between after slot item answer d answered) run =
      let parts = run_at setup es (Reply slot item answer) [] run in
      goes_replies es between (goes es between d parts.0) after slot item answer answered.entry answered.state answered.stands answered.means answered.called parts.1.1

  pub agrees : (events : List Event) (now : KeptStates) → Drives Creates nothing_kept entries graph.classes events now → IsRun setup events → Agrees events (by_codes (codes_of keys states))
  agrees events now d run =
      let g = goes events now d run in
      record { replies = g.replies; deaths = λ before w i stands holds. absurd (g.deaths before w stands) }

  pub fated : VerdictsAreFates → (events : List Event) (now : KeptStates) → Drives Creates nothing_kept entries graph.classes events now → IsRun setup events → AllDecided setup events
      → IsFateList graph.plan (by_codes (codes_of keys states)) (verdict_list setup events)
  fated are_fates events now d run decided =
      subst (λ plan. IsFateList plan (by_codes (codes_of keys states)) (verdict_list setup events)) planned
      (are_fates setup events (by_codes (codes_of keys states)) run decided (agrees events now d run))
