-- One load more, and the end of the loads.
use Rattle.std.proofs.Common.{ℕ, ◌≡◌, ◌<◌, Bool, true, false, List, [], ◌∷◌, ◌++◌, length, Option, Some, None, refl, ap, sym, ◌∙◌, subst, get_or, set, append_assoc}
use Rattle.std.specs.Prelude.{All}
use Rattle.std.proofs.lemmas.List.{length-set, map-append, append-nil}
use Rattle.std.proofs.lemmas.List.Elements.{All-nil, All-cons, All-append}
use Rattle.replay_core.specs.declared.plan.Plan.{Plan}
use Rattle.replay_core.specs.Plans.{items_of}
use Rattle.slot_log.specs.declared.note.SlotNote.{SlotNote}
use Rattle.slot_log.specs.declared.note.SlotNote.TheVariants.{Sent, Died}
use Rattle.slot_log.specs.Works.{Orders, work_of, load_frame}
use Rattle.slot_log.specs.Logs.{grown}
use Rattle.slot_log.specs.Loads.{Needs, DependsOn, directly, further, IsClosedDown, HasDepsCreated, is_created, creating, IsNext, AreInOrder, AreSomeLoads, AreLoads}
use Rattle.slot_log.specs.Telling.{loads_sent, gone_early}
use Rattle.replay_crew.specs.declared.asking.Outcome.TheVariants.{Gone}
use Rattle.replay_crew.specs.Asking.{HasLoaded, GrewBy}
use Rattle.replay_crew.proofs.Marking.{closed_more}
use Rattle.replay_crew.proofs.Walking.{needed_created}

pub grown_twice : (log : Option (List SlotNote)) (a b : List SlotNote) → grown (grown log a) b ≡ grown log (a ++ b)
grown_twice None a b = refl
grown_twice (Some log) a b = ap (λ l. Some l) (append_assoc log a b)

pub grown_nothing : (log : Option (List SlotNote)) → log ≡ grown log []
grown_nothing None = refl
grown_nothing (Some log) = ap (λ l. Some l) (sym (append-nil log))

-- two steps of a log are one
pub grown_on : (before mid now : Option (List SlotNote)) (a b : List SlotNote) → mid ≡ grown before a → now ≡ grown mid b → now ≡ grown before (a ++ b)
grown_on before mid now a b s t = t ∙ (ap (λ log. grown log b) s ∙ grown_twice before a b)

creating_nil : (created : List Bool) → creating created [] ≡ created
unfolding creating
creating_nil created = refl

creating_snoc : (created : List Bool) (js : List ℕ) (j : ℕ) → creating created (js ++ j ∷ []) ≡ set (creating created js) j true
unfolding creating
creating_snoc created [] j = refl
creating_snoc created (x ∷ xs) j = creating_snoc (set created x true) xs j

in_order_snoc : (plan : Plan) (created : List Bool) (js : List ℕ) (j : ℕ) → AreInOrder plan created js → IsNext plan (creating created js) j → AreInOrder plan created (js ++ j ∷ [])
unfolding creating AreInOrder
in_order_snoc plan created [] j o next = (next, tt)
in_order_snoc plan created (x ∷ xs) j o next = (o.0, in_order_snoc plan (set created x true) xs j o.1 next)

in_order_nil : (plan : Plan) (created : List Bool) → AreInOrder plan created []
unfolding AreInOrder
in_order_nil plan created = tt

sent_nil : (orders : Orders) → loads_sent orders [] ≡ []
unfolding loads_sent
sent_nil orders = refl

sent_snoc : (orders : Orders) (loads : List ℕ) (j : ℕ) → loads_sent orders (loads ++ j ∷ []) ≡ loads_sent orders loads ++ Sent (load_frame (work_of orders j)) ∷ []
unfolding loads_sent
sent_snoc orders loads j = map-append (λ k. Sent (load_frame (work_of orders k))) loads (j ∷ [])

-- some loads of item i were sent, and these items are created now
pub record Loading (orders : Orders) (created : List Bool) (i : ℕ) (before now : Option (List SlotNote)) (marks : List Bool) : Type 0 where
  pub loads : List ℕ
  pub some_loads : AreSomeLoads orders.plan created i loads
  pub log_is : now ≡ grown before (loads_sent orders loads)
  pub marks_are : marks ≡ creating created loads
  pub closed : IsClosedDown orders.plan marks
  pub long : length marks ≡ items_of orders.plan

pub load_none : (orders : Orders) (created : List Bool) (i : ℕ) (log : Option (List SlotNote)) → IsClosedDown orders.plan created → length created ≡ items_of orders.plan → Loading orders created i log log created
load_none orders created i log closed long = record {
  loads = [];
  some_loads = record { below = All-nil (DependsOn orders.plan i); in_order = in_order_nil orders.plan created };
  log_is = grown_nothing log ∙ ap (grown log) (sym (sent_nil orders));
  marks_are = sym (creating_nil created);
  closed = closed;
  long = long;
}

pub load_more : (orders : Orders) (created : List Bool) (i : ℕ) (before now next : Option (List SlotNote)) (marks after : List Bool) (j : ℕ) →
    Loading orders created i before now marks → DependsOn orders.plan i j → j < length marks → is_created marks j ≡ false → HasDepsCreated orders.plan marks j → next ≡ grown now (Sent (load_frame (work_of orders j)) ∷ []) → after ≡ set marks j true → Loading orders created i before next after
load_more orders created i before now next marks after j l below inside new ready sent marked = record {
  loads = l.loads ++ j ∷ [];
  some_loads = record {
    below = All-append (DependsOn orders.plan i) l.loads (j ∷ []) l.some_loads.below (All-cons (DependsOn orders.plan i) j [] below (All-nil (DependsOn orders.plan i)));
    in_order = in_order_snoc orders.plan created l.loads j l.some_loads.in_order (subst (λ ms. IsNext orders.plan ms j) l.marks_are (record { inside = inside; new = new; ready = ready }));
  };
  log_is = grown_on before now next (loads_sent orders l.loads) (Sent (load_frame (work_of orders j)) ∷ []) l.log_is sent ∙ ap (grown before) (sym (sent_snoc orders l.loads j));
  marks_are = marked ∙ (ap (λ ms. set ms j true) l.marks_are ∙ sym (creating_snoc created l.loads j));
  closed = subst (IsClosedDown orders.plan) (sym marked) (closed_more orders.plan marks j inside l.closed ready);
  long = ap length marked ∙ (length-set marks j true ∙ l.long);
}

all_below_created : (plan : Plan) (marks : List Bool) (i j : ℕ) → IsClosedDown plan marks → HasDepsCreated plan marks i → DependsOn plan i j → is_created marks j ≡ true
all_below_created plan marks i j closed all (directly k need) = needed_created plan marks i k all need
all_below_created plan marks i j closed all (further k m on need) = needed_created plan marks k m (closed k (all_below_created plan marks i k closed all on)) need

pub loads_done : (orders : Orders) (created : List Bool) (i : ℕ) (before now : Option (List SlotNote)) (marks : List Bool) → Loading orders created i before now marks → HasDepsCreated orders.plan marks i → HasLoaded orders created i before now marks
loads_done orders created i before now marks l all = record {
  loads = l.loads;
  are_loads = record { some_loads = l.some_loads; complete = λ j on. subst (λ ms. is_created ms j ≡ true) l.marks_are (all_below_created orders.plan marks i j l.closed all on) };
  log_is = l.log_is;
  after_is = l.marks_are;
}

pub gone_at_load : (orders : Orders) (created : List Bool) (i : ℕ) (before now next : Option (List SlotNote)) (marks after : List Bool) → Loading orders created i before now marks → next ≡ grown now (Died ∷ []) → GrewBy orders created i Gone before next after
gone_at_load orders created i before now next marks after l died = record {
  notes = loads_sent orders l.loads ++ Died ∷ [];
  log_is = grown_on before now next (loads_sent orders l.loads) (Died ∷ []) l.log_is died;
  tells = λ w. gone_early created i l.loads l.some_loads;
}
