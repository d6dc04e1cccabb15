-- The list of verdicts, and what is counted of it and of the events.
use Rattle.std.proofs.Common.{ℕ, zero, suc, ◌≡◌, ◌≢◌, ◌+◌, ◌<◌, ◌^◌, ◌↔◌, Bool, false, cond, List, [], ◌∷◌, ◌++◌, length, Option, Some, None, refl, ap, sym, ◌∙◌, subst, inl, inr, arith, get_or, set, replicate}
use Rattle.std.specs.Prelude.{is_none, count_by}
use Rattle.std.proofs.lemmas.List.{length_push, get_or_default, same_lists}
use Rattle.std.proofs.lemmas.List.FromFn.{length-map-range_with_len, get_or-map-range_with_len}
use Rattle.std.proofs.lemmas.List.Sums.{sum_by-set, sum_by_push, sum_by-cons, count_by-le-length}
use Rattle.std.proofs.lemmas.Bool.{cases_eq, eq-eqb, ne_eqb}
use Rattle.replay_core.specs.declared.counts.Counts.{Counts}
use Rattle.replay_core.specs.declared.event.Event.{Event}
use Rattle.replay_core.specs.declared.event.Verdict.{Verdict}
use Rattle.replay_core.specs.declared.event.Verdict.TheVariants.{Done, Blamed, Missing}
use Rattle.replay_core.specs.Plans.{items_of}
use Rattle.replay_core.specs.Runs.{Setup, verdict_of, verdict_list, AllDecided}
use Rattle.replay_core.specs.Notes.{decide}
use Rattle.replay_core.specs.Counting.{is_success, is_refused, is_blamed, is_missing, is_death, is_restart, is_retirement, IsTally, one_if, with_event, with_verdict, with_decided, AreSmall}

pub length-verdict_list : (s : Setup) (es : List Event) → length (verdict_list s es) ≡ items_of s.plan
unfolding verdict_list
length-verdict_list s es = length-map-range_with_len (verdict_of s es) 0 (items_of s.plan)

-- the verdict that stands in the list at an item's place is the item's
pub verdict_at : (s : Setup) (es : List Event) (i : ℕ) (d : Option Verdict) → i < items_of s.plan → get_or (verdict_list s es) i d ≡ verdict_of s es i
unfolding verdict_list
verdict_at s es i d l = get_or-map-range_with_len (verdict_of s es) 0 (items_of s.plan) i i d l (omega arith)

-- a list that has the verdict of each item is the list of verdicts
pub verdicts_are : (s : Setup) (es : List Event) (vs : List (Option Verdict)) → length vs ≡ items_of s.plan → ((i : ℕ) → i < items_of s.plan → get_or vs i None ≡ verdict_of s es i) → vs ≡ verdict_list s es
verdicts_are s es vs len each =
    same_lists vs (verdict_list s es) (len ∙ sym (length-verdict_list s es)) (λ k d l.
    let inside : k < items_of s.plan = omega (arith, l, len) in
    get_or_default vs k d None l ∙ (each k inside ∙ sym (verdict_at s es k d inside)))

count_push : {X : Type 0} (p : X → Bool) (xs : List X) (x : X) → count_by p (xs ++ x ∷ []) ≡ count_by p xs + one_if (p x)
count_push p xs x = sum_by_push (λ y. cond (p y) 1 0) xs x

pub tally_event : (es : List Event) (vs : List (Option Verdict)) (c : Counts) (e : Event) → IsTally es vs c → IsTally (es ++ e ∷ []) vs (with_event c e)
tally_event es vs c e t = record {
  events = ap (λ n. n + 1) t.events ∙ sym (length_push es e);
  done = t.done;
  refused = t.refused;
  blamed = t.blamed;
  missing = t.missing;
  deaths = ap (λ n. n + one_if (is_death e)) t.deaths ∙ sym (count_push is_death es e);
  restarts = ap (λ n. n + one_if (is_restart e)) t.restarts ∙ sym (count_push is_restart es e);
  retired = ap (λ n. n + one_if (is_retirement e)) t.retired ∙ sym (count_push is_retirement es e);
}

count_decided : (p : Option Verdict → Bool) (vs : List (Option Verdict)) (i : ℕ) (v : Verdict) → p None ≡ false → i < length vs → get_or vs i None ≡ None → count_by p vs + one_if (p (Some v)) ≡ count_by p (set vs i (Some v))
count_decided p vs i v off l h =
    let step : count_by p (set vs i (Some v)) + cond {A = ℕ} (p (get_or vs i None)) 1 0 ≡ count_by p vs + cond {A = ℕ} (p (Some v)) 1 0 = sum_by-set (λ (o : Option Verdict). cond (p o) 1 0) vs i (Some v) None l in
    let none : cond {A = ℕ} (p (get_or vs i None)) 1 0 ≡ 0 = ap (λ (o : Option Verdict). cond {A = ℕ} (p o) 1 0) h ∙ ap (λ b. cond {A = ℕ} b 1 0) off in
    omega arith

tally_verdict : (es : List Event) (vs : List (Option Verdict)) (c : Counts) (i : ℕ) (v : Verdict) → i < length vs → get_or vs i None ≡ None → IsTally es vs c → IsTally es (set vs i (Some v)) (with_verdict c v)
tally_verdict es vs c i v l h t = record {
  events = t.events;
  done = ap (λ n. n + one_if (is_success (Some v))) t.done ∙ count_decided is_success vs i v refl l h;
  refused = ap (λ n. n + one_if (is_refused (Some v))) t.refused ∙ count_decided is_refused vs i v refl l h;
  blamed = ap (λ n. n + one_if (is_blamed (Some v))) t.blamed ∙ count_decided is_blamed vs i v refl l h;
  missing = ap (λ n. n + one_if (is_missing (Some v))) t.missing ∙ count_decided is_missing vs i v refl l h;
  deaths = t.deaths;
  restarts = t.restarts;
  retired = t.retired;
}

pub tally_decided : (es : List Event) (vs : List (Option Verdict)) (c : Counts) (o : Option (ℕ × Verdict)) → ((v : ℕ × Verdict) → o ≡ Some v → (v.0 < length vs) × (get_or vs v.0 None ≡ None)) → IsTally es vs c → IsTally es (decide vs o) (with_decided c o)
tally_decided es vs c None h t = t
tally_decided es vs c (Some v) h t = let found = h v refl in tally_verdict es vs c v.0 v.1 found.0 found.1 t

pub tally_small : (es : List Event) (vs : List (Option Verdict)) (c : Counts) → length es < 2 ^ 32 → length vs < 2 ^ 32 → IsTally es vs c → AreSmall c
tally_small es vs c few short t = record {
  events = omega (arith, t.events);
  done = omega (arith, t.done, count_by-le-length is_success vs);
  refused = omega (arith, t.refused, count_by-le-length is_refused vs);
  blamed = omega (arith, t.blamed, count_by-le-length is_blamed vs);
  missing = omega (arith, t.missing, count_by-le-length is_missing vs);
  deaths = omega (arith, t.deaths, count_by-le-length is_death es);
  restarts = omega (arith, t.restarts, count_by-le-length is_restart es);
  retired = omega (arith, t.retired, count_by-le-length is_retirement es);
}

-- each verdict is of one of the four kinds
one_kind : (o : Option Verdict) → one_if (is_success o) + one_if (is_refused o) + one_if (is_blamed o) + one_if (is_missing o) + one_if (is_none o) ≡ 1
one_kind None = refl
one_kind (Some (Done c)) = elim (cases_eq c 0) [ inl e ↦ rw (eq-eqb c 0 e) refl | inr n ↦ rw (ne_eqb c 0 n) refl ]
one_kind (Some Blamed) = refl
one_kind (Some (Missing p)) = refl

count_cons : {X : Type 0} (p : X → Bool) (x : X) (xs : List X) → count_by p (x ∷ xs) ≡ one_if (p x) + count_by p xs
count_cons p x xs = sum_by-cons (λ y. cond (p y) 1 0) x xs

kinds : (vs : List (Option Verdict)) → count_by is_success vs + count_by is_refused vs + count_by is_blamed vs + count_by is_missing vs + count_by is_none vs ≡ length vs
kinds [] = refl
kinds (o ∷ vs) =
    let rest = kinds vs in
    let one = one_kind o in
    omega (arith, rest, one, count_cons is_success o vs, count_cons is_refused o vs, count_cons is_blamed o vs, count_cons is_missing o vs, count_cons is_none o vs)

none_left : (vs : List (Option Verdict)) (i : ℕ) → count_by is_none vs ≡ 0 → i < length vs → get_or vs i None ≡ None → ⊥
none_left [] i e l h = absurd (omega arith)
none_left (o ∷ vs) zero e l h = let one : one_if (is_none o) ≡ 1 = ap (λ (x : Option Verdict). one_if (is_none x)) h in absurd (omega (arith, one, count_cons is_none o vs))
none_left (o ∷ vs) (suc i) e l h = none_left vs i (omega (arith, count_cons is_none o vs)) (omega arith) h

decided_not_none : (o : Option Verdict) → o ≢ None → one_if (is_none o) ≡ 0
decided_not_none None h = absurd (h refl)
decided_not_none (Some v) h = refl

all_there : (vs : List (Option Verdict)) → ((i : ℕ) → i < length vs → get_or vs i None ≢ None) → count_by is_none vs ≡ 0
all_there [] h = refl
all_there (o ∷ vs) h = omega (arith, decided_not_none o (h 0 (omega arith)), all_there vs (λ i l. h (suc i) (omega arith)), count_cons is_none o vs)

-- all items are decided where as many verdicts are counted as there are items
pub all_counted : (s : Setup) (es : List Event) (vs : List (Option Verdict)) (c : Counts) → IsTally es vs c → length vs ≡ items_of s.plan → ((i : ℕ) → i < items_of s.plan → get_or vs i None ≡ verdict_of s es i) →
    (c.done + c.refused + c.blamed + c.missing ≡ length vs) ↔ AllDecided s es
all_counted s es vs c t len each = (
  λ e i l u. none_left vs i (omega (arith, e, kinds vs, t.done, t.refused, t.blamed, t.missing)) (omega (arith, l, len)) (each i l ∙ u),
  λ all. (let none = all_there vs (λ i l h. all i (omega (arith, l, len)) (sym (each i (omega (arith, l, len))) ∙ h)) in omega (arith, none, kinds vs, t.done, t.refused, t.blamed, t.missing)),
)

count_nothing : (p : Option Verdict → Bool) (n : ℕ) → p None ≡ false → count_by p (replicate n None) ≡ 0
count_nothing p zero off = refl
count_nothing p (suc n) off = omega (arith, count_cons p None (replicate n None), count_nothing p n off, ap (λ b. one_if b) off)

pub tally_at_first : (n : ℕ) (c : Counts) → c ≡ record { events = 0; done = 0; refused = 0; blamed = 0; missing = 0; deaths = 0; restarts = 0; retired = 0 } → IsTally [] (replicate n None) c
tally_at_first n c is = subst (IsTally [] (replicate n None)) (sym is) (record {
  events = refl;
  done = sym (count_nothing is_success n refl);
  refused = sym (count_nothing is_refused n refl);
  blamed = sym (count_nothing is_blamed n refl);
  missing = sym (count_nothing is_missing n refl);
  deaths = refl;
  restarts = refl;
  retired = refl;
})

pub tally_first : (es : List Event) (vs : List (Option Verdict)) (n : ℕ) (c : Counts) → es ≡ [] → vs ≡ replicate n None → ((n : ℕ) → IsTally [] (replicate n None) c) → IsTally es vs c
tally_first es vs n c he hv t = subst (λ x. IsTally x vs c) (sym he) (subst (λ x. IsTally [] x c) (sym hv) (t n))
