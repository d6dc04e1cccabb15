-- Each step keeps the desk's rule.
use Rattle.std.proofs.Common.{◌≡◌, ◌≢◌, ℕ, zero, suc, ◌≤◌, Bool, true, false, eqb, List, [], ◌∷◌, ◌++◌, length, drop, set, get_or, All, Option, Some, None, unwrap_or, sym, refl, ap, ◌∙◌, subst, ap₂, subst₂, ⊎_elim, append-nil, length-set, arith, true≢false}
use Rattle.std.proofs.Math.Seq.{drop-append_seam}
use lib.Seq.{set-get_or}
use mathlib.Core.List.{IsPrefix}
use mathlib.Core.Option as place
use mathlib.Core.Logic.{dite}
use native.Mathlib.Decide.{ℕ_discrete}
use lib.ListN.{get_elem?}
use base.Growing.{prefix_refl, prefix_trans}
use prog.Atomic.{either}
use Rattle.atomic_table.specs.Table.{State, Me, Act, step, keeps, takes, gives, carried_after, rest, Valid, stepped, Allows, opening}
use Rattle.atomic_table.proofs.Lists.{at_set, set_else, set_here, set_again}
use Rattle.turn_desk.specs.declared.view.View.{View}
use Rattle.turn_desk.specs.declared.view.Joined.{Joined}
use Rattle.turn_desk.specs.Story.{notes_of, root_of, entered, fresh, left, HasKept, Continues, held, slots}
use Rattle.turn_desk.specs.Turns.{Fits, IsRoot, AllOutside, OthersOutside, Turn, at_home, taken, IsKept, tried, freed}
use Rattle.turn_desk.proofs.Slots.{one_out}
use Rattle.turn_desk.proofs.Notes.{notes_append, notes_other, notes_own, at_below, at_one, count_same}

module _ {X N O : Type 0} (story : X → List N) (origin : X → O) (number : N → ℕ) (known : O) where
  abbrev V : Type 0
  V = View N O

  abbrev St : Type 0
  St = State (Option X) V

  abbrev Rule : St → Type 0
  Rule s = IsKept story origin number known s

  abbrev live : V → Bool
  live v = v.live

  pub opens : (x : X) → story x ≡ [] → origin x ≡ known → Rule (opening (0 ∷ []) (Some x ∷ []) (root_of known))
  opens x none same = record {
    log = [];
    made = 1;
    out = 0;
    joined = [];
    turn = at_home x refl refl none same (λ i v at. only (λ (w : V). w.inside ≡ None) refl i v at);
    places = refl;
    sums = refl;
    counts = refl;
    root = λ v at. let e : root_of known ≡ v = place.some-injective (root_of known) v at in subst (IsRoot number 1 0 []) e
        record { here = refl; made_is = refl; out_is = refl; joined_is = refl; has_kept = λ p j e. absurd (place.some-ne-none j (sym e)); has_heard = λ p j e. absurd (place.some-ne-none j (sym e)) };
    seats = λ i v at lv. first_fits i v at;
    gone = λ i v at dead. absurd (dead_root i v at dead);
    kept = λ p j e. refl_kept p j e;
    apart = record { once = λ p q a b e f same. absurd (place.some-ne-none a (sym e)); given = λ p j e. absurd (place.some-ne-none j (sym e)) };
    spent_places = λ p j e. absurd (place.some-ne-none j (sym e));
    unborn = λ k more. refl;
  }
    where
      only : (P : V → Type 0) → P (root_of known) → (i : ℕ) (v : V) → get_elem? (root_of known ∷ []) i ≡ place.some v → P v
      only P p zero v at = subst P (place.some-injective (root_of known) v at) p
      only P p (suc i) v at = absurd (place.some-ne-none v (sym at))

      first_fits : (i : ℕ) (v : V) → get_elem? (root_of known ∷ []) i ≡ place.some v → Fits number known [] i v
      first_fits zero v at = subst (Fits number known [] zero) (place.some-injective (root_of known) v at) record { numbered = refl; origin_is = refl; begins = ([], refl); own = refl; own_seen = refl }
      first_fits (suc i) v at = absurd (place.some-ne-none v (sym at))

      dead_root : (i : ℕ) (v : V) → get_elem? (root_of known ∷ []) i ≡ place.some v → v.live ≡ false → ⊥
      dead_root i v at dead = true≢false (only (λ (w : V). true ≡ w.live) refl i v at ∙ dead)

      refl_kept : (p : ℕ) (j : Joined N) → get_elem? {A = Joined N} [] p ≡ place.some j → notes_of number j.number [] ≡ j.notes
      refl_kept p j e = absurd (place.some-ne-none j (sym e))

  -- one view changes, of a seat that stays where it is
  moved : (s : St) (r : Rule s) (i : ℕ) (v w : V) (ws : List ℕ) (hs : List (place.Option (Option X))) (log : List N) → get_elem? s.views i ≡ place.some v → v.live ≡ true → w.live ≡ true
      → Fits number known log i w → ((j : ℕ) (u : V) → j ≢ i → Fits number known r.log j u → Fits number known log j u) → (i ≡ 0 → IsRoot number r.made r.out r.joined v → IsRoot number r.made r.out r.joined w)
      → HasKept number r.joined log → ((k : ℕ) → r.made ≤ k → notes_of number k log ≡ [])
      → Turn story origin number known log record { words = ws; homes = hs; views = set s.views i w } → Rule record { words = ws; homes = hs; views = set s.views i w }
  moved s r i v w ws hs log at lv lw fits others root kept unborn turn = record {
    log = log;
    made = r.made;
    out = r.out;
    joined = r.joined;
    turn = turn;
    places = length-set s.views i w ∙ r.places;
    sums = r.sums;
    counts = count_same live s.views i v w at (lv ∙ sym lw) ∙ r.counts;
    root = λ u e. ⊎_elim (λ (t : (0 ≡ i) × (w ≡ u)). subst (IsRoot number r.made r.out r.joined) t.1 (root (sym t.0) (r.root v (subst (λ (z : ℕ). get_elem? s.views z ≡ place.some v) (sym t.0) at))))
        (λ (t : (0 ≢ i) × (get_elem? s.views 0 ≡ place.some u)). r.root u t.1) (at_set s.views i 0 w u e);
    seats = λ j u e lu. ⊎_elim (λ (t : (j ≡ i) × (w ≡ u)). subst (λ (z : ℕ × V). Fits number known log z.0 z.1) (λ k. (sym t.0 k, t.1 k)) fits)
        (λ (t : (j ≢ i) × (get_elem? s.views j ≡ place.some u)). others j u t.0 (r.seats j u t.1 lu)) (at_set s.views i j w u e);
    gone = λ j u e du. ⊎_elim (λ (t : (j ≡ i) × (w ≡ u)). absurd (true≢false (sym lw ∙ (ap live t.1 ∙ du))))
        (λ (t : (j ≢ i) × (get_elem? s.views j ≡ place.some u)). r.gone j u t.1 du) (at_set s.views i j w u e);
    kept = kept;
    apart = r.apart;
    spent_places = λ p j e. let was = r.spent_places p j e in
        (was.0, set_else s.views i j.number w (λ same. true≢false (sym lv ∙ (ap live (at_one s.views j.number v was.0 (subst (λ (z : ℕ). get_elem? s.views z ≡ place.some v) (sym same) at) was.1) ∙ was.2))) ∙ was.1, was.2);
    unborn = unborn;
  }

  -- a step that changes nothing
  pub stays : (s : St) (i : ℕ) (v : V) (out : List (ℕ × Option X)) → get_elem? s.views i ≡ place.some v → Rule s → Rule (stepped s 0 (get_or s.words 0 0) i out v keeps)
  stays s i v out at r = subst₂ (λ (ws : List ℕ) (vs : List V). Rule record { words = ws; homes = s.homes; views = vs }) (sym (set-get_or s.words 0 0)) (sym (set_again s.views i v at)) r

  AllOutside-set : (vs : List V) (i : ℕ) (w : V) → w.inside ≡ None → OthersOutside i vs → AllOutside (set vs i w)
  AllOutside-set vs i w out others j u e = ⊎_elim (λ (t : (j ≡ i) × (w ≡ u)). ap (λ (z : V). z.inside) (sym t.1) ∙ out) (λ (t : (j ≢ i) × (get_elem? vs j ≡ place.some u)). others j u t.0 t.1) (at_set vs i j w u e)

  OthersOutside-set : (vs : List V) (i : ℕ) (w : V) → OthersOutside i vs → OthersOutside i (set vs i w)
  OthersOutside-set vs i w others j u n e = ⊎_elim (λ (t : (j ≡ i) × (w ≡ u)). absurd (n t.0)) (λ (t : (j ≢ i) × (get_elem? vs j ≡ place.some u)). others j u t.0 t.1) (at_set vs i j w u e)

  -- what a try owes of one state, where it finds n
  abbrev Tries : ℕ → ℕ → V → List (ℕ × Option X) → St → ℕ → Type 0
  Tries slots i v out s n = (w : V) × (a : Act (Option X)) × Valid s.homes out a × Rule (stepped s 0 (either (eqb n 0) 1 n) i out w a)
      × tried story origin number (step slots 0 0 1 place.none) (v, out) n (w, carried_after out a)

  wins : (slots i : ℕ) (v : V) (out : List (ℕ × Option X)) (s : St) (r : Rule s) (x : X) → get_elem? s.views i ≡ place.some v → v.live ≡ true
      → story x ≡ r.log → origin x ≡ known → AllOutside s.views → Tries slots i v out record { words = 0 ∷ []; homes = place.some (Some x) ∷ []; views = s.views } 0
  wins slots i v out s r x at lv told from outside =
      let f = r.seats i v at lv in
      let w : V = entered v (story x) in (
        w,
        takes 0 (Some x),
        refl,
        moved s r i v w (1 ∷ []) (place.none ∷ []) r.log at lv lv
            record { numbered = f.numbered; origin_is = f.origin_is; begins = f.begins; own = f.own; own_seen = f.own_seen }
            (λ j u n g. g)
            (λ _ h. record { here = h.here; made_is = h.made_is; out_is = h.out_is; joined_is = h.joined_is; has_kept = h.has_kept; has_heard = h.has_heard })
            r.kept r.unborn
            (taken i w refl refl (set_here s.views i w (at_below s.views i v at)) lv (ap Some told) (OthersOutside-set s.views i w (λ j u n e. outside j u e))),
        (
          (λ _. (
            x,
            refl,
            record {
              begins = (f.begins.0, f.begins.1 ∙ sym told);
              own = ap (notes_of number v.number) told ∙ (ap (λ (k : ℕ). notes_of number k r.log) f.numbered ∙ f.own);
              own_seen = ap (λ (k : ℕ). notes_of number k v.seen) f.numbered ∙ f.own_seen;
              origin_is = f.origin_is ∙ ap Some (sym from);
            },
          )),
          (λ n. absurd (n refl)),
        ),
      )

  loses : (slots i : ℕ) (v : V) (out : List (ℕ × Option X)) (s : St) (r : Rule s) → get_elem? s.views i ≡ place.some v → get_or s.words 0 0 ≡ 1 → Tries slots i v out s (get_or s.words 0 0)
  loses slots i v out s r at one = (
    v,
    keeps,
    tt,
    subst (λ (n : ℕ). Rule (stepped s 0 n i out v keeps)) (one ∙ sym (ap (λ (n : ℕ). either (eqb n 0) 1 n) one)) (stays s i v out at r),
    ((λ z. absurd (let h : 1 ≡ 0 = sym one ∙ z in omega arith)), (λ _. refl)),
  )

  pub tries : (slots i : ℕ) (v : V) (out : List (ℕ × Option X)) → v.live ≡ true
      → Allows Rule slots i (v, out) 0 (λ n. either (eqb n 0) 1 n) (tried story origin number (step slots 0 0 1 place.none) (v, out))
  tries slots i v out lv s r len at fits = elim (r.turn) as (λ _. Tries slots i v out s (get_or s.words 0 0)) [
    | at_home x ws hs told from outside ↦ subst₂ (λ (w : List ℕ) (h : List (place.Option (Option X))). Tries slots i v out record { words = w; homes = h; views = s.views } (get_or w 0 0)) (sym ws) (sym hs)
        (wins slots i v out s r x at lv told from outside)
    | taken k u ws hs there lu inside others ↦ loses slots i v out s r at (ap (λ (w : List ℕ). get_or w 0 0) ws)
  ]

  -- what a free owes of one state
  abbrev Frees : ℕ → ℕ → V → X → St → ℕ → Type 0
  Frees slots i v x s n = (w : V) × (a : Act (Option X)) × Valid s.homes ((0, Some x) ∷ []) a × Rule (stepped s 0 0 i ((0, Some x) ∷ []) w a)
      × freed story origin number (step slots 0 0 0 place.none) (v, (0, Some x) ∷ []) n (w, carried_after ((0, Some x) ∷ []) a)

  module _ (i : ℕ) (v : V) (x : X) (s : St) (r : Rule s) (at : get_elem? s.views i ≡ place.some v) (lv : v.live ≡ true) (more : List N) (inside : v.inside ≡ Some r.log)
      (told : story x ≡ r.log ++ more) (all : All (λ n. number n ≡ v.number) more) (from : v.origin ≡ Some (origin x)) where
    my : Fits number known r.log i v
    my = r.seats i v at lv

    mine_all : All (λ n. number n ≡ i) more
    mine_all = subst (λ (k : ℕ). All (λ n. number n ≡ k) more) my.numbered all

    others_same : (k : ℕ) → k ≢ i → notes_of number k (story x) ≡ notes_of number k r.log
    others_same k n = ap (notes_of number k) told ∙ (notes_append number k r.log more ∙ (ap (λ (z : List N). notes_of number k r.log ++ z) (notes_other number i k more n mine_all) ∙ append-nil (notes_of number k r.log)))

    is_fresh : fresh v.inside (story x) ≡ more
    is_fresh = ap (λ (z : Option (List N)). fresh z (story x)) inside ∙ (ap (drop (length r.log)) told ∙ drop-append_seam r.log more)

    mine_after : notes_of number i (story x) ≡ v.mine ++ fresh v.inside (story x)
    mine_after = ap (notes_of number i) told ∙ (notes_append number i r.log more ∙ ap₂ (λ (a b : List N). a ++ b) my.own (notes_own number i more mine_all ∙ sym is_fresh))

    not_joined : (p : ℕ) (j : Joined N) → get_elem? r.joined p ≡ place.some j → j.number ≢ i
    not_joined p j e same = let was = r.spent_places p j e in true≢false (sym lv ∙ (ap live (at_one s.views j.number v was.0 (subst (λ (z : ℕ). get_elem? s.views z ≡ place.some v) (sym same) at) was.1) ∙ was.2))

    kept_after : HasKept number r.joined (story x)
    kept_after p j e = others_same j.number (not_joined p j e) ∙ r.kept p j e

    place_origin : v.origin ≡ Some known → origin x ≡ known
    place_origin e = let both = sym from ∙ e in cc

    frees_at : (slots n : ℕ) → OthersOutside i s.views → Frees slots i v x record { words = 1 ∷ []; homes = place.none ∷ []; views = s.views } n
    frees_at slots n others =
        let w : V = left v (story x) in
        let goes : IsPrefix r.log (story x) = (more, sym told) in (
          w,
          gives,
          tt,
          moved s r i v w (0 ∷ []) (place.some (Some x) ∷ []) (story x) at lv lv
              record { numbered = my.numbered; origin_is = my.origin_is; begins = prefix_refl (story x); own = mine_after; own_seen = mine_after }
              (λ j u n g. record { numbered = g.numbered; origin_is = g.origin_is; begins = prefix_trans u.seen r.log (story x) g.begins goes; own = others_same j n ∙ g.own; own_seen = g.own_seen })
              (λ _ h. record {
                here = h.here;
                made_is = h.made_is;
                out_is = h.out_is;
                joined_is = h.joined_is;
                has_kept = kept_after;
                has_heard = λ p j e. prefix_trans j.seen v.seen (story x) (h.has_heard p j e) (prefix_trans v.seen r.log (story x) my.begins goes);
              })
              kept_after
              (λ k m. others_same k (λ same. let b = at_below s.views i v at in let l = r.places in absurd (omega arith)) ∙ r.unborn k m)
              (at_home x refl refl refl (place_origin my.origin_is) (AllOutside-set s.views i w refl others)),
          (λ y e. let same : x ≡ y = ap (λ (l : List (ℕ × Option X)). unwrap_or (get_or l 0 (0, Some x)).1 x) e in
              (ap (λ (z : X). (left v (story z), [])) same, subst (λ (z : X). notes_of number v.number (story z) ≡ (left v (story z)).mine) same (ap (λ (k : ℕ). notes_of number k (story x)) my.numbered ∙ mine_after))),
        )

  pub frees : (slots i : ℕ) (v : V) (out : List (ℕ × Option X)) (x : X) → v.live ≡ true → out ≡ (0, Some x) ∷ [] → Continues number v (story x) → v.origin ≡ Some (origin x)
      → Allows Rule slots i (v, out) 0 (λ _. 0) (freed story origin number (step slots 0 0 0 place.none) (v, out))
  frees slots i v out x lv is goes from = subst (λ (o : List (ℕ × Option X)). Allows Rule slots i (v, o) 0 (λ _. 0) (freed story origin number (step slots 0 0 0 place.none) (v, o))) (sym is)
      (λ s r len at fits. elim (r.turn) as (λ _. Frees slots i v x s (get_or s.words 0 0)) [
        | at_home y ws hs told home outside ↦ absurd (let a : v.inside ≡ None = outside i v at in let b = goes.2 in cc)
        | taken k u ws hs there lu inside others ↦
            let here : i ≡ k = dite (ℕ_discrete i k) (λ e. e) (λ n. absurd (let a : v.inside ≡ None = others i v n at in let b = goes.2 in cc)) in
            let me : u ≡ v = at_one s.views k u v there (subst (λ (z : ℕ). get_elem? s.views z ≡ place.some v) here at) in
            let now : v.inside ≡ Some r.log = ap (λ (z : V). z.inside) (sym me) ∙ inside in
            let found : goes.0 ≡ r.log = let b = goes.2 in cc in
            let told : story x ≡ r.log ++ goes.1 = goes.3 ∙ ap (λ (z : List N). z ++ goes.1) found in
            let apart : OthersOutside i s.views = subst (λ (z : ℕ). OthersOutside z s.views) (sym here) others in
            subst₂ (λ (w : List ℕ) (h : List (place.Option (Option X))). Frees slots i v x record { words = w; homes = h; views = s.views } (get_or w 0 0)) (sym ws) (sym hs)
            (frees_at i v x s r at lv goes.1 now told goes.4 from slots 1 apart)
      ])

  -- the same where the seat has just put x into its slot
  module _ (v : V) (out : List (ℕ × Option X)) (m : Me (Option X) V) (x : X) (held_one : slots out ≡ held v.inside) (goes : Continues number v (story x)) (put : m ≡ (v, (0, Some x) ∷ rest out)) where
    alone : m ≡ (v, (0, Some x) ∷ [])
    alone = let one = one_out out (held_one ∙ ap held goes.2) in put ∙ ap (λ (l : List (ℕ × Option X)). (v, (0, Some x) ∷ rest l)) one.1

    pub frees_put : (n i : ℕ) → v.live ≡ true → v.origin ≡ Some (origin x) → Allows Rule n i m 0 (λ _. 0) (freed story origin number (step n 0 0 0 place.none) m)
    frees_put n i lv from = subst (λ (z : Me (Option X) V). Allows Rule n i z 0 (λ _. 0) (freed story origin number (step n 0 0 0 place.none) z)) (sym alone) (frees n i v ((0, Some x) ∷ []) x lv refl goes from)

    pub freed_put : (n : ℕ) (m' : Me (Option X) V) → freed story origin number (step n 0 0 0 place.none) m 0 m' → (m' ≡ (left v (story x), [])) × (notes_of number v.number (story x) ≡ (left v (story x)).mine)
    freed_put n m' told = let t = told x (ap (λ (z : Me (Option X) V). z.1) alone) in
        (t.0 ∙ ap (λ (z : Me (Option X) V). (left z.0 (story x), [])) alone, subst (λ (z : Me (Option X) V). notes_of number z.0.number (story x) ≡ (left z.0 (story x)).mine) alone t.1)
