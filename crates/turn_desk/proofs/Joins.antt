-- Splitting and joining keep the desk's rule, and what a look and the close learn from it.
use Rattle.std.proofs.Common.{◌≡◌, ◌≢◌, ℕ, zero, suc, ◌+◌, ◌-◌, ◌<◌, ◌≤◌, ◌⊎◌, Bool, true, false, cond, List, [], ◌∷◌, ◌++◌, length, drop, set, get_or, count_by, Option, Some, None, sym, refl, ap, ◌∙◌, subst, inl, inr, ⊎_elim, append-nil, length-append, length-set, arith, true≢false}
use mathlib.Core.List.{IsPrefix}
use mathlib.Core.Option as place
use mathlib.Core.Logic.{dite}
use native.Mathlib.Decide.{dec_lt}
use lib.ListN.{get_elem?}
use base.Growing.{prefix_trans}
use Rattle.atomic_table.specs.Table.{State, Me, step, keeps, Allows, Splits, Joins, Final, Seen}
use Rattle.atomic_table.proofs.Lists.{at_set, set_else, set_here, at_longer, at_last}
use Rattle.turn_desk.specs.declared.view.View.{View}
use Rattle.turn_desk.specs.declared.view.Joined.{Joined}
use Rattle.turn_desk.specs.Story.{notes_of, longer, split_from, split_off, joined_with, spent, IsJoined, AreApart, HasAllBack, HasKept, HasHeard, IsAllOf}
use Rattle.turn_desk.specs.Turns.{Fits, IsRoot, Turn, at_home, taken, IsKept, Knows, looked}
use Rattle.turn_desk.proofs.Keeps.{stays}
use Rattle.turn_desk.proofs.Notes.{notes_append, notes_between, notes_none, notes_there, notes_head, nothing_more, longer_is_prefix, longer_one, at_snoc_place, at_below, at_one, at_exists, count_set, count_same, count_append, count_some, count_one}

module _ {X N O : Type 0} (story : X → List N) (origin : X → O) (number : N → ℕ) (known : O) where
  abbrev V : Type 0
  V = View N O

  abbrev St : Type 0
  St = State (Option X) V

  abbrev Rule : St → Type 0
  Rule s = IsKept story origin number known s

  abbrev live : V → Bool
  live v = v.live

  -- two places with seats that differ in a field
  apart : {A : Type 0} (field : V → A) (vs : List V) (i k : ℕ) (v w : V) → get_elem? vs i ≡ place.some v → get_elem? vs k ≡ place.some w → ¬ (field v ≡ field w) → i ≢ k
  apart field vs i k v w a b n same = n (ap field (at_one vs k v w (subst (λ (z : ℕ). get_elem? vs z ≡ place.some v) same a) b))

  module _ (i : ℕ) (v : V) (lv : v.live ≡ true) (first : v.number ≡ 0) (outside : v.inside ≡ None) (s : St) (r : Rule s) (at : get_elem? s.views i ≡ place.some v) where
    my : Fits number known r.log i v
    my = r.seats i v at lv

    zeroth : 0 ≡ i
    zeroth = sym first ∙ my.numbered

    top : IsRoot number r.made r.out r.joined v
    top = r.root v (subst (λ (z : ℕ). get_elem? s.views z ≡ place.some v) (sym zeroth) at)

    abbrev left_views : List V
    left_views = set s.views i (split_from v)

    abbrev split_views : List V
    split_views = left_views ++ split_off v ∷ []

    split_cases : (P : ℕ → V → Type 0) → P i (split_from v) → P r.made (split_off v) → ((j : ℕ) (u : V) → j ≢ i → get_elem? s.views j ≡ place.some u → P j u)
        → (j : ℕ) (u : V) → get_elem? split_views j ≡ place.some u → P j u
    split_cases P a b c j u e = ⊎_elim
        (λ (t : (j < length left_views) × (get_elem? left_views j ≡ place.some u)). ⊎_elim (λ (q : (j ≡ i) × (split_from v ≡ u)). subst (λ (z : ℕ × V). P z.0 z.1) (λ k. (sym q.0 k, q.1 k)) a)
        (λ (q : (j ≢ i) × (get_elem? s.views j ≡ place.some u)). c j u q.0 q.1) (at_set s.views i j (split_from v) u t.1))
        (λ (t : (j ≡ length left_views) × (split_off v ≡ u)). subst (λ (z : ℕ × V). P z.0 z.1) (λ k. ((sym r.places ∙ (sym (length-set s.views i (split_from v)) ∙ sym t.0)) k, t.1 k)) b)
        (at_snoc_place left_views (split_off v) u j e)

    stays_split : (j : ℕ) (u : V) → j ≢ i → get_elem? s.views j ≡ place.some u → get_elem? split_views j ≡ place.some u
    stays_split j u n e = at_longer left_views (split_off v ∷ []) j u (set_else s.views i j (split_from v) n ∙ e)

    split_turn : Turn story origin number known r.log s → Turn story origin number known r.log record { words = s.words; homes = s.homes; views = split_views }
    split_turn (at_home x ws hs told from out) = at_home x ws hs told from (split_cases (λ _ u. u.inside ≡ None) outside refl (λ j u _ e. out j u e))
    split_turn (taken k u ws hs there lu inside others) = taken k u ws hs (stays_split k u (apart (λ (z : V). z.inside) s.views k i u v there at (λ e. let a = outside in let b = inside in cc)) there) lu inside
        (λ j w n e. split_cases (λ h z. h ≢ k → z.inside ≡ None) (λ _. outside) (λ _. refl) (λ h z _ f m. others h z m f) j w e n)

    pub split_keeps : Rule record { words = s.words; homes = s.homes; views = split_views }
    split_keeps = record {
      log = r.log;
      made = r.made + 1;
      out = r.out + 1;
      joined = r.joined;
      turn = split_turn r.turn;
      places = length-append left_views (split_off v ∷ []) ∙ ap (λ (n : ℕ). n + 1) (length-set s.views i (split_from v) ∙ r.places);
      sums = let l = r.sums in omega arith;
      counts = count_append live left_views (split_off v ∷ []) ∙ ap (λ (n : ℕ). n + 1) (count_same live s.views i v (split_from v) at refl ∙ r.counts);
      root = λ u e. split_cases (λ j w. j ≡ 0 → IsRoot number (r.made + 1) (r.out + 1) r.joined w)
          (λ _. record { here = lv; made_is = ap (λ (n : ℕ). n + 1) top.made_is; out_is = ap (λ (n : ℕ). n + 1) top.out_is; joined_is = top.joined_is; has_kept = top.has_kept; has_heard = top.has_heard })
          (λ none. let b = at_below s.views i v at in let l = r.places in absurd (omega arith))
          (λ j w n _ z. absurd (n (z ∙ zeroth))) 0 u e refl;
      seats = split_cases (λ j w. w.live ≡ true → Fits number known r.log j w)
          (λ _. record { numbered = my.numbered; origin_is = my.origin_is; begins = my.begins; own = my.own; own_seen = my.own_seen })
          (λ _. let none = r.unborn r.made le_refl' in record { numbered = top.made_is; origin_is = my.origin_is; begins = my.begins; own = none; own_seen = notes_none number r.made v.seen r.log my.begins none })
          (λ j w _ e. r.seats j w e);
      gone = split_cases (λ j w. w.live ≡ false → IsJoined r.joined j) (λ d. absurd (true≢false (sym lv ∙ d))) (λ d. absurd (true≢false d)) (λ j w _ e. r.gone j w e);
      kept = r.kept;
      apart = record { once = r.apart.once; given = λ p j e. let h = r.apart.given p j e in let below = h.1 in (h.0, omega arith) };
      spent_places = λ p j e. let was = r.spent_places p j e in (was.0, stays_split j.number was.0 (apart live s.views j.number i was.0 v was.1 at (λ t. true≢false (sym lv ∙ (sym t ∙ was.2)))) was.1, was.2);
      unborn = λ k m. r.unborn k (omega arith);
    }
      where
        le_refl' : r.made ≤ r.made
        le_refl' = omega arith

  pub splits : (i : ℕ) (v : V) → v.live ≡ true → v.number ≡ 0 → v.inside ≡ None → Splits Rule i v (split_from v) (split_off v)
  splits i v lv first outside s r at = split_keeps i v lv first outside s r at

  module _ (i k : ℕ) (v w : V) (lv : v.live ≡ true) (first : v.number ≡ 0) (outside : v.inside ≡ None) (lw : w.live ≡ true) (w_outside : w.inside ≡ None)
      (s : St) (r : Rule s) (at : get_elem? s.views i ≡ place.some v) (other : k ≢ i) (at_k : get_elem? s.views k ≡ place.some w) where
    mine_v : Fits number known r.log i v
    mine_v = r.seats i v at lv

    mine_w : Fits number known r.log k w
    mine_w = r.seats k w at_k lw

    zeroth_v : 0 ≡ i
    zeroth_v = sym first ∙ mine_v.numbered

    top_v : IsRoot number r.made r.out r.joined v
    top_v = r.root v (subst (λ (z : ℕ). get_elem? s.views z ≡ place.some v) (sym zeroth_v) at)

    abbrev both : V
    both = joined_with v w

    abbrev added : Joined N
    added = record { number = w.number; notes = w.mine; seen = w.seen }

    abbrev joined_after : List (Joined N)
    joined_after = r.joined ++ added ∷ []

    abbrev one_view : List V
    one_view = set s.views i both

    abbrev two_views : List V
    two_views = set one_view k spent

    at_k_still : get_elem? one_view k ≡ place.some w
    at_k_still = set_else s.views i k both other ∙ at_k

    join_cases : (P : ℕ → V → Type 0) → P i both → P k spent → ((j : ℕ) (u : V) → j ≢ i → j ≢ k → get_elem? s.views j ≡ place.some u → P j u)
        → (j : ℕ) (u : V) → get_elem? two_views j ≡ place.some u → P j u
    join_cases P a b c j u e = ⊎_elim
        (λ (t : (j ≡ k) × (spent ≡ u)). subst (λ (z : ℕ × V). P z.0 z.1) (λ h. (sym t.0 h, t.1 h)) b)
        (λ (t : (j ≢ k) × (get_elem? one_view j ≡ place.some u)). ⊎_elim (λ (q : (j ≡ i) × (both ≡ u)). subst (λ (z : ℕ × V). P z.0 z.1) (λ h. (sym q.0 h, q.1 h)) a)
        (λ (q : (j ≢ i) × (get_elem? s.views j ≡ place.some u)). c j u q.0 t.0 q.1) (at_set s.views i j both u t.1))
        (at_set one_view k j spent u e)

    stays_joined : (j : ℕ) (u : V) → j ≢ i → j ≢ k → get_elem? s.views j ≡ place.some u → get_elem? two_views j ≡ place.some u
    stays_joined j u n m e = set_else one_view k j spent m ∙ (set_else s.views i j both n ∙ e)

    join_turn : Turn story origin number known r.log s → Turn story origin number known r.log record { words = s.words; homes = s.homes; views = two_views }
    join_turn (at_home x ws hs told from out) = at_home x ws hs told from (join_cases (λ _ u. u.inside ≡ None) outside refl (λ j u _ _ e. out j u e))
    join_turn (taken h u ws hs there lu inside others) = taken h u ws hs
        (stays_joined h u (apart (λ (z : V). z.inside) s.views h i u v there at (λ e. let a = outside in let b = inside in cc)) (apart (λ (z : V). z.inside) s.views h k u w there at_k (λ e. let a = w_outside in let b = inside in cc)) there) lu inside
        (λ j z n e. join_cases (λ p q. p ≢ h → q.inside ≡ None) (λ _. outside) (λ _. refl) (λ p q _ _ f m. others p q m f) j z e n)

    abbrev seen_after : List N
    seen_after = longer v.seen w.seen

    prefixes : IsPrefix seen_after r.log × IsPrefix w.seen seen_after
    prefixes = longer_is_prefix r.log v.seen w.seen mine_v.begins mine_w.begins

    prefix_v : IsPrefix v.seen seen_after
    prefix_v = (drop (length v.seen) w.seen, refl)

    joined_cases : (P : Joined N → Type 0) → P added → ((p : ℕ) (j : Joined N) → get_elem? r.joined p ≡ place.some j → P j) → (p : ℕ) (j : Joined N) → get_elem? joined_after p ≡ place.some j → P j
    joined_cases P a c p j e = ⊎_elim (λ (t : (p < length r.joined) × (get_elem? r.joined p ≡ place.some j)). c p j t.1) (λ (t : (p ≡ length r.joined) × (added ≡ j)). subst P t.1 a) (at_snoc_place r.joined added j p e)

    still_joined : (n : ℕ) → IsJoined r.joined n → IsJoined joined_after n
    still_joined n j = (j.0, j.1, at_longer r.joined (added ∷ []) j.0 j.1 j.2, j.3)

    -- the number of a live seat is not yet among the joined ones
    new_number : (p : ℕ) (j : Joined N) → get_elem? r.joined p ≡ place.some j → j.number ≡ w.number → ⊥
    new_number p j e same = let was = r.spent_places p j e in
        true≢false (sym lw ∙ (ap live (at_one s.views k w was.0 at_k (subst (λ (z : ℕ). get_elem? s.views z ≡ place.some was.0) (same ∙ mine_w.numbered) was.1)) ∙ was.2))

    above_zero : (n : ℕ) → (n ≡ 0 → ⊥) → 0 < n
    above_zero zero n = absurd (n refl)
    above_zero (suc m) n = omega arith

    apart_after : AreApart r.made joined_after
    apart_after = record {
      once = λ p q a b e f same. ⊎_elim
          (λ (t : (p < length r.joined) × (get_elem? r.joined p ≡ place.some a)). ⊎_elim
          (λ (u : (q < length r.joined) × (get_elem? r.joined q ≡ place.some b)). r.apart.once p q a b t.1 u.1 same)
          (λ (u : (q ≡ length r.joined) × (added ≡ b)). absurd (new_number p a t.1 (same ∙ ap (λ (z : Joined N). z.number) (sym u.1)))) (at_snoc_place r.joined added b q f))
          (λ (t : (p ≡ length r.joined) × (added ≡ a)). ⊎_elim
          (λ (u : (q < length r.joined) × (get_elem? r.joined q ≡ place.some b)). absurd (new_number q b u.1 (sym same ∙ ap (λ (z : Joined N). z.number) (sym t.1))))
          (λ (u : (q ≡ length r.joined) × (added ≡ b)). t.0 ∙ sym u.0) (at_snoc_place r.joined added b q f))
          (at_snoc_place r.joined added a p e);
      given = joined_cases (λ j. (0 < j.number) × (j.number < r.made))
          (above_zero w.number (λ none. other (sym mine_w.numbered ∙ (none ∙ zeroth_v))), (let e = mine_w.numbered in let b = at_below s.views k w at_k in let l = r.places in omega arith))
          r.apart.given;
    }

    count_after : count_by live two_views ≡ r.out
    count_after =
        let a = count_set live one_view k w spent at_k_still in
        let b = count_same live s.views i v both at refl in
        let c = r.counts in
        let one : cond {A = ℕ} (live w) 1 0 ≡ 1 = ap (λ (z : Bool). cond {A = ℕ} z 1 0) lw in
        omega arith

    out_some : 1 ≤ r.out
    out_some = subst (λ (n : ℕ). 1 ≤ n) count_after (count_some live two_views i both (set_else one_view k i spent (λ e. other (sym e)) ∙ set_here s.views i both (at_below s.views i v at)) lv)

    count_joined : count_by live two_views ≡ (r.out - 1) + 1
    count_joined = let a = count_after in let b = out_some in omega arith

    pub join_keeps : Rule record { words = s.words; homes = s.homes; views = two_views }
    join_keeps = record {
      log = r.log;
      made = r.made;
      out = r.out - 1;
      joined = joined_after;
      turn = join_turn r.turn;
      places = length-set one_view k spent ∙ (length-set s.views i both ∙ r.places);
      sums = let a = r.sums in let b = length-append r.joined (added ∷ []) in let o = out_some in omega arith;
      counts = count_joined;
      root = λ u e. join_cases (λ j z. j ≡ 0 → IsRoot number r.made (r.out - 1) joined_after z)
          (λ _. record {
            here = lv;
            made_is = top_v.made_is;
            out_is = ap (λ (n : ℕ). n - 1) top_v.out_is;
            joined_is = ap (λ (l : List (Joined N)). l ++ added ∷ []) top_v.joined_is;
            has_kept = joined_cases (λ j. notes_of number j.number seen_after ≡ j.notes)
                (let m : notes_of number w.number r.log ≡ w.mine = ap (λ (n : ℕ). notes_of number n r.log) mine_w.numbered ∙ mine_w.own in
                let n : notes_of number w.number w.seen ≡ w.mine = ap (λ (n : ℕ). notes_of number n w.seen) mine_w.numbered ∙ mine_w.own_seen in
                notes_between number w.number w.seen seen_after r.log prefixes.1 prefixes.0 (m ∙ sym n) ∙ n)
                (λ p j e. notes_between number j.number v.seen seen_after r.log prefix_v prefixes.0 (r.kept p j e ∙ sym (top_v.has_kept p j e)) ∙ top_v.has_kept p j e);
            has_heard = joined_cases (λ j. IsPrefix j.seen seen_after) prefixes.1 (λ p j e. prefix_trans j.seen v.seen seen_after (top_v.has_heard p j e) prefix_v);
          })
          (λ z. absurd (other (z ∙ zeroth_v)))
          (λ j z n _ _ q. absurd (n (q ∙ zeroth_v))) 0 u e refl;
      seats = join_cases (λ j z. z.live ≡ true → Fits number known r.log j z)
          (λ _. record {
            numbered = mine_v.numbered;
            origin_is = mine_v.origin_is;
            begins = prefixes.0;
            own = mine_v.own;
            own_seen = notes_between number i v.seen seen_after r.log prefix_v prefixes.0 (mine_v.own ∙ sym mine_v.own_seen) ∙ mine_v.own_seen;
          })
          (λ t. absurd (true≢false (sym t)))
          (λ j z _ _ e. r.seats j z e);
      gone = join_cases (λ j z. z.live ≡ false → IsJoined joined_after j) (λ d. absurd (true≢false (sym lv ∙ d)))
          (λ _. (length r.joined, added, at_last r.joined added (length r.joined) refl, mine_w.numbered))
          (λ j z _ _ e d. still_joined j (r.gone j z e d));
      kept = joined_cases (λ j. notes_of number j.number r.log ≡ j.notes) (ap (λ (n : ℕ). notes_of number n r.log) mine_w.numbered ∙ mine_w.own) r.kept;
      apart = apart_after;
      spent_places = joined_cases (λ j. (z : V) × (get_elem? two_views j.number ≡ place.some z) × (z.live ≡ false))
          (spent, subst (λ (n : ℕ). get_elem? two_views n ≡ place.some spent) (sym mine_w.numbered) (set_here one_view k spent (at_below one_view k w at_k_still)), refl)
          (λ p j e. let was = r.spent_places p j e in (
            was.0,
            stays_joined j.number was.0 (apart live s.views j.number i was.0 v was.1 at (λ t. true≢false (sym lv ∙ (sym t ∙ was.2)))) (apart live s.views j.number k was.0 w was.1 at_k (λ t. true≢false (sym lw ∙ (sym t ∙ was.2)))) was.1,
            was.2,
          ));
      unborn = r.unborn;
    }

  pub joins : (i k : ℕ) (v w : V) → v.live ≡ true → v.number ≡ 0 → v.inside ≡ None → w.live ≡ true → w.inside ≡ None → Joins Rule i v k w (joined_with v w) spent
  joins i k v w lv first outside lw w_outside s r at other at_k = join_keeps i k v w lv first outside lw w_outside s r at other (sym (set_else s.views i k (joined_with v w) other) ∙ at_k)

  module _ (i : ℕ) (v : V) (lv : v.live ≡ true) (first : v.number ≡ 0) (s : St) (r : Rule s) (at : get_elem? s.views i ≡ place.some v) where
    mine_r : Fits number known r.log i v
    mine_r = r.seats i v at lv

    top_r : IsRoot number r.made r.out r.joined v
    top_r = r.root v (subst (λ (z : ℕ). get_elem? s.views z ≡ place.some v) (sym (sym first ∙ mine_r.numbered)) at)

    kept_seen : HasKept number v.joined v.seen
    kept_seen = subst (λ (j : List (Joined N)). HasKept number j v.seen) (sym top_r.joined_is) top_r.has_kept

    -- where no seat is out, each number that was given is the root's or that of a joined seat
    given : v.out ≡ 0 → (k : ℕ) → k < r.made → (k ≡ 0) ⊎ IsJoined v.joined k
    given none k below = let u = at_exists s.views k (let l = r.places in omega arith) in by_life u.0 u.1 (live u.0) refl
      where
        one : count_by live s.views ≡ 1
        one = r.counts ∙ ap (λ (n : ℕ). n + 1) (sym top_r.out_is ∙ none)

        by_life : (u : V) → get_elem? s.views k ≡ place.some u → (b : Bool) → live u ≡ b → (k ≡ 0) ⊎ IsJoined v.joined k
        by_life u e true l = inl (count_one live s.views k i u v one e l at lv ∙ (sym mine_r.numbered ∙ first))
        by_life u e false l = inr (subst (λ (j : List (Joined N)). IsJoined j k) (sym top_r.joined_is) (r.gone k u e l))

    all_given : v.out ≡ 0 → (xs : List N) → IsPrefix xs r.log → (p : ℕ) (d : N) → p < length xs → (number (get_or xs p d) ≡ 0) ⊎ IsJoined v.joined (number (get_or xs p d))
    all_given none xs prefix p d h = let n : ℕ = number (get_or xs p d) in dite (dec_lt n r.made) (given none n)
        (λ far. absurd (notes_there number n xs (notes_none number n xs r.log prefix (r.unborn n (omega arith))) p d h refl))

    pub knows : Knows number v
    knows = record {
      own = ap (λ (n : ℕ). notes_of number n v.seen) mine_r.numbered ∙ mine_r.own_seen;
      has_kept = kept_seen;
      has_heard = subst (λ (j : List (Joined N)). HasHeard j v.seen) (sym top_r.joined_is) top_r.has_heard;
      all_of = λ none. all_given none v.seen mine_r.begins;
      unmade = λ k low. notes_none number k v.seen r.log mine_r.begins (r.unborn k (let m = top_r.made_is in omega arith));
      apart = subst (λ (m : ℕ). AreApart m v.joined) (sym top_r.made_is) (subst (λ (j : List (Joined N)). AreApart r.made j) (sym top_r.joined_is) r.apart);
      all_back = λ none k below. given none k (let m = top_r.made_is in omega arith);
      sums = let a = r.sums in let j = ap length top_r.joined_is in let o = top_r.out_is in let m = top_r.made_is in omega arith;
    }

    -- and then the root has seen the whole story
    pub all_seen : v.out ≡ 0 → r.log ≡ v.seen
    all_seen none = let b = mine_r.begins in sym b.1 ∙ (ap (λ (z : List N). v.seen ++ z) (no_rest b.0 (sym b.1)) ∙ append-nil v.seen)
      where
        same_notes : (k : ℕ) → (k ≡ 0) ⊎ IsJoined v.joined k → notes_of number k r.log ≡ notes_of number k v.seen
        same_notes k (inl z) = let e : k ≡ i = z ∙ (sym first ∙ mine_r.numbered) in ap (λ (n : ℕ). notes_of number n r.log) e ∙ (mine_r.own ∙ (sym mine_r.own_seen ∙ ap (λ (n : ℕ). notes_of number n v.seen) (sym e)))
        same_notes k (inr j) =
            let a : notes_of number j.1.number r.log ≡ j.1.notes = r.kept j.0 j.1 (subst (λ (l : List (Joined N)). get_elem? l j.0 ≡ place.some j.1) top_r.joined_is j.2) in
            let b = kept_seen j.0 j.1 j.2 in
            ap (λ (n : ℕ). notes_of number n r.log) (sym j.3) ∙ (a ∙ (sym b ∙ ap (λ (n : ℕ). notes_of number n v.seen) j.3))

        no_rest : (rest : List N) → r.log ≡ v.seen ++ rest → rest ≡ []
        no_rest [] e = refl
        no_rest (x ∷ xs) e =
            let k : ℕ = number x in
            let cut : notes_of number k r.log ≡ notes_of number k v.seen ++ notes_of number k (x ∷ xs) = ap (notes_of number k) e ∙ notes_append number k v.seen (x ∷ xs) in
            let some_note : ¬ (notes_of number k (x ∷ xs) ≡ []) = (λ z. let h = notes_head number x xs in cc) in
            dite (dec_lt k r.made)
            (λ below. absurd (some_note (nothing_more number (notes_of number k v.seen) (notes_of number k (x ∷ xs)) (sym cut ∙ same_notes k (given none k below)))))
            (λ far. absurd (some_note (empty_last (notes_of number k v.seen) (notes_of number k (x ∷ xs)) (sym cut ∙ r.unborn k (omega arith)))))
          where
            empty_last : (a b : List N) → a ++ b ≡ [] → b ≡ []
            empty_last [] b e = e
            empty_last (z ∷ zs) b e = cc

  pub looks : (n i : ℕ) (v : V) (out : List (ℕ × Option X)) → v.live ≡ true → v.number ≡ 0 → Allows Rule n i (v, out) 0 (λ m. m) (looked story origin number (step n 0 0 0 place.none) (v, out))
  looks n i v out lv first s r len at fits = (v, keeps, tt, stays story origin number known s i v out at r, (refl, knows i v lv first s r at))

  -- what the close finds in the slot
  abbrev pub Closes : V → List (Option X) → Type 0
  Closes v xs = (x : X) × (get_elem? xs 0 ≡ place.some (Some x)) × (story x ≡ v.seen) × Knows number v × IsAllOf number v v.seen × (v.origin ≡ Some (origin x))

  pub closes : (i : ℕ) (v : V) (ws : List ℕ) (xs : List (Option X)) → v.live ≡ true → v.number ≡ 0 → v.inside ≡ None → v.out ≡ 0 → Final (Seen Rule i v) ws xs → Closes v xs
  closes i v ws xs lv first outside none f =
      let s : St = f.0 in let r = f.1.0 in let at = f.1.1 in let k = knows i v lv first s r at in
      elim (r.turn) as (λ _. Closes v xs) [
        | at_home x ws' hs told from out ↦ (x, f.4 0 (Some x) (ap (λ (h : List (place.Option (Option X))). get_elem? h 0) hs), told ∙ all_seen i v lv first s r at none, k, k.all_of none, (r.seats i v at lv).origin_is ∙ ap Some (sym from))
        | taken h u ws' hs there lu inside others ↦ absurd (
            let one : count_by live s.views ≡ 1 = r.counts ∙ ap (λ (n : ℕ). n + 1) (sym (top_r i v lv first s r at).out_is ∙ none) in
            let same : u ≡ v = at_one s.views i u v (subst (λ (z : ℕ). get_elem? s.views z ≡ place.some u) (count_one live s.views h i u v one there lu at lv) there) at in
            let a : v.inside ≡ Some r.log = ap (λ (z : V). z.inside) (sym same) ∙ inside in cc)
      ]

  -- what a look tells after a join
  module _ (v w : V) (out : List (ℕ × Option X)) (m : Me (Option X) V) (is : m ≡ (joined_with v w, out)) (k : Knows number m.0) where
    pub heard : (m' : Me (Option X) V) → m' ≡ m → IsPrefix w.seen m'.0.seen
    heard m' same = subst (λ (z : Me (Option X) V). IsPrefix w.seen z.0.seen) (sym (same ∙ is))
        (let h : HasHeard (joined_with v w).joined (joined_with v w).seen = subst (λ (z : Me (Option X) V). HasHeard z.0.joined z.0.seen) is k.has_heard in
        h (length v.joined) record { number = w.number; notes = w.mine; seen = w.seen } (at_last v.joined record { number = w.number; notes = w.mine; seen = w.seen } (length v.joined) refl))

    pub one_of : (m' : Me (Option X) V) → m' ≡ m → (m'.0.seen ≡ v.seen) ⊎ (m'.0.seen ≡ w.seen)
    one_of m' same =
        let e : m'.0.seen ≡ longer v.seen w.seen = ap (λ (z : Me (Option X) V). z.0.seen) (same ∙ is) in
        ⊎_elim (λ a. inl (e ∙ a)) (λ b. inr (e ∙ b)) (longer_one v.seen w.seen (subst (λ (z : List N). IsPrefix w.seen z) e (heard m' same)))

    pub was_out : length v.joined + v.out + 1 ≡ v.made → 1 ≤ v.out
    was_out before =
        let j : Joined N = record { number = w.number; notes = w.mine; seen = w.seen } in
        let after : length (v.joined ++ j ∷ []) + (v.out - 1) + 1 ≡ v.made = subst (λ (z : Me (Option X) V). length z.0.joined + z.0.out + 1 ≡ z.0.made) is k.sums in
        let l = length-append v.joined (j ∷ []) in omega arith

  -- the value that the close takes out
  pub record Ends (v : V) (y : X) : Type 0 where
    pub story_is : story y ≡ v.seen
    pub mine : notes_of number 0 (story y) ≡ v.mine
    pub joined : HasKept number v.joined (story y)
    pub others : IsAllOf number v (story y)
    pub apart : AreApart v.made v.joined
    pub all_back : HasAllBack v
    pub origin_is : v.origin ≡ Some (origin y)

  module _ (i : ℕ) (v : V) (ws : List ℕ) (xs : List (Option X)) (lv : v.live ≡ true) (first : v.number ≡ 0) (outside : v.inside ≡ None) (none : v.out ≡ 0) (f : Final (Seen Rule i v) ws xs)
      (taken : Option X) (at : get_elem? xs 0 ≡ place.some taken) where
    pub finds_some : (x : X) × (taken ≡ Some x)
    finds_some = let c = closes i v ws xs lv first outside none f in (c.0, at_one xs 0 taken (Some c.0) at c.1)

    pub ends : (y : X) → taken ≡ Some y → Ends v y
    ends y is = let c = closes i v ws xs lv first outside none f in
        let same : c.0 ≡ y = let e = at_one xs 0 taken (Some c.0) at c.1 in cc in
        subst (Ends v) same record {
          story_is = c.2;
          mine = ap (notes_of number 0) c.2 ∙ (ap (λ (n : ℕ). notes_of number n v.seen) (sym first) ∙ c.3.own);
          joined = subst (HasKept number v.joined) (sym c.2) c.3.has_kept;
          others = subst (IsAllOf number v) (sym c.2) c.4;
          apart = c.3.apart;
          all_back = c.3.all_back none;
          origin_is = c.5;
        }
