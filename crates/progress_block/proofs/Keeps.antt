-- Each step of the progress cell keeps its rule.
use Rattle.std.proofs.Common.{◌≡◌, ◌≢◌, ℕ, ◌+◌, ◌≤◌, ◌⊎◌, Bool, true, false, List, [], ◌∷◌, ◌++◌, set, sym, refl, ap, ◌∙◌, subst, inl, inr, ⊎_elim, append-nil, append_assoc, true≢false, arith}
use mathlib.Core.List.{IsPrefix}
use mathlib.Core.Option.{some}
use lib.ListN.{get_elem?}
use Rattle.atomic_table.proofs.Lists.{at_set, at_snoc, set_again}
use Rattle.crossbeam_utils.specs.Register.{Turns, Forks}
use Rattle.replay_core.specs.declared.counts.Counts.{Counts}
use Rattle.progress_block.specs.declared.cell_row.CellRow.{CellRow}
use Rattle.progress_block.specs.declared.view.View.{View}
use Rattle.progress_block.specs.Rows.{Rise, EndsWith}
use Rattle.progress_block.specs.Cell.{IsTold, published, published_one, reader_of, HasRead}

pub rise_snoc : (low : ℕ) (rows : List Counts) (c : Counts) → Rise low rows → (rows ≡ [] → low ≤ c.events) → ((l : Counts) → EndsWith rows l → l.events ≤ c.events) → c.events ≤ 2147483647 → Rise low (rows ++ c ∷ [])
rise_snoc low [] c h first last most = (first refl, most)
rise_snoc low (x ∷ xs) c h first last most = (h.0, rise_snoc x.events xs c h.1 (λ e. last x ([], ap (λ (l : List Counts). x ∷ l) e)) (λ l e. last l (x ∷ e.0, ap (λ (z : List Counts). x ∷ z) e.1)) most)

prefix_of_more : (rows seen more : List Counts) → IsPrefix seen rows → IsPrefix seen (rows ++ more)
prefix_of_more rows seen more s = (s.0 ++ more, sym (append_assoc seen s.0 more) ∙ ap (λ (z : List Counts). z ++ more) s.1)

no_end : (rows : List Counts) (c : Counts) → rows ++ c ∷ [] ≡ [] → ⊥
no_end [] c e = cc
no_end (x ∷ xs) c e = cc

pub opens : (c : CellRow) → IsTold c (record { writes = true; rows = [] } ∷ [])
opens c = record {
  rows = [];
  last = λ n. absurd (n refl);
  rise = omega arith;
  seen = λ i v e. ([], only (λ (z : View). z.rows ++ [] ≡ []) refl i v e);
  writer = λ i v e w. (place i v e, only (λ (z : View). z.rows ≡ []) refl i v e);
}
  where
    only : (P : View → Type 0) → P (record { writes = true; rows = [] }) → (i : ℕ) (v : View) → get_elem? (record { writes = true; rows = [] } ∷ []) i ≡ some v → P v
    only P p Rattle.std.proofs.Common.zero v e = subst P (mathlib.Core.Option.some-injective (record { writes = true; rows = [] }) v e) p
    only P p (Rattle.std.proofs.Common.suc i) v e = absurd (mathlib.Core.Option.some-ne-none v (sym e))

    place : (i : ℕ) (v : View) → get_elem? (record { writes = true; rows = [] } ∷ []) i ≡ some v → i ≡ 0
    place Rattle.std.proofs.Common.zero v e = refl
    place (Rattle.std.proofs.Common.suc i) v e = absurd (mathlib.Core.Option.some-ne-none v (sym e))

pub publishes : (pass : ℕ) (v : View) (c : CellRow) → v.writes ≡ true → ((l : Counts) → EndsWith v.rows l → l.events ≤ c.counts.events) → c.counts.events ≤ 2147483647 → Turns IsTold pass v (λ _. c) published_one
publishes pass v c mine later most x views h at =
    let me = h.writer pass v at mine in
    let w : View = published v (c.counts ∷ []) in
    let all : List Counts = v.rows ++ c.counts ∷ [] in (
      w,
      record {
        rows = all;
        last = λ _. (v.rows, refl);
        rise = rise_snoc 0 v.rows c.counts (subst (Rise 0) (sym me.1) h.rise) (λ _. omega arith) later most;
        seen = λ j u e. ⊎_elim (λ (t : (j ≡ pass) × (w ≡ u)). subst (λ (z : View). IsPrefix z.rows all) t.1 ([], append-nil all))
            (λ (t : (j ≢ pass) × (get_elem? views j ≡ some u)). prefix_of_more v.rows u.rows (c.counts ∷ []) (subst (λ (z : List Counts). IsPrefix u.rows z) (sym me.1) (h.seen j u t.1))) (at_set views pass j w u e);
        writer = λ j u e k. ⊎_elim (λ (t : (j ≡ pass) × (w ≡ u)). (t.0 ∙ me.0, ap (λ (z : View). z.rows) (sym t.1)))
            (λ (t : (j ≢ pass) × (get_elem? views j ≡ some u)). absurd (t.0 ((h.writer j u t.1 k).0 ∙ sym me.0))) (at_set views pass j w u e);
      },
      refl,
    )

pub reads : (pass : ℕ) (v : View) → Turns IsTold pass v (λ x. x) HasRead
reads pass v x views h at =
    let w : View = record { writes = v.writes; rows = h.rows } in (
      w,
      record {
        rows = h.rows;
        last = h.last;
        rise = h.rise;
        seen = λ j u e. ⊎_elim (λ (t : (j ≡ pass) × (w ≡ u)). subst (λ (z : View). IsPrefix z.rows h.rows) t.1 ([], append-nil h.rows))
            (λ (t : (j ≢ pass) × (get_elem? views j ≡ some u)). h.seen j u t.1) (at_set views pass j w u e);
        writer = λ j u e k. ⊎_elim (λ (t : (j ≡ pass) × (w ≡ u)). (t.0 ∙ (h.writer pass v at (ap (λ (z : View). z.writes) t.1 ∙ k)).0, ap (λ (z : View). z.rows) (sym t.1)))
            (λ (t : (j ≢ pass) × (get_elem? views j ≡ some u)). h.writer j u t.1 k) (at_set views pass j w u e);
      },
      record { later = h.seen pass v at; last = h.last; rise = h.rise; writes = refl },
    )

pub forks : (pass : ℕ) (v : View) → Forks IsTold pass v v (reader_of v)
forks pass v x views h at = subst (λ (l : List View). IsTold x (l ++ reader_of v ∷ [])) (sym (set_again views pass v at)) record {
  rows = h.rows;
  last = h.last;
  rise = h.rise;
  seen = λ j u e. ⊎_elim (λ was. h.seen j u was) (λ (same : reader_of v ≡ u). subst (λ (z : View). IsPrefix z.rows h.rows) same (h.seen pass v at)) (at_snoc views (reader_of v) u j e);
  writer = λ j u e k. ⊎_elim (λ was. h.writer j u was k) (λ (same : reader_of v ≡ u). absurd (true≢false (sym k ∙ ap (λ (z : View). z.writes) (sym same)))) (at_snoc views (reader_of v) u j e);
}

pub none_ends : (rows : List Counts) (c : Counts) → rows ≡ [] → EndsWith rows c → ⊥
none_ends rows c e h = no_end h.0 c (sym h.1 ∙ e)

pub some_prefix : (rows seen : List Counts) → IsPrefix seen rows → seen ≢ [] → rows ≢ []
some_prefix rows [] s n e = n refl
some_prefix rows (x ∷ xs) s n e = let h = s.1 in cc

pub rise_least : (low : ℕ) (rows : List Counts) → Rise low rows → low ≤ 2147483647
rise_least low [] h = h
rise_least low (x ∷ xs) h = let m = rise_least x.events xs h.1 in let l = h.0 in omega arith

rise_at : (low : ℕ) (front : List Counts) (c : Counts) (more : List Counts) → Rise low ((front ++ c ∷ []) ++ more) → Rise c.events more
rise_at low [] c more h = h.1
rise_at low (x ∷ xs) c more h = rise_at x.events xs c more h.1

pub rise_end : (rows : List Counts) (c : Counts) → Rise 0 rows → EndsWith rows c → c.events ≤ 2147483647
rise_end rows c h e = rise_least c.events [] (rise_at 0 e.0 c [] (subst (Rise 0) (e.1 ∙ sym (append-nil (e.0 ++ c ∷ []))) h))

pub ends_same : (f g : List Counts) (c d : Counts) → f ++ c ∷ [] ≡ g ++ d ∷ [] → c ≡ d
ends_same [] [] c d e = cc
ends_same [] (y ∷ ys) c d e = absurd (no_end ys d (let t : [] ≡ ys ++ d ∷ [] = cc in sym t))
ends_same (x ∷ xs) [] c d e = absurd (no_end xs c (let t : xs ++ c ∷ [] ≡ [] = cc in t))
ends_same (x ∷ xs) (y ∷ ys) c d e = ends_same xs ys c d (let t : xs ++ c ∷ [] ≡ ys ++ d ∷ [] = cc in t)

no_end_more : (us : List Counts) (c x : Counts) (xs : List Counts) → (us ++ c ∷ []) ++ x ∷ xs ≡ [] → ⊥
no_end_more [] c x xs e = cc
no_end_more (u ∷ us) c x xs e = cc

ends_of : (f : List Counts) (x : Counts) (xs : List Counts) (c : Counts) (g : List Counts) (d : Counts) → (f ++ c ∷ []) ++ x ∷ xs ≡ g ++ d ∷ [] → EndsWith (x ∷ xs) d
ends_of [] x xs c [] d e = absurd (let t : x ∷ xs ≡ [] = cc in cc)
ends_of [] x xs c (y ∷ ys) d e = (ys, (let t : x ∷ xs ≡ ys ++ d ∷ [] = cc in t))
ends_of (u ∷ us) x xs c [] d e = absurd (no_end_more us c x xs (let t : (us ++ c ∷ []) ++ x ∷ xs ≡ [] = cc in t))
ends_of (u ∷ us) x xs c (y ∷ ys) d e = ends_of us x xs c ys d (let t : (us ++ c ∷ []) ++ x ∷ xs ≡ ys ++ d ∷ [] = cc in t)

rise_last : (low : ℕ) (x : Counts) (xs : List Counts) (c : Counts) → Rise low (x ∷ xs) → EndsWith (x ∷ xs) c → low ≤ c.events
rise_last low x [] c h e = let same = ap (λ (z : Counts). z.events) (ends_same [] e.0 x c e.1) in let l = h.0 in omega arith
rise_last low x (y ∷ ys) c h e = let l = h.0 in let m = rise_last x.events y ys c h.1 (ends_of [] y ys x e.0 c e.1) in omega arith

-- what ends later rows has no fewer events than what ended the earlier ones
pub rise_later : (rows seen : List Counts) (a b : Counts) → Rise 0 rows → IsPrefix seen rows → EndsWith seen a → EndsWith rows b → a.events ≤ b.events
rise_later rows seen a b h s ea eb =
    let all : rows ≡ (ea.0 ++ a ∷ []) ++ s.0 = sym s.1 ∙ ap (λ (z : List Counts). z ++ s.0) ea.1 in
    after s.0 (rise_at 0 ea.0 a s.0 (subst (Rise 0) all h)) (sym all ∙ eb.1)
  where
    after : (more : List Counts) → Rise a.events more → (ea.0 ++ a ∷ []) ++ more ≡ eb.0 ++ b ∷ [] → a.events ≤ b.events
    after [] r e = let same = ap (λ (z : Counts). z.events) (ends_same ea.0 eb.0 a b (sym (append-nil (ea.0 ++ a ∷ [])) ∙ e)) in omega arith
    after (x ∷ xs) r e = rise_last a.events x xs b r (ends_of ea.0 x xs a eb.0 b e)
