-- What was played, by what is seen of each slot.
use Rattle.std.proofs.Common.{◌≡◌, ℕ, ◌<◌, zero, suc, Bool, false, List, [], ◌∷◌, length, map, refl, sym, subst, arith}
use Rattle.std.specs.Prelude.{All, slice_index_or}
use Rattle.std.proofs.lemmas.List.Elements.{All-nil, All-cons}
use mathlib.Core.Option.{some}
use lib.ListN.{get_elem?}
use Rattle.replay_core.specs.Histories.{History}
use Rattle.slot_log.specs.Views.{SlotView}
use Rattle.slot_log.specs.Works.{Orders}
use Rattle.crew_run.specs.Crews.{IsPlayed, ArePlayed}

module _ {S : Type 0} (view : S → SlotView) where
  -- what is seen at a place is seen of what stands there
  seen_at : (slots : List S) (w : ℕ) (seen : SlotView) → get_elem? (map view slots) w ≡ some seen → (slot : S) × (get_elem? slots w ≡ some slot) × (view slot ≡ seen)
  seen_at [] w seen e = absurd cc
  seen_at (slot ∷ slots) zero seen e = (slot, refl, let is : view slot ≡ seen = cc in is)
  seen_at (slot ∷ slots) (suc w) seen e = seen_at slots w seen e

  pub seen_played : (orders : Orders) (core : History) (before after : List S) → ArePlayed view orders core before after → ArePlayed (λ (slot : SlotView). slot) orders core (map view before) (map view after)
  seen_played orders core before after played w old new e f =
      let was = seen_at before w old e in
      let is = seen_at after w new f in
      subst (λ (n : SlotView). IsPlayed orders core w old n) is.2 (subst (λ (o : SlotView). IsPlayed orders core w o (view is.0)) was.2 (played w was.0 is.0 was.1 is.1))

  stands : (slots : List S) (i : ℕ) (d : S) → i < length slots → get_elem? slots i ≡ some (slice_index_or slots i d)
  stands [] i d inside = absurd (omega (arith, inside))
  stands (slot ∷ slots) zero d inside = refl
  stands (slot ∷ slots) (suc i) d inside = stands slots i d (omega (arith, inside))

  -- no worker runs in any slot afterwards
  pub all_stopped : (orders : Orders) (core : History) (before after : List S) → length after ≡ length before → ArePlayed view orders core before after → All (λ slot. (view slot).running ≡ false) after
  all_stopped orders core before after long played i d inside =
      (played i (slice_index_or before i d) (slice_index_or after i d) (stands before i d (omega (arith, long, inside))) (stands after i d inside)).stopped
