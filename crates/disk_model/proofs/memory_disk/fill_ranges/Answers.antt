use Rattle.std.proofs.Common.{◌≡◌, ◌⊎◌, ⊎_elim, inl, inr, ℕ, ◌+◌, ◌<◌, List, length, take, get_or, sym, ◌∙◌, subst, arith}
use Rattle.std.proofs.lemmas.List.{take_more}
use Rattle.disk_model.specs.Disk.{InRange, InSome}
use Rattle.disk_model.proofs.Images.{InSome-push, InSome-front, InSome-last, InRange-cases}
use Rattle.disk_model.proofs.memory_disk.fill_ranges.Goals as goal

-- one range more
module _ (ranges : List (ℕ × ℕ)) (i fill : ℕ) (first mid new : List ℕ) (within : i < length ranges) (same : length mid ≡ length first) where
  range : ℕ × ℕ
  range = get_or ranges i (0, 0)

  front_or_last : (place : ℕ) → InSome (take (i + 1) ranges) place → InSome (take i ranges) place ⊎ InRange range place
  unfolding range
  front_or_last place some = InSome-push (take i ranges) (get_or ranges i (0, 0)) place (subst (λ (l : List (ℕ × ℕ)). InSome l place) (take_more ranges i (0, 0) within) some)

  more_front : (place : ℕ) → InSome (take i ranges) place → InSome (take (i + 1) ranges) place
  more_front place some = subst (λ (l : List (ℕ × ℕ)). InSome l place) (sym (take_more ranges i (0, 0) within)) (InSome-front (take i ranges) (get_or ranges i (0, 0)) place some)

  more_last : (place : ℕ) → InRange (get_or ranges i (0, 0)) place → InSome (take (i + 1) ranges) place
  more_last place last = subst (λ (l : List (ℕ × ℕ)). InSome l place) (sym (take_more ranges i (0, 0) within)) (InSome-last (take i ranges) (get_or ranges i (0, 0)) place last)

  inside_more : ((place : ℕ) → place < length first → InSome (take i ranges) place → get_or mid place 0 ≡ fill)
      → ((place : ℕ) → place < length mid → InRange (get_or ranges i (0, 0)) place → get_or new place 0 ≡ fill)
      → ((place : ℕ) → ¬ InRange (get_or ranges i (0, 0)) place → get_or new place 0 ≡ get_or mid place 0)
      → (place : ℕ) → place < length first → InSome (take (i + 1) ranges) place → get_or new place 0 ≡ fill
  unfolding range
  inside_more before here apart place lt some = elim (InRange-cases (get_or ranges i (0, 0)) place) [
    | inl inside ↦ here place (omega arith) inside
    | inr outside ↦ apart place outside ∙ before place lt (⊎_elim (λ front. front) (λ last. absurd (outside last)) (front_or_last place some))
  ]

pub loop-at-preserved : goal.loop-at-preserved
loop-at-preserved c =
    let ranges = c.args.ranges.now in
    let i = c.loop-at.at-index in
    let within = c.loop-at-test.true in
    let inside_all = inside_more ranges i c.args.fill c.args.bytes.now c.loop-at.bytes c.fill_range.new.bytes within c.loop-at.auto.bytes c.loop-at.invariant.inside c.fill_range.ensures.inside c.fill_range.ensures.outside in
    record {
      inside = inside_all;
      outside = λ place apart.
          c.fill_range.ensures.outside place (λ last. apart (more_last ranges i c.args.fill c.args.bytes.now c.loop-at.bytes c.fill_range.new.bytes within c.loop-at.auto.bytes place last))
          ∙ c.loop-at.invariant.outside place (λ front. apart (more_front ranges i c.args.fill c.args.bytes.now c.loop-at.bytes c.fill_range.new.bytes within c.loop-at.auto.bytes place front));
    }
