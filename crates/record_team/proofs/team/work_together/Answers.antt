use Rattle.std.proofs.Common.{◌≡◌, ℕ, ◌<◌, ◌^◌, ◌∷◌, ◌++◌, length, get_or, map, slice_get, is_some, Option, IfOk, IfSome, refl, sym, ap, ◌∙◌, subst, arith}
use mathlib.Core.Option as place
use lib.ListN.{get_elem?}
use Rattle.turn_desk.specs.Seats.{view_of}
use Rattle.record_words.specs.Story.{At}
use Rattle.record_dedup.specs.Kept.{recorder_of}
use Rattle.record_team.specs.Work.{IsAtWork}
use Rattle.record_team.specs.Team.{after_splits, joined_of, AreBack}
use Rattle.record_team.proofs.Seats.{at_get, at_below, at_read}
use Rattle.record_team.proofs.Backs.{none_joined, nobody_back, are_back, have_answered, take_whole, first_of, all_are, some_is, each_ok}
use Rattle.record_team.proofs.team.work_together.Goals as goal

pub returns-in_err-told-clause-back : goal.returns-in_err-told-clause-back
returns-in_err-told-clause-back g c = λ origin is.
    subst (λ v. AreBack (recorder_of origin) (g.L.Lines.rest c.args.lines) c.args.threads v) (sym is) (nobody_back c.seats_have_their_calls.ensures.none origin (g.L.Lines.rest c.args.lines) c.args.threads)

pub returns-in_err-mates-clause-back : goal.returns-in_err-mates-clause-back
returns-in_err-mates-clause-back g c = λ origin is.
    subst (λ v. AreBack (recorder_of origin) (g.L.Lines.rest c.args.lines) c.args.threads v) (sym (c.in_err-mates.ensures.none ∙ is)) (nobody_back c.seats_have_their_calls.ensures.none origin (g.L.Lines.rest c.args.lines) c.args.threads)

pub work_all-requires-clause-new : goal.work_all-requires-clause-new
work_all-requires-clause-new g c κs within = (
  c.requires.root.0,
  λ k d below.
      let below_it : k < length c.in_ok-mates.mates.items = (let l = ap length c.as_mut_slice.ensures.value in omega arith) in
      let f = rw (← c.as_mut_slice.ensures.value) at (c.in_ok-mates.ensures.mates c.requires.root.0 c.requires.root.1 k (get_or c.in_ok-mates.mates.items k d) (at_get c.in_ok-mates.mates.items k d below_it)) in (
        f.1 ∙ ap (λ x. x.table.shared.table_id) (sym c.desk.ensures),
        subst (λ v. IsAtWork c.requires.root.0 v) (sym f.2) (record { outside = refl; origin_is = refl; own = refl }),
        ap (λ v. v.turns) f.2,
        ap (λ v. v.mine) f.2,
        f.4,
        subst (λ l. length (g.L.Lines.rest l) < 2 ^ 30) (sym f.3) c.requires.few,
      ),
)

pub take_back-requires-clause-kept : goal.take_back-requires-clause-kept
take_back-requires-clause-kept g c = λ p j e.
    let view = c.in_ok-mates.ensures.root ∙ ap (λ v. after_splits v c.args.threads) c.requires.root.1 in
    absurd (none_joined p j (subst (λ v. get_elem? v.joined p ≡ place.some j) view e))

pub take_back-requires-clause-seats : goal.take_back-requires-clause-seats
take_back-requires-clause-seats g c =
    let origin = c.requires.root.0 in
    let is = c.requires.root.1 in
    let many : length c.work_all.new.mates ≡ length c.in_ok-mates.mates.items = (let l = ap length c.as_mut_slice.ensures.value in let k = c.work_all.auto.mates in omega arith) in
    let again : c.from_vec.result.items ≡ c.work_all.new.mates = c.from_vec.ensures.items ∙ take_whole c.in_ok-mates.mates.len c.work_all.new.mates _ (omega (arith, c.in_ok-mates.mates.ok)) in
    rw again (λ i m below.
    let slice : i < length c.as_mut_slice.result.now = (let l = ap length c.as_mut_slice.ensures.value in omega arith) in
    let f = rw (← c.as_mut_slice.ensures.value) at (c.in_ok-mates.ensures.mates origin is i (get_or c.in_ok-mates.mates.items i m) (at_get c.in_ok-mates.mates.items i m (omega arith))) in
    let w = c.work_all.ensures.worked i m slice origin (subst (λ v. IsAtWork origin v) (sym f.2) (record { outside = refl; origin_is = refl; own = refl })) in
    (c.work_all.ensures.same i m slice ∙ f.1, w.work.outside))

pub returns-in-Some-clause-back : goal.returns-in-Some-clause-back
returns-in-Some-clause-back g c = λ origin is.
    let many : length c.work_all.new.mates ≡ length c.in_ok-mates.mates.items = (let l = ap length c.as_mut_slice.ensures.value in let k = c.work_all.auto.mates in omega arith) in
    let again : c.from_vec.result.items ≡ c.work_all.new.mates = c.from_vec.ensures.items ∙ take_whole c.in_ok-mates.mates.len c.work_all.new.mates _ (omega (arith, c.in_ok-mates.mates.ok)) in
    let worked = λ (i : ℕ) (m : _) (at : At c.from_vec.result.items i m).
    let there = rw again at at in
    let below = at_below c.work_all.new.mates i m there in
    let slice : i < length c.as_mut_slice.result.now = (let l = ap length c.as_mut_slice.ensures.value in omega arith) in
    let f = rw (← c.as_mut_slice.ensures.value) at (c.in_ok-mates.ensures.mates origin is i (get_or c.in_ok-mates.mates.items i m) (at_get c.in_ok-mates.mates.items i m (omega arith))) in
    let w = c.work_all.ensures.worked i m slice origin (subst (λ v. IsAtWork origin v) (sym f.2) (record { outside = refl; origin_is = refl; own = refl })) in
    let number = ap (λ v. v.number) f.2 in
    let last = at_read c.work_all.new.mates i m m there in
    rw (last, f.3, f.0, number) at w in
    let view = c.in_ok-mates.ensures.root ∙ ap (λ v. after_splits v c.args.threads) is in
    let joined = c.take_back.ensures.back.joined ∙ ap (λ v. v.joined ++ map joined_of (map (λ mate. view_of mate.seat) c.from_vec.result.items)) view in
    let count : length c.from_vec.result.items ≡ c.args.threads = (let l = ap length again in let k = c.in_ok-mates.ensures.length in let o = c.in_ok-mates.mates.ok in omega arith) in
    are_back (λ mate. view_of mate.seat) (λ mate. mate.told) (λ mate. mate.finished) c.from_vec.result.items origin (g.L.Lines.rest c.args.lines) c.args.threads count worked (view_of c.take_back.new.root) joined c.take_back.ensures.back.seen c.take_back.ensures.kept c.seats_have_their_calls.ensures.joined

pub returns-clause-back : goal.returns-clause-back
returns-clause-back g c = λ origin is.
    let many : length c.work_all.new.mates ≡ length c.in_ok-mates.mates.items = (let l = ap length c.as_mut_slice.ensures.value in let k = c.work_all.auto.mates in omega arith) in
    let again : c.from_vec.result.items ≡ c.work_all.new.mates = c.from_vec.ensures.items ∙ take_whole c.in_ok-mates.mates.len c.work_all.new.mates _ (omega (arith, c.in_ok-mates.mates.ok)) in
    let worked = λ (i : ℕ) (m : _) (at : At c.from_vec.result.items i m).
    let there = rw again at at in
    let below = at_below c.work_all.new.mates i m there in
    let slice : i < length c.as_mut_slice.result.now = (let l = ap length c.as_mut_slice.ensures.value in omega arith) in
    let f = rw (← c.as_mut_slice.ensures.value) at (c.in_ok-mates.ensures.mates origin is i (get_or c.in_ok-mates.mates.items i m) (at_get c.in_ok-mates.mates.items i m (omega arith))) in
    let w = c.work_all.ensures.worked i m slice origin (subst (λ v. IsAtWork origin v) (sym f.2) (record { outside = refl; origin_is = refl; own = refl })) in
    let number = ap (λ v. v.number) f.2 in
    let last = at_read c.work_all.new.mates i m m there in
    rw (last, f.3, f.0, number) at w in
    let view = c.in_ok-mates.ensures.root ∙ ap (λ v. after_splits v c.args.threads) is in
    let joined = c.take_back.ensures.back.joined ∙ ap (λ v. v.joined ++ map joined_of (map (λ mate. view_of mate.seat) c.from_vec.result.items)) view in
    let count : length c.from_vec.result.items ≡ c.args.threads = (let l = ap length again in let k = c.in_ok-mates.ensures.length in let o = c.in_ok-mates.mates.ok in omega arith) in
    are_back (λ mate. view_of mate.seat) (λ mate. mate.told) (λ mate. mate.finished) c.from_vec.result.items origin (g.L.Lines.rest c.args.lines) c.args.threads count worked (view_of c.take_back.new.root) joined c.take_back.ensures.back.seen c.take_back.ensures.kept c.seats_have_their_calls.ensures.joined

pub merged-requires-clause-count : goal.merged-requires-clause-count
merged-requires-clause-count g c =
    let origin = c.requires.root.0 in
    let is = c.requires.root.1 in
    let many : length c.work_all.new.mates ≡ length c.in_ok-mates.mates.items = (let l = ap length c.as_mut_slice.ensures.value in let k = c.work_all.auto.mates in omega arith) in
    let again : c.from_vec.result.items ≡ c.work_all.new.mates = c.from_vec.ensures.items ∙ take_whole c.in_ok-mates.mates.len c.work_all.new.mates _ (omega (arith, c.in_ok-mates.mates.ok)) in
    let worked = λ (i : ℕ) (m : _) (at : At c.from_vec.result.items i m).
    let there = rw again at at in
    let below = at_below c.work_all.new.mates i m there in
    let slice : i < length c.as_mut_slice.result.now = (let l = ap length c.as_mut_slice.ensures.value in omega arith) in
    let f = rw (← c.as_mut_slice.ensures.value) at (c.in_ok-mates.ensures.mates origin is i (get_or c.in_ok-mates.mates.items i m) (at_get c.in_ok-mates.mates.items i m (omega arith))) in
    let w = c.work_all.ensures.worked i m slice origin (subst (λ v. IsAtWork origin v) (sym f.2) (record { outside = refl; origin_is = refl; own = refl })) in
    let number = ap (λ v. v.number) f.2 in
    let last = at_read c.work_all.new.mates i m m there in
    rw (last, f.3, f.0, number) at w in
    let first = first_of c.as_slice-2.result.now (let l = ap length (c.as_slice-2.ensures.value) in let a = ap length again in let b = ap length c.from_vec.ensures.items in let t = c.requires.threads in let k = c.in_ok-mates.ensures.length in let o = c.in_ok-mates.mates.ok in omega arith) in
    let is_first : c.from_vec.result.items ≡ first.0 ∷ first.1 = (c.from_vec.ensures.items ∙ sym c.as_slice-2.ensures.value) ∙ first.2 in
    let told_first = worked 0 first.0 (ap (λ l. slice_get l 0) is_first) in
    let finished = sym (c.lines_counted-count.ensures first.0 first.1 first.2) ∙ c.in-Some.is in
    let number : c.in-Some.count ≡ length (g.L.Lines.rest c.args.lines) = subst (λ (o : Option ℕ). IfSome o (λ n. n ≡ length (g.L.Lines.rest c.args.lines))) finished told_first.counted in
    let few = c.requires.few in
    omega arith

pub returns-in-Some-clause-answered : goal.returns-in-Some-clause-answered
returns-in-Some-clause-answered g c = λ origin is.
    let many : length c.work_all.new.mates ≡ length c.in_ok-mates.mates.items = (let l = ap length c.as_mut_slice.ensures.value in let k = c.work_all.auto.mates in omega arith) in
    let again : c.from_vec.result.items ≡ c.work_all.new.mates = c.from_vec.ensures.items ∙ take_whole c.in_ok-mates.mates.len c.work_all.new.mates _ (omega (arith, c.in_ok-mates.mates.ok)) in
    let worked = λ (i : ℕ) (m : _) (at : At c.from_vec.result.items i m).
    let there = rw again at at in
    let below = at_below c.work_all.new.mates i m there in
    let slice : i < length c.as_mut_slice.result.now = (let l = ap length c.as_mut_slice.ensures.value in omega arith) in
    let f = rw (← c.as_mut_slice.ensures.value) at (c.in_ok-mates.ensures.mates origin is i (get_or c.in_ok-mates.mates.items i m) (at_get c.in_ok-mates.mates.items i m (omega arith))) in
    let w = c.work_all.ensures.worked i m slice origin (subst (λ v. IsAtWork origin v) (sym f.2) (record { outside = refl; origin_is = refl; own = refl })) in
    let number = ap (λ v. v.number) f.2 in
    let last = at_read c.work_all.new.mates i m m there in
    rw (last, f.3, f.0, number) at w in
    let view = c.in_ok-mates.ensures.root ∙ ap (λ v. after_splits v c.args.threads) is in
    let joined = c.take_back.ensures.back.joined ∙ ap (λ v. v.joined ++ map joined_of (map (λ mate. view_of mate.seat) c.from_vec.result.items)) view in
    let count : length c.from_vec.result.items ≡ c.args.threads = (let l = ap length again in let k = c.in_ok-mates.ensures.length in let o = c.in_ok-mates.mates.ok in omega arith) in
    let first = first_of c.as_slice-2.result.now (let l = ap length (c.as_slice-2.ensures.value) in let a = ap length again in let b = ap length c.from_vec.ensures.items in let t = c.requires.threads in let k = c.in_ok-mates.ensures.length in let o = c.in_ok-mates.mates.ok in omega arith) in
    let is_first : c.from_vec.result.items ≡ first.0 ∷ first.1 = (c.from_vec.ensures.items ∙ sym c.as_slice-2.ensures.value) ∙ first.2 in
    let told_first = worked 0 first.0 (ap (λ l. slice_get l 0) is_first) in
    let finished = sym (c.lines_counted-count.ensures first.0 first.1 first.2) ∙ c.in-Some.is in
    let number : c.in-Some.count ≡ length (g.L.Lines.rest c.args.lines) = subst (λ (o : Option ℕ). IfSome o (λ n. n ≡ length (g.L.Lines.rest c.args.lines))) finished told_first.counted in
    let queues = c.as_mut_slice-in-Some.ensures.value ∙ (c.take_back.ensures.told ∙ ap (λ l. l ++ map (λ mate. mate.told) c.from_vec.result.items) c.in_ok-told.ensures.items) in
    let ended = λ (i : ℕ) (m : _) (at : At c.from_vec.result.items i m). some_is m.finished (all_are (λ mate. is_some mate.finished) c.as_slice.result.now (sym c.all_finished-finished.ensures ∙ c.if-finished.true) i m (rw (← c.as_slice.ensures.value) at (rw c.from_vec.ensures.items at at))) in
    each_ok c.merged.result _ (λ all e.
    have_answered (λ mate. view_of mate.seat) (λ mate. mate.told) (λ mate. mate.finished) c.from_vec.result.items origin (g.L.Lines.rest c.args.lines) c.args.threads count worked (view_of c.take_back.new.root) joined c.take_back.ensures.back.seen c.take_back.ensures.kept c.seats_have_their_calls.ensures.joined
    ended c.as_mut_slice-in-Some.result.now queues c.in-Some.count number all (λ whole rise parts. subst (λ r. IfOk r (λ a. a ≡ whole)) e (c.merged.ensures whole rise parts)))
