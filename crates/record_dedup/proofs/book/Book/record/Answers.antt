use Rattle.std.proofs.Common.{◌≡◌, false, Result, Ok, Err, OnOk, IfErr, refl, sym, ap, subst, ◌∙◌, length}
use Rattle.std.proofs.lemmas.Result.{err_from_is_err_and}
use Rattle.foz_archive.specs.declared.push.PushError.{PushError}
use Rattle.foz_archive.specs.Pushed.{HasRoom, HasNoRoom}
use Rattle.record_words.proofs.Rows.{holder_below}
use Rattle.record_dedup.specs.declared.ack.Ack.{Ack}
use Rattle.record_dedup.specs.declared.ack.RecordError.{RecordError}
use Rattle.record_dedup.specs.declared.ack.RecordError.TheVariants.{Memory}
use Rattle.record_dedup.specs.Kept.{Booked, recorder_of}
use Rattle.record_dedup.specs.Steps.{IsStep, reply_told}
use Rattle.record_dedup.proofs.Answers.{as_booked, book_is_few, held_step, too_large_step, small_enough, no_room_step, no_room_is_no_memory, new_reply}
use Rattle.record_dedup.proofs.book.Book.record.Goals as goal

pub returns-in-Some-clause-step : goal.returns-in-Some-clause-step
returns-in-Some-clause-step g c =
    let i = c.self.inside in
    let whole : c.args.self.now.broken ≡ false = sym (ap (λ (b : Booked _). b.broken) c.self.view_is) ∙ (sym c.is_broken.ensures.broken ∙ c.if-is_broken.false) in
    (too_large_step (recorder_of c.args.self.now) c.args.key c.args.payload.now whole i.archive.end (length i.archive.entries) c.in-Some.size c.check_room-room.result c.check_room-room.ensures.refused (sym c.too_large.ensures ∙ c.in-Some.is), refl)

pub compare-requires : goal.compare-requires
compare-requires g c = holder_below c.args.key c.args.self.now.entries c.in-Some-holder.index (sym c.holder.ensures ∙ c.in-Some-holder.is)

pub returns-in-Some-holder-clause-step : goal.returns-in-Some-holder-clause-step
returns-in-Some-holder-clause-step g c =
    let i = c.self.inside in
    let whole : c.args.self.now.broken ≡ false = sym (ap (λ (b : Booked _). b.broken) c.self.view_is) ∙ (sym c.is_broken.ensures.broken ∙ c.if-is_broken.false) in
    let fits = small_enough i.archive.end (length i.archive.entries) (length c.args.payload.now) c.check_room-room.result c.check_room-room.ensures.room c.check_room-room.ensures.refused (λ x e. c.in_default.not-Some x (c.too_large.ensures ∙ e)) in
    held_step (recorder_of c.args.self.now) c.args.key c.args.payload.now whole fits c.in-Some-holder.index (sym c.holder.ensures ∙ c.in-Some-holder.is) c.compare.result c.compare.ensures

module _ (g : _) (c : goal.After-from_residual g) where
  abbrev error : PushError
  error = c.in_err-room.field-0.0

  no_room : HasNoRoom c.self.inside.archive.end (length c.self.inside.archive.entries) (length c.args.payload.now) error
  no_room = subst (λ (r : Result _ PushError). IfErr r (HasNoRoom c.self.inside.archive.end (length c.self.inside.archive.entries) (length c.args.payload.now))) c.in_err-room.was c.check_room-room.ensures.refused

pub returns-in_err-room-clause-step : goal.returns-in_err-room-clause-step
returns-in_err-room-clause-step g c =
    let i = c.self.inside in
    let s = recorder_of c.args.self.now in
    let p = c.args.payload.now in
    let whole : c.args.self.now.broken ≡ false = sym (ap (λ (b : Booked _). b.broken) c.self.view_is) ∙ (sym c.is_broken.ensures.broken ∙ c.if-is_broken.false) in
    let told = err_from_is_err_and c.from_residual.result c.from_residual.ensures.1 in
    let none = as_booked (λ e n. HasNoRoom e n (length p) (error g c)) c.entries_are_bounded.ensures.end c.args.self.now i.archive i.began.value i.opened c.self.view_is c.self.invariant.1 (no_room g c) in
    subst (λ (r : Result Ack RecordError). IsStep s c.args.key p (reply_told r) s) (sym (told.1 ∙ ap Err told.2))
    (no_room_step s c.args.key p whole (sym c.holder.ensures ∙ c.in_default-holder.is) (book_is_few c.entries_are_bounded.ensures.few c.args.self.now i.archive i.began.value i.opened c.self.view_is c.self.invariant.1) (error g c) none)

pub returns-in_err-room-clause-memory : goal.returns-in_err-room-clause-memory
returns-in_err-room-clause-memory g c memory =
    let told = err_from_is_err_and c.from_residual.result c.from_residual.ensures.1 in
    let first = told.1 in
    let same : told.0 ≡ Memory = cc in
    absurd (no_room_is_no_memory c.self.inside.archive.end (length c.self.inside.archive.entries) (length c.args.payload.now) (error g c) (no_room g c) (sym told.2 ∙ same))

pub add-requires-clause-room : goal.add-requires-clause-room
add-requires-clause-room g c =
    let i = c.self.inside in
    let size = length c.args.payload.now in
    as_booked (λ e n. HasRoom e n size) c.entries_are_bounded.ensures.end c.args.self.now i.archive i.began.value i.opened c.self.view_is c.self.invariant.1
    (subst (λ (r : Result _ PushError). OnOk r (HasRoom i.archive.end (length i.archive.entries) size)) c.in_ok-room.was c.check_room-room.ensures.room)

pub returns-in_err-add-clause-memory : goal.returns-in_err-add-clause-memory
returns-in_err-add-clause-memory g c memory =
    let i = c.self.inside in
    let size = length c.args.payload.now in
    let whole : c.args.self.now.broken ≡ false = sym (ap (λ (b : Booked _). b.broken) c.self.view_is) ∙ (sym c.is_broken.ensures.broken ∙ c.if-is_broken.false) in
    let room = as_booked (λ e n. HasRoom e n size) c.entries_are_bounded.ensures.end c.args.self.now i.archive i.began.value i.opened c.self.view_is c.self.invariant.1
    (subst (λ (r : Result _ PushError). OnOk r (HasRoom i.archive.end (length i.archive.entries) size)) c.in_ok-room.was c.check_room-room.ensures.room) in
    new_reply (recorder_of c.args.self.now) c.args.key c.args.payload.now whole (sym c.holder.ensures ∙ c.in_default-holder.is) room

pub returns-clause-step : goal.returns-clause-step
returns-clause-step g c =
    let i = c.self.inside in
    let s = recorder_of c.args.self.now in
    let p = c.args.payload.now in
    let size = length p in
    let whole : c.args.self.now.broken ≡ false = sym (ap (λ (b : Booked _). b.broken) c.self.view_is) ∙ (sym c.is_broken.ensures.broken ∙ c.if-is_broken.false) in
    let room = as_booked (λ e n. HasRoom e n size) c.entries_are_bounded.ensures.end c.args.self.now i.archive i.began.value i.opened c.self.view_is c.self.invariant.1
    (subst (λ (r : Result _ PushError). OnOk r (HasRoom i.archive.end (length i.archive.entries) size)) c.in_ok-room.was c.check_room-room.ensures.room) in
    let added = c.in_ok-add.ensures.added in
    subst (λ (a : Ack). IsStep s c.args.key p (reply_told (Ok a)) (recorder_of c.add.new.self)) (sym added.0)
    (sym (new_reply s c.args.key p whole (sym c.holder.ensures ∙ c.in_default-holder.is) room), ap recorder_of added.1)
