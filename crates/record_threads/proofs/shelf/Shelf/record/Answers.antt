use Rattle.std.proofs.Common.{◌≡◌, ◌++◌, ◌∷◌, [], MatchOption, Bool, if◌then◌else◌, List, Option, Some, sym, ap, ◌∙◌, subst}
use Rattle.record_words.specs.declared.note.RecordNote.{RecordNote}
use Rattle.record_words.specs.declared.note.RecordCall.TheVariants.{Record}
use Rattle.record_words.specs.declared.note.RecordReply.{RecordReply}
use Rattle.record_dedup.specs.Kept.{recorder_of}
use Rattle.record_dedup.specs.Steps.{reply_told, IsStep}
use Rattle.record_threads.specs.Ties.{IsRecordNote}
use Rattle.record_threads.specs.Shelves.{Shelved, IsNoted, full_story}
use Rattle.record_threads.proofs.Growth.{recorded}
use Rattle.record_threads.proofs.shelf.Shelf.record.Goals as goal

pub invariant_of-self-else-is_err-2 : goal.invariant_of-self-else-is_err-2
invariant_of-self-else-is_err-2 g c =
    let told : reply_told c.record-answer.result ≡ Some c.in-Some.reply = sym c.reply_told.ensures ∙ c.in-Some.is in
    let step = subst (λ (o : Option RecordReply). IsStep (recorder_of c.self.inside.book) c.args.key c.args.payload.now o (recorder_of c.record-answer.new.self)) told c.record-answer.ensures.step in
    let note : RecordNote = record { seat = c.args.seat; call = Record c.args.key; reply = c.in-Some.reply } in
    let items : c.push.new.self.items ≡ c.self.inside.notes.items ++ note ∷ [] = c.push.ensures.items ∙ (ap (λ (b : Bool). if b then c.reserve.new.self.items ++ note ∷ [] else c.reserve.new.self.items) c.if-is_err-2.ensures.negation ∙ ap (λ (z : List RecordNote). z ++ note ∷ []) c.reserve.ensures.items) in
    let leaves = recorded c.stories_add_each_key_once.ensures.goes_on c.first_of_its_key_holds_it.ensures.there c.self.inside.origin.value c.self.inside.book c.record-answer.new.self c.self.inside.notes.items c.self.invariant c.args.key c.args.payload.now c.args.seat c.in-Some.reply step c.record-answer.ensures.rest c.push.new.self.items items in
    leaves.are

pub returns-else-is_err-2-clause-told : goal.returns-else-is_err-2-clause-told
returns-else-is_err-2-clause-told g c =
    let told : reply_told c.record-answer.result ≡ Some c.in-Some.reply = sym c.reply_told.ensures ∙ c.in-Some.is in
    let step = subst (λ (o : Option RecordReply). IsStep (recorder_of c.self.inside.book) c.args.key c.args.payload.now o (recorder_of c.record-answer.new.self)) told c.record-answer.ensures.step in
    let note : RecordNote = record { seat = c.args.seat; call = Record c.args.key; reply = c.in-Some.reply } in
    let items : c.push.new.self.items ≡ c.self.inside.notes.items ++ note ∷ [] = c.push.ensures.items ∙ (ap (λ (b : Bool). if b then c.reserve.new.self.items ++ note ∷ [] else c.reserve.new.self.items) c.if-is_err-2.ensures.negation ∙ ap (λ (z : List RecordNote). z ++ note ∷ []) c.reserve.ensures.items) in
    let leaves = recorded c.stories_add_each_key_once.ensures.goes_on c.first_of_its_key_holds_it.ensures.there c.self.inside.origin.value c.self.inside.book c.record-answer.new.self c.self.inside.notes.items c.self.invariant c.args.key c.args.payload.now c.args.seat c.in-Some.reply step c.record-answer.ensures.rest c.push.new.self.items items in
    let later : Shelved _ = record { origin = c.self.inside.origin.value; story = full_story c.record-answer.new.self.entries c.push.new.self.items; book = c.record-answer.new.self } in
    subst (λ (o : Option RecordReply). MatchOption o (later ≡ c.args.self.now) (λ reply. IsNoted c.args.self.now c.args.seat (IsRecordNote c.args.key c.args.payload.now reply) later)) (sym told)
    (subst (λ (h : Shelved _). IsNoted h c.args.seat (IsRecordNote c.args.key c.args.payload.now c.in-Some.reply) later) c.self.view_is leaves.noted)

pub returns-else-is_err-2-clause-led : goal.returns-else-is_err-2-clause-led
returns-else-is_err-2-clause-led g c =
    let told : reply_told c.record-answer.result ≡ Some c.in-Some.reply = sym c.reply_told.ensures ∙ c.in-Some.is in
    let step = subst (λ (o : Option RecordReply). IsStep (recorder_of c.self.inside.book) c.args.key c.args.payload.now o (recorder_of c.record-answer.new.self)) told c.record-answer.ensures.step in
    let note : RecordNote = record { seat = c.args.seat; call = Record c.args.key; reply = c.in-Some.reply } in
    let items : c.push.new.self.items ≡ c.self.inside.notes.items ++ note ∷ [] = c.push.ensures.items ∙ (ap (λ (b : Bool). if b then c.reserve.new.self.items ++ note ∷ [] else c.reserve.new.self.items) c.if-is_err-2.ensures.negation ∙ ap (λ (z : List RecordNote). z ++ note ∷ []) c.reserve.ensures.items) in
    let leaves = recorded c.stories_add_each_key_once.ensures.goes_on c.first_of_its_key_holds_it.ensures.there c.self.inside.origin.value c.self.inside.book c.record-answer.new.self c.self.inside.notes.items c.self.invariant c.args.key c.args.payload.now c.args.seat c.in-Some.reply step c.record-answer.ensures.rest c.push.new.self.items items in
    leaves.are.leads_to
