-- A key and a payload mean one thing.
use Rattle.std.proofs.Common.{◌≡◌, ℕ, ◌==◌, ◌/◌, Bool, true, false, List, Result, Ok, Err, sym, ap, ◌∙◌}
use Rattle.foz_words.specs.declared.key.Key.{Key}
use Rattle.spirv_varint.proofs.Rows.{one_answer}
use Rattle.vk_form.specs.Shape.{Plains}
use Rattle.state_words.specs.declared.state.State.{State}
use Rattle.foz_payload.specs.declared.unreadable.Unreadable.{Unreadable}
use Rattle.foz_payload.specs.Tables.{module_head}
use Rattle.foz_payload.specs.Parts.{behind_zero}
use Rattle.foz_payload.specs.Meaning.{head_of, window_of, module_of, MeansWords, MeansHead, MeansBy, Means}

words_alone : (flags count : ℕ) (window : Result (List ℕ) Unreadable) (answer other : Result State Unreadable) → MeansWords flags count window answer → MeansWords flags count window other → answer ≡ other
words_alone flags count (Err cause) answer other means also = means ∙ sym also
words_alone flags count (Ok bytes) answer other means also =
    let same : means.0 ≡ also.0 = one_answer bytes count means.0 also.0 means.1 also.1 means.2 also.2 in
    means.3 ∙ (ap (module_of flags) same ∙ sym also.3)

head_alone : (head : Result (Plains module_head) Unreadable) (payload : List ℕ) (answer other : Result State Unreadable) → MeansHead head payload answer → MeansHead head payload other → answer ≡ other
unfolding MeansHead module_head
head_alone (Err cause) payload answer other means also = means ∙ sym also
head_alone (Ok head) payload answer other means also =
    words_alone head.0 (head.1.0 / 4) (window_of head.1.0 head.1.1.0 head.1.1.1.0 (behind_zero payload)) answer other means also

by_tag_alone : (b : Bool) (key : Key) (payload : List ℕ) (answer other : Result State Unreadable) → MeansBy b key payload answer → MeansBy b key payload other → answer ≡ other
by_tag_alone true key payload answer other means also = head_alone (head_of key.hash payload) payload answer other means also
by_tag_alone false key payload answer other means also = means ∙ sym also

pub one_meaning : (key : Key) (payload : List ℕ) (answer other : Result State Unreadable) → Means key payload answer → Means key payload other → answer ≡ other
unfolding Means
one_meaning key payload answer other means also = by_tag_alone (key.tag == 4) key payload answer other means also
