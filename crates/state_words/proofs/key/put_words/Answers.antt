use Rattle.std.proofs.Common.{ℕ, [], ◌∷◌, ap}
use Rattle.vk_form.proofs.Writing.{then_written, written_as, fields_written}
use Rattle.state_words.specs.Words.{words_of}
use Rattle.state_words.proofs.key.put_words.Goals as goal

pub returns : goal.returns
unfolding words_of
returns c = then_written (written_as (ap (λ (n : ℕ). n ∷ []) c.tag.ensures) c.number.ensures) (fields_written _ _ _ _ c.put_fields.ensures)
