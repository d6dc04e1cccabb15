use Rattle.std.proofs.Common.{◌≡◌, ℕ, refl, ap, ◌∙◌}
use Rattle.std.specs.Prelude.{fold}
use Rattle.state_hash.specs.Mixing.{mixed, hash_of}
use Rattle.state_words.specs.Words.{words_of, key_of}
use Rattle.state_words.proofs.key.key_of.Goals as goal

pub returns : goal.returns
unfolding key_of
returns c =
    let h : c.hashed.result ≡ hash_of (words_of c.args.state.now) = c.hashed.ensures ∙ c.put_words.ensures.hashes ∙ ap (λ (n : ℕ). fold mixed n (words_of c.args.state.now)) c.hashing-out.ensures.hashed in
    rw (c.tag.ensures, h) refl
