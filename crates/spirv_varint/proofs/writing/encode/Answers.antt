use Rattle.std.proofs.Common.{◌≡◌, List, ℕ, [], refl, subst, sym, arith}
use Rattle.std.proofs.lemmas.Grind.{common_steps}
use Rattle.spirv_varint.specs.Varint.{spelling}
use Rattle.spirv_varint.specs.Reading.{Splits}
use Rattle.spirv_varint.proofs.Shortest.{spelling_splits}
use Rattle.spirv_varint.proofs.writing.encode.Goals as goal

pub returns-clause-read_back : goal.returns-clause-read_back
unfolding spelling
returns-clause-read_back c =
    let whole : c.from_vec.result ≡ spelling c.args.words.now = grind (arith, common_steps) in
    (subst (λ (bytes : List ℕ). Splits bytes c.args.words.now []) (sym whole) (spelling_splits c.args.words.now (λ k. omega (arith, c.type_inv.words k))), refl)
