use Rattle.std.proofs.Common.{◌≡◌, ◌+◌, ◌*◌, ◌^◌, ◌<◌, ◌≤◌, ap, arith, rules, ◌∙◌}
use Rattle.spirv_varint.proofs.Numbers.{joined}
use Rattle.spirv_varint.proofs.reading.with_bits.Goals as goal

pub overflow_add-result : goal.overflow_add-result
overflow_add-result c =
    let bits : c.from.result < 128 = omega arith in
    let fifth : c.args.taken ≡ 4 → c.from.result ≤ 15 = λ four. (let most = c.requires.fifth four in omega arith) in
    let both = joined c.args.taken c.args.word c.from.result c.requires.taken c.requires.word bits fifth in
    search (rules, both.1)

pub returns : goal.returns
returns c =
    let bits : c.from.result < 128 = omega arith in
    let fifth : c.args.taken ≡ 4 → c.from.result ≤ 15 = λ four. (let most = c.requires.fifth four in omega arith) in
    ap (λ n. c.args.word + n) ((joined c.args.taken c.args.word c.from.result c.requires.taken c.requires.word bits fifth).0 ∙ ap (λ n. 128 ^ c.args.taken * n) c.from.ensures)
