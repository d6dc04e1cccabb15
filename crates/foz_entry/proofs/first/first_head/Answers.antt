use Rattle.std.proofs.Common.{ℕ, ◌+◌, List, refl, sym, subst, arith, rules}
use Rattle.foz_entry.specs.declared.cut.Cut.{Cut}
use Rattle.foz_entry.specs.Whole.{IsHead}
use Rattle.foz_entry.proofs.Heads.{length-head, name_of_head, length-number, rest_of_head}
use Rattle.foz_entry.proofs.first.first_head.Goals as goal

pub returns-then-bytes-lt-HEAD_LEN-clause-none : goal.returns-then-bytes-lt-HEAD_LEN-clause-none
returns-then-bytes-lt-HEAD_LEN-clause-none c = λ cut name rest h. omega (arith, length-head _ _ _ _ h)

pub returns-in_err-key-clause-none : goal.returns-in_err-key-clause-none
returns-in_err-key-clause-none c = rw c.from_residual.ensures (λ (cut : Cut) (name : List ℕ) (rest : List ℕ) (h : IsHead c.args.bytes.now name cut rest).
    c.in_err-key.ensures.none cut.key (rw (c.split_at.ensures.front, name_of_head _ _ _ _ h) h.named))

-- fifty-six bytes hold the four numbers
pub returns-in_err-format-clause-none : goal.returns-in_err-format-clause-none
returns-in_err-format-clause-none c =
    absurd (omega (arith, c.in_err-format.ensures.none.0 refl, length-number _ _ _ c.in_ok-size.ensures.found, c.split_at.ensures.back_len))

pub returns-in_err-crc-clause-none : goal.returns-in_err-crc-clause-none
returns-in_err-crc-clause-none c =
    absurd (omega (arith, c.in_err-crc.ensures.none.0 refl, length-number _ _ _ c.in_ok-format.ensures.found, length-number _ _ _ c.in_ok-size.ensures.found, c.split_at.ensures.back_len))

pub returns-in_err-uncompressed-clause-none : goal.returns-in_err-uncompressed-clause-none
returns-in_err-uncompressed-clause-none c =
    absurd (omega (arith, c.in_err-uncompressed.ensures.none.0 refl, length-number _ _ _ c.in_ok-crc.ensures.found, length-number _ _ _ c.in_ok-format.ensures.found, length-number _ _ _ c.in_ok-size.ensures.found, c.split_at.ensures.back_len))

pub returns-clause-found : goal.returns-clause-found
returns-clause-found c =
    let bytes = c.args.bytes.now in
    let head : Cut = record {
      key = c.in_ok-key.key;
      format = c.in_ok-format.format;
      crc = c.in_ok-crc.crc;
      size = c.in_ok-size.size;
      uncompressed = c.in_ok-uncompressed.uncompressed;
      total = 56 + c.in_ok-size.size;
    } in
    let found : (name : List ℕ) × IsHead bytes name head c.in_ok-uncompressed.field-0-1.now = search rules in
    (found.0, subst (IsHead bytes found.0 head) (sym (rest_of_head bytes found.0 c.in_ok-uncompressed.field-0-1.now head found.1)) found.1)
