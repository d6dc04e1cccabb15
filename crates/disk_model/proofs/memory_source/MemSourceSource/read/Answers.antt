use Rattle.std.proofs.Common.{◌≡◌, ℕ, ◌+◌, ◌-◌, ◌≤◌, List, ◌++◌, length, take, drop, sym, ◌∙◌, ap, arith, length-take}
use Rattle.std.proofs.lemmas.List.{take-append-drop, drop-drop, take_rest, take-append-le, take_all}
use Rattle.disk_model.proofs.memory_source.MemSourceSource.read.Goals as goal

module _ (bytes piece rest : List ℕ) (given n : ℕ) where
  left : List ℕ
  left = take (length bytes - given) (drop given bytes)

  -- what is left is what is given now, and then what is left after it
  given_front : piece ≡ take n left → n ≤ length left → drop given bytes ≡ take n (piece ++ rest) ++ drop (given + n) bytes
  unfolding left
  given_front is within =
      let long : length piece ≡ n = omega (arith, ap length is, length-take n left, within) in
      let front : take n (piece ++ rest) ≡ take n (drop given bytes) = take-append-le n piece rest (omega (arith, long)) ∙ take_all n piece (omega (arith, long)) ∙ is ∙ ap (λ (l : List ℕ). take n l) (take_rest bytes given) in
      sym (ap (λ (l : List ℕ). l ++ drop (given + n) bytes) front ∙ ap (λ (l : List ℕ). take n (drop given bytes) ++ l) (sym (drop-drop n given bytes)) ∙ take-append-drop n (drop given bytes))

pub returns-clause-bytes : goal.returns-clause-bytes
unfolding left
returns-clause-bytes c =
    let m = c.args.self.now in
    given_front m.bytes.items c.copy_from_slice.new.self (drop c.min-n.result c.args.buf.now) m.given c.min-n.result (rw c.deref.ensures.value at c.copy_from_slice.ensures.after) (omega (arith, rw c.deref.ensures.value at c.min-n.ensures))
