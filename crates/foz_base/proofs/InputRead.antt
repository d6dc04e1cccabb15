-- The input is read piece by piece.
use Rattle.std.proofs.Common.{◌≡◌, ℕ, ◌-◌, ◌<◌, ◌≤◌, List, [], ◌++◌, length, take, sym, ap, ◌∙◌, append_assoc, append-nil, length-append, length-take, arith}
use Rattle.foz_base.specs.InputRead.{IsInputRead, input_limit}

module _ (start bytes left buf after : List ℕ) (n : ℕ) (so_far : start ≡ bytes ++ left) (given : left ≡ take n buf ++ after) where
  pub read_more : (more piece : List ℕ) → more ≡ bytes ++ piece → piece ≡ take n buf → start ≡ more ++ after
  read_more more piece is same =
      so_far ∙ ap (λ (l : List ℕ). bytes ++ l) (given ∙ ap (λ (l : List ℕ). l ++ after) (sym same)) ∙ sym (append_assoc bytes piece after) ∙ ap (λ (l : List ℕ). l ++ after) (sym is)

  pub too_long : n ≤ length buf → length bytes ≤ input_limit → input_limit - length bytes < n → input_limit < length start
  too_long within short long =
      omega (arith, ap length so_far, ap length given, length-append bytes left, length-append (take n buf) after, length-take n buf)

  -- where nothing is given any more, all is read
  pub all_read : n ≡ 0 → left ≡ [] → length bytes ≤ input_limit → (row : List ℕ) → row ≡ bytes → IsInputRead start after row
  all_read none ended short row is =
      let whole : bytes ≡ start = sym (append-nil bytes) ∙ ap (λ (l : List ℕ). bytes ++ l) (sym ended) ∙ sym so_far in
      record {
        whole = is ∙ whole;
        short = omega (arith, ap length whole);
        none_left = sym (given ∙ ap (λ (k : ℕ). take k buf ++ after) none) ∙ ended;
      }
