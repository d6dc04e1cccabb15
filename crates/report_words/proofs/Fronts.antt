-- Texts that grow.
use Rattle.std.proofs.Common.{◌≡◌, ℕ, List, [], ◌++◌, length, take, sym, ap, ◌∙◌, append_assoc, append-nil}
use Rattle.std.proofs.lemmas.List.{take_at}
use Rattle.report_words.specs.Fronts.{BeginsWith}

pub all_front : (bytes : List ℕ) → BeginsWith bytes bytes
all_front bytes = record { rest = []; is = sym (append-nil bytes) }

pub front_more : (front bytes more longer : List ℕ) → longer ≡ bytes ++ more → BeginsWith front bytes → BeginsWith front longer
front_more front bytes more longer is begins = record {
  rest = begins.rest ++ more;
  is = is ∙ ap (λ (l : List ℕ). l ++ more) begins.is ∙ append_assoc front begins.rest more;
}

pub front_same : (front bytes same : List ℕ) → same ≡ bytes → BeginsWith front bytes → BeginsWith front same
front_same front bytes same is begins = record { rest = begins.rest; is = is ∙ begins.is }

-- what was added is cut off again
pub cut_back : (front bytes : List ℕ) (n : ℕ) → length front ≡ n → BeginsWith front bytes → take n bytes ≡ front
cut_back front bytes n long begins = ap (take n) begins.is ∙ take_at front begins.rest n long
