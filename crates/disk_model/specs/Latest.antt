-- The laws by which a disk in memory is a disk. They stand here and not with the lemmas, since an `impl` takes its laws from specs alone.
use Rattle.std.proofs.Common.{◌≡◌, ℕ, ◌≤◌, List, length, ap, sym, subst, ◌∙◌}
use Rattle.std.proofs.lemmas.List.{take_all}
use Rattle.disk_model.specs.Disk.{DiskState, IsImage, latest, fresh}
use Rattle.disk_model.specs.declared.call.Call.{Call}
use Rattle.disk_model.specs.Memory.{after_calls, history_of}

module _ (first : List ℕ) (calls : List Call) (pieces : List ℕ) (made : ℕ) where
  -- all calls are in the record
  pub latest_is : length calls ≤ made → latest (history_of first calls pieces made) ≡ after_calls (fresh first) calls pieces
  latest_is le = ap (λ (l : List Call). after_calls (fresh first) l pieces) (take_all made calls le)

  -- what the fields of a disk say is what its record says
  module _ (state : DiskState) (counted : length calls ≤ made) (is : after_calls (fresh first) calls pieces ≡ state) where
    pub now_is_latest : state.now ≡ (latest (history_of first calls pieces made)).now
    now_is_latest = ap (λ (s : DiskState). s.now) (sym (latest_is counted ∙ is))

    pub image_is_latest : (bytes : List ℕ) → IsImage state bytes → IsImage (latest (history_of first calls pieces made)) bytes
    image_is_latest bytes image = subst (λ (s : DiskState). IsImage s bytes) (sym (latest_is counted ∙ is)) image
