use Rattle.std.proofs.Common.{◌≡◌, ◌<◌, ◌⊎◌, inl, inr, ℕ, ◌≤◌, List, ◌∙◌, ap, subst, sym, arith}
use Rattle.std.specs.Prelude.{Bool, IsTrue, ◌==◌}
use Rattle.std.specs.List.{list_any}
use Rattle.disk_model.specs.Plans.{IsListed}
use Rattle.disk_model.proofs.memory_disk.MemDisk.fails_now.Goals as goal

listed : (next calls : ℕ) (failing : List ℕ) (found : Bool) → next < calls → found ≡ list_any (λ number. number == next) failing
    → (IsTrue found → (calls ≤ next) ⊎ IsListed failing next) × ((calls ≤ next) ⊎ IsListed failing next → IsTrue found)
listed next calls failing found below is = (
  (λ yes. inr (subst IsTrue is yes)),
  (λ fails. elim fails [
    | inl past ↦ absurd (omega arith)
    | inr some ↦ subst IsTrue (sym is) some
  ]),
)

pub returns-else-self-clause-exact : goal.returns-else-self-clause-exact
returns-else-self-clause-exact c =
    let m = c.args.self.now in
    listed m.made m.limit m.failing.items c.contains.result c.if-self.false (c.contains.ensures.value ∙ ap (λ (l : List ℕ). list_any (λ number. number == m.made) l) c.deref.ensures.value)
