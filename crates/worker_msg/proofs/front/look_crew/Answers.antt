use Rattle.std.proofs.Common.{ℕ, ◌≡◌, ◌≢◌, List, [], ◌∷◌, Some, None}
use Rattle.std.specs.List.{slice_get}
use Rattle.worker_msg.specs.Fronts.{IsPartial, IsBad}
use Rattle.worker_msg.specs.declared.side.Side.TheVariants.{Crew}
use Rattle.worker_msg.proofs.CrewFronts.{empty, other}
use Rattle.worker_msg.proofs.front.look_crew.Goals as goal

no_first : (bytes : List ℕ) → None ≡ slice_get bytes 0 → IsPartial Crew bytes
no_first [] e = empty
no_first (b ∷ bytes) e = absurd cc

other_first : (bytes : List ℕ) (first : ℕ) → Some first ≡ slice_get bytes 0 → first ≢ 5 → first ≢ 17 → IsBad Crew bytes 0
other_first [] first e not_hello not_reply = absurd cc
other_first (b ∷ bytes) first e not_hello not_reply = let same : first ≡ b = cc in other b bytes (λ h. not_hello cc) (λ r. not_reply cc)

pub returns-in-None : goal.returns-in-None
returns-in-None c = no_first c.args.bytes.now c.in-None.ensures.value

pub returns-in-Some : goal.returns-in-Some
returns-in-Some c = other_first c.args.bytes.now c.in-Some.field-0.now c.in-Some.ensures.value c.in-Some.field-0-test.0.1 c.in-Some.field-0-test.1
