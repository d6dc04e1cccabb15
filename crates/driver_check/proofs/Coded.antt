-- What is kept after a state was judged.
use Rattle.std.proofs.Common.{ℕ, Result, Ok, Err, IfOk, OnOk, ◌≡◌, ◌≢◌, ◌==◌, Bool, true, false, cond, refl, ap, ◌∙◌, sym, arith}
use Rattle.std.proofs.lemmas.Bool.{ne_eqb}
use Rattle.foz_words.specs.declared.key.Key.{Key}
use Rattle.state_words.specs.declared.state.State.{State}
use Rattle.driver_check.specs.Kept.{KeptStates, with_state}
use Rattle.driver_check.specs.Codes.{code, kept_after, Creates}

pub created : (before : KeptStates) (key : Key) (state : State) (answer : ℕ) (after : KeptStates) → answer ≡ 0 → answer ≡ code before state → after ≡ with_state before key state → Creates before key state answer after
unfolding kept_after
created before key state answer after none is e =
    let nothing : code before state ≡ 0 = sym is ∙ none in
    record { coded = is; kept = rw nothing e }

pub refused : (before : KeptStates) (key : Key) (state : State) (answer : ℕ) → answer ≢ 0 → answer ≡ code before state → Creates before key state answer before
unfolding kept_after
refused before key state answer some is =
    let other : (code before state == 0) ≡ false = ne_eqb (code before state) 0 (λ e. some (is ∙ e)) in
    record { coded = is; kept = rw other refl }

pub kept_then : {E : Type 0} (before : KeptStates) (key : Key) (state : State) (answer : Result ℕ E) (after : KeptStates) → 0 ≡ code before state → IfOk answer (λ n. n ≡ 0) → OnOk answer (after ≡ with_state before key state) → IfOk answer (λ n. Creates before key state n after)
kept_then before key state (Ok n) after is none e = created before key state n after none (none ∙ is) e
kept_then before key state (Err refused) after is none e = tt
