-- How `worker` ends, and what each status of it says.
use Rattle.std.proofs.Common.{◌≡◌, ◌⊎◌, inl, inr, ℕ, ◌≤◌, List, [], ◌++◌, refl, sym, ap, ◌∙◌, subst, append-nil, arith}
use Rattle.std.proofs.lemmas.List.{append_cancel_right}
use Rattle.disk_model.specs.Faults.{Rose}
use Rattle.foz_words.specs.declared.key.Key.{Key}
use Rattle.state_words.specs.declared.state.State.{State}
use Rattle.worker_node.specs.Ends.{IsCutShort, IsEnd, IsServed, IsToEnd, IsWholeSession}
use Rattle.worker_node.specs.Steps.{IsServedBehind}
use Rattle.worker_node.specs.declared.served.Served.{Served}
use Rattle.worker_node.specs.declared.served.Served.TheVariants.{Quit, InputEnded, ReadFault, WriteFault, BadFrame, Memory}
use Rattle.foz_base.specs.Ending.{HasCauses}
use Rattle.foz_base.specs.Outside.{Outside, Tells}
use Rattle.foz_tool.specs.WorkerRun.{HasFault, IsSession, Serves, status_of_served}

-- ---- the ends of the command

-- the bytes that were taken for the session come to the end that is told of as many bytes
pub comes_to : (before after taken : List ℕ) (outcome : Served) → before ≡ taken ++ after → (IsToEnd outcome → (again : List ℕ) × (before ≡ again ++ after) × IsEnd again after outcome)
    → IsToEnd outcome → IsEnd taken after outcome
comes_to before after taken outcome parts told h =
    let end = told h in
    subst (λ (bytes : List ℕ). IsEnd bytes after outcome) (append_cancel_right end.0 taken after (sym end.1 ∙ parts)) end.2

pub has_fault : (input output : Type 0) (outcome : Served) → (outcome ≡ ReadFault → input) → (outcome ≡ WriteFault → output) → HasFault input output outcome
has_fault input output Quit read write = tt
has_fault input output (InputEnded left) read write = tt
has_fault input output (BadFrame at) read write = tt
has_fault input output ReadFault read write = read refl
has_fault input output WriteFault read write = write refl
has_fault input output Memory read write = tt

pub is_read_fault : (outcome : Served) (status : ℕ) → status ≡ status_of_served outcome → status ≡ 3 → outcome ≡ ReadFault
is_read_fault Quit status is e = absurd (omega (arith, is, e))
is_read_fault (InputEnded left) status is e = absurd (omega (arith, is, e))
is_read_fault (BadFrame at) status is e = absurd (omega (arith, is, e))
is_read_fault ReadFault status is e = refl
is_read_fault WriteFault status is e = absurd (omega (arith, is, e))
is_read_fault Memory status is e = absurd (omega (arith, is, e))

pub is_write_fault : (outcome : Served) (status : ℕ) → status ≡ status_of_served outcome → status ≡ 4 → outcome ≡ WriteFault
is_write_fault Quit status is e = absurd (omega (arith, is, e))
is_write_fault (InputEnded left) status is e = absurd (omega (arith, is, e))
is_write_fault (BadFrame at) status is e = absurd (omega (arith, is, e))
is_write_fault ReadFault status is e = absurd (omega (arith, is, e))
is_write_fault WriteFault status is e = refl
is_write_fault Memory status is e = absurd (omega (arith, is, e))

pub serve_causes : (read write : Type 0) (outcome : Served) (status : ℕ) → status ≡ status_of_served outcome → (outcome ≡ ReadFault → read) → (outcome ≡ WriteFault → write) → HasCauses read write ⊥ status
serve_causes read write outcome status is unread unwritten = record {
  no_usage = λ e. never outcome status 2 is e (inl refl);
  read = λ e. unread (is_read_fault outcome status is e);
  write = λ e. unwritten (is_write_fault outcome status is e);
  disk = λ e. never outcome status 5 is e (inr (inl refl));
  answered = λ e. never outcome status 9 is e (inr (inr refl));
}
  where
    never : (outcome : Served) (status n : ℕ) → status ≡ status_of_served outcome → status ≡ n → (n ≡ 2) ⊎ (n ≡ 5) ⊎ (n ≡ 9) → ⊥
    never Quit status n is e (inl two) = absurd (omega arith)
    never Quit status n is e (inr (inl five)) = absurd (omega arith)
    never Quit status n is e (inr (inr nine)) = absurd (omega arith)
    never (InputEnded left) status n is e (inl two) = absurd (omega arith)
    never (InputEnded left) status n is e (inr (inl five)) = absurd (omega arith)
    never (InputEnded left) status n is e (inr (inr nine)) = absurd (omega arith)
    never (BadFrame at) status n is e (inl two) = absurd (omega arith)
    never (BadFrame at) status n is e (inr (inl five)) = absurd (omega arith)
    never (BadFrame at) status n is e (inr (inr nine)) = absurd (omega arith)
    never ReadFault status n is e (inl two) = absurd (omega arith)
    never ReadFault status n is e (inr (inl five)) = absurd (omega arith)
    never ReadFault status n is e (inr (inr nine)) = absurd (omega arith)
    never WriteFault status n is e (inl two) = absurd (omega arith)
    never WriteFault status n is e (inr (inl five)) = absurd (omega arith)
    never WriteFault status n is e (inr (inr nine)) = absurd (omega arith)
    never Memory status n is e (inl two) = absurd (omega arith)
    never Memory status n is e (inr (inl five)) = absurd (omega arith)
    never Memory status n is e (inr (inr nine)) = absurd (omega arith)

module _ {M : Type 0} (creates : M → Key → State → ℕ → M → Type 0) where
  -- nothing was taken and nothing written, since memory ran out
  unserved_session : ((before : M) → IsCutShort creates before [] [] before) → (outside : Outside M) → IsSession creates outside outside 7
  unserved_session cut outside = record {
    outcome = Memory;
    taken = [];
    parts = refl;
    session = record { out = []; is = sym (append-nil outside.written); served = cut outside.driver };
    comes = λ h. absurd h;
    fault = tt;
    answered = refl;
  }

  pub unserved : ((before : M) → IsCutShort creates before [] [] before) → (tells : Tells) (outside : Outside M) → Serves creates tells outside outside 7
  unserved cut tells outside = record { session = λ input output. unserved_session cut outside; ends = λ input. record { outcome = Memory; comes = λ h. absurd h; answered = refl } }

  -- ---- the statuses

  module _ (before after : Outside M) (taken : List ℕ) where
    pub none_other : (outcome : Served) (status : ℕ) → status ≡ status_of_served outcome → (status ≤ 1) ⊎ (status ≡ 3) ⊎ (status ≡ 4) ⊎ (status ≡ 7)
    none_other Quit status is = inl (omega (arith, is))
    none_other (InputEnded left) status is = inl (omega (arith, is))
    none_other (BadFrame at) status is = inl (omega (arith, is))
    none_other ReadFault status is = inr (inl is)
    none_other WriteFault status is = inr (inr (inl is))
    none_other Memory status is = inr (inr (inr is))

    -- with 4 or 7 it isn't so that status is at most 1 or 3
    not_both : (status n : ℕ) → (status ≤ 1) ⊎ (status ≡ 3) → status ≡ n → (n ≡ 4) ⊎ (n ≡ 7) → ⊥
    not_both status n (inl le) e (inl is) = absurd (omega (arith, le, e, is))
    not_both status n (inl le) e (inr is) = absurd (omega (arith, le, e, is))
    not_both status n (inr three) e (inl is) = absurd (omega (arith, three, e, is))
    not_both status n (inr three) e (inr is) = absurd (omega (arith, three, e, is))

    pub session : (outcome : Served) (status : ℕ) → IsServedBehind creates before.driver before.written taken after.written after.driver outcome → status ≡ status_of_served outcome → (status ≤ 1) ⊎ (status ≡ 3)
        → (out : List ℕ) × (after.written ≡ before.written ++ out) × IsWholeSession creates before.driver taken out after.driver
    session Quit status served is so = (served.out, served.is, served.served)
    session (InputEnded left) status served is so = (served.out, served.is, served.served)
    session (BadFrame at) status served is so = (served.out, served.is, served.served)
    session ReadFault status served is so = (served.out, served.is, served.served)
    session WriteFault status served is so = absurd (not_both status 4 so is (inl refl))
    session Memory status served is so = absurd (not_both status 7 so is (inr refl))

    pub cut_short : (outcome : Served) (status : ℕ) → IsServedBehind creates before.driver before.written taken after.written after.driver outcome → status ≡ status_of_served outcome → (status ≡ 4) ⊎ (status ≡ 7)
        → (out : List ℕ) × (after.written ≡ before.written ++ out) × IsCutShort creates before.driver taken out after.driver
    cut_short Quit status served is (inl e) = absurd (omega (arith, is, e))
    cut_short Quit status served is (inr e) = absurd (omega (arith, is, e))
    cut_short (InputEnded left) status served is (inl e) = absurd (omega (arith, is, e))
    cut_short (InputEnded left) status served is (inr e) = absurd (omega (arith, is, e))
    cut_short (BadFrame at) status served is (inl e) = absurd (omega (arith, is, e))
    cut_short (BadFrame at) status served is (inr e) = absurd (omega (arith, is, e))
    cut_short ReadFault status served is (inl e) = absurd (omega (arith, is, e))
    cut_short ReadFault status served is (inr e) = absurd (omega (arith, is, e))
    cut_short WriteFault status served is so = (served.out, served.is, served.served)
    cut_short Memory status served is so = (served.out, served.is, served.served)

    pub all_well : (outcome : Served) (status : ℕ) → (IsToEnd outcome → IsEnd taken after.input outcome) → status ≡ status_of_served outcome → status ≡ 0
        → IsEnd taken after.input Quit ⊎ ((left : ℕ) × IsEnd taken after.input (InputEnded left))
    all_well Quit status comes is e = inl (comes tt)
    all_well (InputEnded left) status comes is e = inr (left, comes tt)
    all_well (BadFrame at) status comes is e = absurd (omega (arith, is, e))
    all_well ReadFault status comes is e = absurd (omega (arith, is, e))
    all_well WriteFault status comes is e = absurd (omega (arith, is, e))
    all_well Memory status comes is e = absurd (omega (arith, is, e))

    pub bad_frame : (outcome : Served) (status : ℕ) → (IsToEnd outcome → IsEnd taken after.input outcome) → status ≡ status_of_served outcome → status ≡ 1 → (at : ℕ) × IsEnd taken after.input (BadFrame at)
    bad_frame Quit status comes is e = absurd (omega (arith, is, e))
    bad_frame (InputEnded left) status comes is e = absurd (omega (arith, is, e))
    bad_frame (BadFrame at) status comes is e = (at, comes tt)
    bad_frame ReadFault status comes is e = absurd (omega (arith, is, e))
    bad_frame WriteFault status comes is e = absurd (omega (arith, is, e))
    bad_frame Memory status comes is e = absurd (omega (arith, is, e))

    pub read_fault : (outcome : Served) (status : ℕ) → HasFault (Rose before.input_faults after.input_faults) (Rose before.output_faults after.output_faults) outcome → status ≡ status_of_served outcome → status ≡ 3
        → Rose before.input_faults after.input_faults
    read_fault outcome status fault is e =
        subst (λ (o : Served). HasFault (Rose before.input_faults after.input_faults) (Rose before.output_faults after.output_faults) o) (is_read_fault outcome status is e) fault

    pub write_fault : (outcome : Served) (status : ℕ) → HasFault (Rose before.input_faults after.input_faults) (Rose before.output_faults after.output_faults) outcome → status ≡ status_of_served outcome → status ≡ 4
        → Rose before.output_faults after.output_faults
    write_fault outcome status fault is e =
        subst (λ (o : Served). HasFault (Rose before.input_faults after.input_faults) (Rose before.output_faults after.output_faults) o) (is_write_fault outcome status is e) fault
