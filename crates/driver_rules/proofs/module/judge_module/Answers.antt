use Rattle.std.proofs.Common.{◌≡◌, ◌≢◌, Ok, Err, ap, ◌∙◌}
use Rattle.driver_rules.specs.Modules.{code_of, shape_entries, module_code, entries_in}
use Rattle.spirv_check.specs.declared.error.SpirvError.TheVariants.{Memory}
use Rattle.driver_rules.proofs.module.judge_module.Goals as goal

pub returns-in-Ok-clause-code : goal.returns-in-Ok-clause-code
unfolding module_code
returns-in-Ok-clause-code c = ap code_of (c.in-Ok.ensures.only (λ e. cc))

pub returns-in-Ok-clause-entries : goal.returns-in-Ok-clause-entries
unfolding entries_in
returns-in-Ok-clause-entries c = ap shape_entries (c.in-Ok.ensures.only (λ e. cc))

pub returns-in_ok-fault_code-in-Err-clause-code : goal.returns-in_ok-fault_code-in-Err-clause-code
unfolding module_code
returns-in_ok-fault_code-in-Err-clause-code c =
    let told = c.in_ok-fault_code-in-Err.ensures.1 in
    c.in_ok-fault_code-in-Err.ensures.0 ∙ ap code_of (c.in-Err.ensures.only (λ e. told cc))

pub returns-in_ok-fault_code-in-Err-clause-entries : goal.returns-in_ok-fault_code-in-Err-clause-entries
unfolding entries_in
returns-in_ok-fault_code-in-Err-clause-entries c =
    let told = c.in_ok-fault_code-in-Err.ensures.1 in
    c.new.ensures ∙ ap shape_entries (c.in-Err.ensures.only (λ e. told cc))
