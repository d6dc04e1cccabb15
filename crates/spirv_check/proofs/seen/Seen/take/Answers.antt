use Rattle.std.proofs.Common.{◌≢◌, sym, ◌∙◌, arith}
use Rattle.spirv_check.specs.Modules.{Instruction, opcode_of}
use Rattle.spirv_check.proofs.Findings.{next_model, next_begin, next_end, next_entry, next_bad, next_other}
use Rattle.spirv_check.proofs.seen.Seen.take.Goals as goal

pub returns-in-14 : goal.returns-in-14
returns-in-14 c = next_model c.args.self.now (record { at = c.args.at; words = c.args.instruction.now }) c.in-14.is

pub returns-in-54 : goal.returns-in-54
returns-in-54 c =
    let i : Instruction = record { at = c.args.at; words = c.args.instruction.now } in
    rw (c.or-self.ensures, c.begin_fault.ensures) (next_begin c.args.self.now i c.in-54.is)

pub returns-in-56 : goal.returns-in-56
returns-in-56 c =
    let i : Instruction = record { at = c.args.at; words = c.args.instruction.now } in
    rw (c.or-self-in-56.ensures, c.end_fault.ensures) (next_end c.args.self.now i c.in-56.is)

pub returns-in_ok-push-in-Some : goal.returns-in_ok-push-in-Some
returns-in_ok-push-in-Some c =
    let i : Instruction = record { at = c.args.at; words = c.args.instruction.now } in
    rw c.in_ok-push-in-Some.ensures.ok (next_entry c.args.self.now i c.in-Some.entry c.in-15.is (sym c.in_ok-entry-in-15.ensures ∙ c.in-Some.is))

pub returns-in-None : goal.returns-in-None
returns-in-None c =
    let i : Instruction = record { at = c.args.at; words = c.args.instruction.now } in
    rw c.or-self-in-None.ensures (next_bad c.args.self.now i c.in-15.is (sym c.in_ok-entry-in-15.ensures ∙ c.in-None.is))

pub returns-in_default : goal.returns-in_default
returns-in_default c =
    let i : Instruction = record { at = c.args.at; words = c.args.instruction.now } in
    let model : opcode_of i ≢ 14 = λ e. omega arith in
    let begins : opcode_of i ≢ 54 = λ e. omega arith in
    let finishes : opcode_of i ≢ 56 = λ e. omega arith in
    let entry : opcode_of i ≢ 15 = λ e. omega arith in
    next_other c.args.self.now i model begins finishes entry
