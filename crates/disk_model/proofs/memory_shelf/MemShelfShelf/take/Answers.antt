use Rattle.std.proofs.Common.{◌∙◌, ap, OnErr}
use Rattle.std.specs.Prelude.{Result, Ok, Err}
use Rattle.disk_model.specs.Place.{out, with_place}
use Rattle.disk_model.proofs.memory_shelf.MemShelfShelf.take.Goals as goal

on_err : {T E : Type 0} (P : Type 0) (result : Result T E) → P → OnErr result P
on_err P (Ok value) holds = tt
on_err P (Err error) holds = holds

pub returns-in_err-disk-clause-left : goal.returns-in_err-disk-clause-left
returns-in_err-disk-clause-left c = on_err _ c.from_residual.result c.in_err-disk.ensures.left

pub returns-in-Some-clause-now_out : goal.returns-in-Some-clause-now_out
returns-in-Some-clause-now_out c = rw c.in-Some.is at c.in_ok-disk.ensures.now_out

pub returns-in_err-disk-2-clause-left : goal.returns-in_err-disk-2-clause-left
returns-in_err-disk-2-clause-left c = on_err _ c.from_residual-in_err-disk-2.result (rw c.in_default-2.is at c.in_ok-disk.ensures.same)

pub add_out-requires : goal.add_out-requires
add_out-requires c =
    let same = rw c.in_default-2.is at c.in_ok-disk.ensures.same in
    let absent = rw c.in_default-2.is at c.in_ok-disk.ensures.none in
    record { new = ap (λ places. places c.args.name.now) same ∙ absent }

pub returns-in_err-add_out-clause-left : goal.returns-in_err-add_out-clause-left
returns-in_err-add_out-clause-left c =
    let same = rw c.in_default-2.is at c.in_ok-disk.ensures.same in
    on_err _ c.from_residual-in_err-add_out.result (c.in_err-add_out.ensures.left ∙ same)

pub returns-clause-now_out : goal.returns-clause-now_out
returns-clause-now_out c =
    let same = rw c.in_default-2.is at c.in_ok-disk.ensures.same in
    c.in_ok-add_out.ensures.now_out ∙ ap (λ places. with_place places c.args.name.now out) same
