use Rattle.std.proofs.Common.{ℕ, ◌/◌, List, Bor, Ok, Err}
use Rattle.std.proofs.lemmas.Result.{err_from_is_err_and}
use Rattle.foz_payload.specs.Plain as plain
use Rattle.foz_payload.specs.Meaning.{MeansHead, head_of, head_in, window_of}
use Rattle.foz_payload.proofs.Modules.{refused, no_head, head_refused, head_found, window_found, window_refused, words_refused}
use Rattle.foz_payload.proofs.reading.module_of.Goals as goal

pub returns-in_default : goal.returns-in_default
returns-in_default c = no_head c.args.hash c.args.payload.now c.in_default.ensures.none

pub returns-in_err-head : goal.returns-in_err-head
returns-in_err-head c =
    let p = err_from_is_err_and c.from_residual.result c.from_residual.ensures.1 in
    let parts = c.in-Some.ensures.some in
    let e = c.in_err-head.field-0.0 in
    rw (p.1, p.2) (refused plain.module_head e (head_in c.args.hash c.in-Some.json.now) (MeansHead (head_of c.args.hash c.args.payload.now) c.args.payload.now) c.in_err-head.ensures (head_refused c.args.hash c.args.payload.now c.in-Some.json.now e parts.0 parts.1))

pub returns-in_err-window : goal.returns-in_err-window
returns-in_err-window c =
    let p = err_from_is_err_and c.from_residual-in_err-window.result c.from_residual-in_err-window.ensures.1 in
    let parts = c.in-Some.ensures.some in
    let h = c.in_ok-head.head in
    let e = c.in_err-window.field-0.0 in
    let found = window_of h.code_size h.varint_offset h.varint_size c.in-Some.behind.now in
    rw (p.1, p.2) (refused (λ (window : Bor (List ℕ)). window.now) e found (MeansHead (head_of c.args.hash c.args.payload.now) c.args.payload.now) c.in_err-window.ensures
    (λ is. head_found c.args.hash c.args.payload.now c.in-Some.json.now c.in-Some.behind.now h (Err e) parts.0 parts.1 parts.2 c.in_ok-head.ensures (window_refused h.flags (h.code_size / 4) found e is)))

pub returns-in-Ok : goal.returns-in-Ok
returns-in-Ok c =
    let parts = c.in-Some.ensures.some in
    let h = c.in_ok-head.head in
    let found = window_of h.code_size h.varint_offset h.varint_size c.in-Some.behind.now in
    head_found c.args.hash c.args.payload.now c.in-Some.json.now c.in-Some.behind.now h _ parts.0 parts.1 parts.2 c.in_ok-head.ensures
    (window_found h.flags (h.code_size / 4) found c.in_ok-window.window.now (Ok c.in-Ok.code) c.in_ok-window.ensures (λ same. absurd cc) c.in-Ok.ensures.answer)

pub returns-in-Err : goal.returns-in-Err
returns-in-Err c =
    let parts = c.in-Some.ensures.some in
    let h = c.in_ok-head.head in
    let found = window_of h.code_size h.varint_offset h.varint_size c.in-Some.behind.now in
    rw c.unreadable_varints.ensures (words_refused h.flags (h.code_size / 4) found c.in_ok-window.window.now c.in-Err.error (MeansHead (head_of c.args.hash c.args.payload.now) c.args.payload.now) c.in_ok-window.ensures c.in-Err.ensures.answer
    (λ answer words. head_found c.args.hash c.args.payload.now c.in-Some.json.now c.in-Some.behind.now h answer parts.0 parts.1 parts.2 c.in_ok-head.ensures words))
