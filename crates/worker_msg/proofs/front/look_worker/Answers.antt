use Rattle.std.proofs.Common.{ℕ, ◌≡◌, ◌<◌, List, ◌∷◌, ◌++◌, length, drop, get_or, refl, ap, ◌∙◌, arith}
use Rattle.std.proofs.lemmas.Bool.{iff_false}
use Rattle.std.proofs.lemmas.List.{drop_more, drop_all, append-nil, length-append, length-drop}
use Rattle.foz_words.specs.Bytes.{le32}
use Rattle.foz_words.proofs.Words.{length-le32}
use Rattle.worker_msg.proofs.WorkFronts.{no_length, bad_length, no_kind, bad_kind, partial, whole}
use Rattle.worker_msg.proofs.front.look_worker.Goals as goal

pub returns-in_default : goal.returns-in_default
returns-in_default c = no_length c.args.bytes.now (c.in_default.ensures.none.0 refl) (λ i. omega (arith, c.type_inv.bytes i))

pub returns-then-not-is_work_length : goal.returns-then-not-is_work_length
returns-then-not-is_work_length c = bad_length c.in-Some.length c.args.bytes.now (drop 4 c.args.bytes.now) (omega arith) (λ i. omega (arith, c.type_inv.bytes i)) c.in-Some.ensures.found (iff_false c.is_work_length.ensures c.if-not-is_work_length.true)

pub returns-then-bytes-eq4 : goal.returns-then-bytes-eq4
returns-then-bytes-eq4 c =
    no_kind c.in-Some.length (c.is_work_length.ensures.0 c.if-not-is_work_length.false) c.args.bytes.now
    (c.in-Some.ensures.found ∙ (ap (λ l. le32 c.in-Some.length ++ l) (drop_all 4 c.args.bytes.now (omega arith)) ∙ append-nil (le32 c.in-Some.length)))

-- the bytes are the length, the kind and what follows
kind_stands : (bytes : List ℕ) (n : ℕ) → bytes ≡ le32 n ++ drop 4 bytes → (length bytes ≡ 4 → ⊥) → (bytes ≡ le32 n ++ get_or bytes 4 0 ∷ drop 5 bytes) × (4 < length bytes)
kind_stands bytes n e other =
    let size = ap length e ∙ length-append (le32 n) (drop 4 bytes) in
    let four = length-le32 n in
    let long : 4 < length bytes = omega arith in
    (e ∙ ap (λ l. le32 n ++ l) (drop_more bytes 4 0 long), long)

pub returns-then-not-is_work_kind : goal.returns-then-not-is_work_kind
returns-then-not-is_work_kind c =
    let bytes = c.args.bytes.now in
    let stands = kind_stands bytes c.in-Some.length c.in-Some.ensures.found c.if-bytes-eq4.false in
    bad_kind c.in-Some.length (c.is_work_length.ensures.0 c.if-not-is_work_length.false) bytes (drop 5 bytes) (get_or bytes 4 0) (omega arith) stands.0
    (iff_false c.is_work_kind.ensures c.if-not-is_work_kind.true)

pub returns-then-bytes-length : goal.returns-then-bytes-length
returns-then-bytes-length c =
    let bytes = c.args.bytes.now in
    let stands = kind_stands bytes c.in-Some.length c.in-Some.ensures.found c.if-bytes-eq4.false in
    let long = stands.1 in
    let left = length-drop 5 bytes in
    partial c.in-Some.length (c.is_work_length.ensures.0 c.if-not-is_work_length.false) bytes (drop 5 bytes) (get_or bytes 4 0) stands.0
    (c.is_work_kind.ensures.0 c.if-not-is_work_kind.false) (omega arith)

pub returns : goal.returns
returns c =
    let bytes = c.args.bytes.now in
    let stands = kind_stands bytes c.in-Some.length c.in-Some.ensures.found c.if-bytes-eq4.false in
    let long = stands.1 in
    let left = length-drop 5 bytes in
    whole c.in-Some.length (c.is_work_length.ensures.0 c.if-not-is_work_length.false) bytes (drop 5 bytes) (get_or bytes 4 0) stands.0
    (c.is_work_kind.ensures.0 c.if-not-is_work_kind.false) (omega arith)
