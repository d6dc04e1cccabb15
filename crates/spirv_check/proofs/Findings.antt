-- What is seen of a module with one instruction more.
use Rattle.std.proofs.Common.{ℕ, ◌≡◌, ◌≢◌, ◌+◌, ◌≤◌, Bool, true, false, cond, List, [], ◌∷◌, ◌++◌, Option, Some, None, Ok, Err, refl, ap, ◌∙◌, arith}
use Rattle.std.proofs.lemmas.Bool.{ne_eqb}
use Rattle.std.proofs.lemmas.List.{append-nil}
use Rattle.std.specs.List.{count_by, fold}
use Rattle.std.specs.Option.{option_or}
use Rattle.std.proofs.lemmas.List.Sums.{fold-append}
use Rattle.std.proofs.lemmas.List.Elements.{filter_map-append}
use Rattle.spirv_check.specs.declared.error.SpirvError.{SpirvError}
use Rattle.spirv_check.specs.declared.error.SpirvError.TheVariants.{MemoryModels, Unclosed, BadName, NoEntryPoint}
use Rattle.spirv_check.specs.declared.shape.EntryPoint.{EntryPoint}
use Rattle.spirv_check.specs.Names.{entry_in}
use Rattle.spirv_check.specs.declared.seen.Seen.{Seen}
use Rattle.spirv_check.specs.Modules.{Instruction, opcode_of, is_model, begin_fault, end_fault, opened_next, turn_fault, shape_of, named_of, closed_of, turns_of, first_turn, entry_at, bad_name_at, first_bad_name}
use Rattle.spirv_check.specs.Seen.{seen_in, seen_next, judged_of}

none_after : {T : Type 0} (o : Option T) → option_or o None ≡ o
none_after None = refl
none_after (Some x) = refl

or_assoc : {T : Type 0} (a b c : Option T) → option_or a (option_or b c) ≡ option_or (option_or a b) c
or_assoc None b c = refl
or_assoc (Some x) b c = refl

plus_one : (b : Bool) (n : ℕ) → n + cond b 1 0 ≡ cond b (n + 1) n
plus_one true n = refl
plus_one false n = omega arith

models-push : (is : List Instruction) (i : Instruction) → count_by is_model (is ++ i ∷ []) ≡ cond (is_model i) (count_by is_model is + 1) (count_by is_model is)
models-push is i = fold-append (λ a x. a + cond (is_model x) 1 0) 0 is (i ∷ []) ∙ plus_one (is_model i) (count_by is_model is)

turn-push : (opened : Option ℕ) (is : List Instruction) (i : Instruction) → first_turn opened (is ++ i ∷ []) ≡ option_or (first_turn opened is) (turn_fault (fold opened_next opened is) i)
unfolding first_turn
turn-push opened [] i = none_after (turn_fault opened i)
turn-push opened (j ∷ is) i = ap (λ (o : Option SpirvError). option_or (turn_fault opened j) o) (turn-push (opened_next opened j) is i) ∙ or_assoc (turn_fault opened j) (first_turn (opened_next opened j) is) (turn_fault (fold opened_next (opened_next opened j) is) i)

bad_name-push : (is : List Instruction) (i : Instruction) → first_bad_name (is ++ i ∷ []) ≡ option_or (first_bad_name is) (bad_name_at i)
unfolding first_bad_name
bad_name-push [] i = none_after (bad_name_at i)
bad_name-push (j ∷ is) i = ap (λ (o : Option ℕ). option_or (bad_name_at j) o) (bad_name-push is i) ∙ or_assoc (bad_name_at j) (first_bad_name is) (bad_name_at i)

pub seen_in-push : (is : List Instruction) (i : Instruction) → seen_in (is ++ i ∷ []) ≡ seen_next (seen_in is) i
unfolding seen_in seen_next
seen_in-push is i = rw (models-push is i, turn-push None is i, fold-append opened_next None is (i ∷ []), bad_name-push is i, filter_map-append entry_at is (i ∷ [])) refl

pub seen_in-nil : seen_in [] ≡ record { models = 0; turn = None; opened = None; bad_name = None; entries = [] }
unfolding seen_in first_turn first_bad_name
seen_in-nil = refl

-- no more than one memory model more
pub models_next : (seen : Seen) (i : Instruction) → (seen_next seen i).models ≤ seen.models + 1
unfolding seen_next
models_next seen i = at_most (is_model i)
  where
    at_most : (b : Bool) → cond b (seen.models + 1) seen.models ≤ seen.models + 1
    at_most true = omega arith
    at_most false = omega arith

-- ---- by the kind of the instruction

pub next_model : (seen : Seen) (i : Instruction) → opcode_of i ≡ 14 → record seen { models = seen.models + 1 } ≡ seen_next seen i
unfolding seen_next turn_fault opened_next entry_at bad_name_at
next_model seen i e = rw e (rw (none_after seen.turn, none_after seen.bad_name, append-nil seen.entries) refl)

pub next_begin : (seen : Seen) (i : Instruction) → opcode_of i ≡ 54 → record seen { turn = option_or seen.turn (begin_fault seen.opened i.at); opened = Some i.at } ≡ seen_next seen i
unfolding seen_next turn_fault opened_next entry_at bad_name_at
next_begin seen i e = rw e (rw (none_after seen.bad_name, append-nil seen.entries) refl)

pub next_end : (seen : Seen) (i : Instruction) → opcode_of i ≡ 56 → record seen { turn = option_or seen.turn (end_fault seen.opened i.at); opened = None } ≡ seen_next seen i
unfolding seen_next turn_fault opened_next entry_at bad_name_at
next_end seen i e = rw e (rw (none_after seen.bad_name, append-nil seen.entries) refl)

pub next_entry : (seen : Seen) (i : Instruction) (entry : EntryPoint) → opcode_of i ≡ 15 → entry_in i.words ≡ Some entry → record seen { entries = seen.entries ++ entry ∷ [] } ≡ seen_next seen i
unfolding seen_next turn_fault opened_next entry_at bad_name_at
next_entry seen i entry e is = rw (e, is) (rw (none_after seen.turn, none_after seen.bad_name) refl)

pub next_bad : (seen : Seen) (i : Instruction) → opcode_of i ≡ 15 → entry_in i.words ≡ None → record seen { bad_name = option_or seen.bad_name (Some i.at) } ≡ seen_next seen i
unfolding seen_next turn_fault opened_next entry_at bad_name_at
next_bad seen i e is = rw (e, is) (rw (none_after seen.turn, append-nil seen.entries) refl)

pub next_other : (seen : Seen) (i : Instruction) → opcode_of i ≢ 14 → opcode_of i ≢ 54 → opcode_of i ≢ 56 → opcode_of i ≢ 15 → seen ≡ seen_next seen i
unfolding seen_next turn_fault opened_next entry_at bad_name_at
next_other seen i model begin finish entry = rw (ne_eqb (opcode_of i) 14 model, ne_eqb (opcode_of i) 54 begin, ne_eqb (opcode_of i) 56 finish, ne_eqb (opcode_of i) 15 entry) (rw (none_after seen.turn, none_after seen.bad_name, append-nil seen.entries) refl)

-- ---- the verdict

pub judged_models : (seen : Seen) → seen.models ≢ 1 → Err (MemoryModels seen.models) ≡ judged_of seen
unfolding judged_of
judged_models seen other = rw (ne_eqb seen.models 1 other) refl

pub judged_turn : (seen : Seen) (fault : SpirvError) → seen.models ≡ 1 → seen.turn ≡ Some fault → Err fault ≡ judged_of seen
unfolding judged_of turns_of
judged_turn seen fault m t = rw (m, t) refl

pub judged_opened : (seen : Seen) (at : ℕ) → seen.models ≡ 1 → seen.turn ≡ None → seen.opened ≡ Some at → Err (Unclosed at) ≡ judged_of seen
unfolding judged_of turns_of closed_of
judged_opened seen at m t o = rw (m, t, o) refl

pub judged_name : (seen : Seen) (at : ℕ) → seen.models ≡ 1 → seen.turn ≡ None → seen.opened ≡ None → seen.bad_name ≡ Some at → Err (BadName at) ≡ judged_of seen
unfolding judged_of turns_of closed_of named_of
judged_name seen at m t o n = rw (m, t, o, n) refl

pub judged_empty : (seen : Seen) → seen.models ≡ 1 → seen.turn ≡ None → seen.opened ≡ None → seen.bad_name ≡ None → seen.entries ≡ [] → Err NoEntryPoint ≡ judged_of seen
unfolding judged_of turns_of closed_of named_of shape_of
judged_empty seen m t o n e = rw (m, t, o, n, e) refl

shape_some : (entries : List EntryPoint) → (entries ≡ [] → ⊥) → Ok (record { entries = entries }) ≡ shape_of entries
unfolding shape_of
shape_some [] some = absurd (some refl)
shape_some (entry ∷ entries) some = refl

pub judged_shape : (seen : Seen) → seen.models ≡ 1 → seen.turn ≡ None → seen.opened ≡ None → seen.bad_name ≡ None → (seen.entries ≡ [] → ⊥) → Ok (record { entries = seen.entries }) ≡ judged_of seen
unfolding judged_of turns_of closed_of named_of
judged_shape seen m t o n some = rw (m, t, o, n) (shape_some seen.entries some)
