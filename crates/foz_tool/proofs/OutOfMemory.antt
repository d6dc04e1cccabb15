-- Words for which there is no memory, and words that are no form of a command.
use Rattle.std.proofs.Common.{◌≡◌, ◌≢◌, ◌⊎◌, inl, inr, ℕ, List, [], Option, Some, None, Result, Err, refl, arith}
use Rattle.worker_node.specs.Ends.{IsCutShort}
use Rattle.foz_words.specs.declared.key.Key.{Key}
use Rattle.state_words.specs.declared.state.State.{State}
use Rattle.capture_reader.specs.Said.{lines_said}
use Rattle.foz_args.specs.declared.command.ArgError.{ArgError}
use Rattle.foz_args.specs.declared.command.ArgError.TheVariants as args
use Rattle.foz_args.specs.declared.command.Command.{Command}
use Rattle.foz_args.specs.declared.command.Command.TheVariants.{List as List_, Put, Hash, Record, Check, Worker, Replay}
use Rattle.foz_text.specs.LineCause.{line_cause_text}
use Rattle.foz_base.specs.declared.stop.Stop.{Stop}
use Rattle.foz_base.specs.declared.stop.Stop.TheVariants.{Memory}
use Rattle.foz_base.specs.Ending.{Ended}
use Rattle.foz_base.specs.Outside.{Outside, Files, Tells, IsFileOnlyRead}
use Rattle.foz_base.specs.Recording.{IsFlushed}
use Rattle.foz_tool.specs.Program.{Runs}
use Rattle.foz_tool.proofs.WorkerEnds.{unserved}

pub not_usage : {T : Type 0} (error : ArgError) → error ≡ args.Memory → ◌≡◌ {A = Result T ArgError} (Err error) (Err args.Usage) → ⊥
not_usage error is same = cc

module _ {M : Type 0} (outside : Outside M) where
  gone : (tells : List ℕ → ℕ → Type 0) (stops : Stop → Type 0) → stops Memory → Ended tells stops outside outside 7
  gone tells stops free = record { outcome = Err Memory; made = free; printed = (refl, refl) }

  rests : (images : Type 0) (name : List ℕ) → IsFileOnlyRead images outside.files outside.files name
  rests images name = record { content = refl; history = λ told. inl refl }

  not_flushed : IsFlushed 7 → ⊥
  not_flushed (inl is) = absurd (omega arith)
  not_flushed (inr (inl is)) = absurd (omega arith)
  not_flushed (inr (inr (inl is))) = absurd (omega arith)
  not_flushed (inr (inr (inr is))) = absurd (omega arith)

  pub out_of_memory : (creates : M → Key → State → ℕ → M → Type 0) → ((before : M) → IsCutShort creates before [] [] before) → (tells : Tells) (command : Option Command) → command ≢ None → Runs creates tells command outside outside 7
  out_of_memory creates cut tells None some = absurd (some refl)
  out_of_memory creates cut tells (Some (List_ file)) some = record { ended = λ content output. gone _ _ tt; only_read = λ content. rests tells.images file }
  out_of_memory creates cut tells (Some (Put file key)) some = record {
    ended = λ input output content. gone _ _ tt;
    leaves = λ input images settled. inl refl;
    durable = λ images flushed. absurd (not_flushed flushed);
  }
  out_of_memory creates cut tells (Some Hash) some = record { ended = λ input output. gone _ _ tt }
  out_of_memory creates cut tells (Some (Record file threads)) some = record {
    ended = λ input output content. gone _ _ tt;
    leaves = λ input images settled. inl refl;
    durable = λ images flushed. absurd (not_flushed flushed);
  }
  out_of_memory creates cut tells (Some (Check file)) some = record { ended = λ content output. gone _ _ tt; only_read = λ content. rests tells.images file }
  out_of_memory creates cut tells (Some Worker) some = unserved creates cut tells outside
  out_of_memory creates cut tells (Some (Replay file workers)) some = record { ended = λ content output. gone _ _ tt; only_read = λ content. rests tells.images file; other_slots = refl }
