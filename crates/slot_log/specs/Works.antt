-- What workers are asked with, and the frames that they are sent.
use Rattle.std.specs.Prelude.{ℕ, List, [], slice_index_or}
use Rattle.foz_words.specs.declared.key.Key.{Key}
use Rattle.replay_core.specs.declared.plan.Plan.{Plan}
use Rattle.worker_msg.specs.Frames.{spelling}
use Rattle.worker_msg.specs.declared.msg.Msg.TheVariants as msg

pub record Work : Type 0 where
  pub key : Key
  pub payload : List ℕ

-- a plan, and what a worker is sent for each of its items
pub record Orders : Type 0 where
  pub plan : Plan
  pub works : List Work

abbrev pub no_work : Work
no_work = record { key = record { tag = 0; hash = 0 }; payload = [] }

-- the work of item i
unfoldable pub work_of : Orders → ℕ → Work
work_of orders i = slice_index_or orders.works i no_work

abbrev pub load_frame : Work → List ℕ
load_frame work = spelling (msg.Load work.key work.payload)

abbrev pub do_frame : Work → List ℕ
do_frame work = spelling (msg.Do work.key work.payload)

abbrev pub quit_frame : List ℕ
quit_frame = spelling msg.Quit

-- the answer to a Do of the work
abbrev pub reply_frame : Work → ℕ → List ℕ
reply_frame work code = spelling (msg.Reply work.key code)
