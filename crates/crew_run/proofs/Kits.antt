-- A kit for a new seat.
use Rattle.std.proofs.Common.{◌≡◌, ℕ, ◌+◌, ◌-◌, List, sym, ap, ◌∙◌, subst, arith}
use Rattle.std.specs.List.{filter}
use Rattle.replay_core.specs.Runs.{Setup, names}
use Rattle.slot_log.specs.Loads.{none_created}
use Rattle.turn_desk.specs.declared.view.View.{View}
use Rattle.turn_desk.specs.Story.{split_from, split_off}
use Rattle.progress_block.specs.declared.ends.Reader.{Reader}
use Rattle.replay_board.specs.declared.asker.Asker.{Asker}
use Rattle.replay_board.specs.declared.board.Board.{Board}
use Rattle.replay_board.specs.declared.note.BoardNote.{BoardNote}
use Rattle.replay_board.specs.declared.origin.BoardOrigin.{BoardOrigin}
use Rattle.replay_board.specs.declared.seat.BoardSeat.{BoardSeat}
use Rattle.replay_board.specs.Notes.{events_in, setup_known}
use Rattle.replay_board.specs.Seats.{desk_view, slot_of, IsSlotSeat, IsBoardReader, IsRootSeat}
use Rattle.replay_board.specs.Turns.{turned}
use Rattle.replay_crew.specs.declared.kit.Kit.{Kit}
use Rattle.replay_crew.specs.Kits.{seat_in, marks_in}
use Rattle.crew_run.specs.Kits.{IsNewKit}
use Rattle.crew_run.specs.Roots.{HasSplit}

abbrev BoardView : Type 0
BoardView = View BoardNote BoardOrigin

pub is_new_kit : (board : Board) (setup : Setup) (w : ℕ) (kit : Kit Asker) (asker : Asker) (seat : BoardSeat) (reader : Reader) (root : BoardView) → seat_in kit ≡ asker → asker.seat ≡ seat → asker.reader ≡ reader → asker.heard ≡ 0
    → IsSlotSeat board seat → IsBoardReader board reader → desk_view seat ≡ split_off root → setup_known root.origin ≡ setup → slot_of seat ≡ w → marks_in kit ≡ none_created setup.plan → IsNewKit board setup w kit
is_new_kit board setup w kit asker seat reader root is_asker is_seat is_reader unheard of_board its_reader view knows slot marks =
    let is : (seat_in kit).seat ≡ seat = ap (λ (a : Asker). a.seat) is_asker ∙ is_seat in
    let read : (seat_in kit).reader ≡ reader = ap (λ (a : Asker). a.reader) is_asker ∙ is_reader in
    let at : desk_view (seat_in kit).seat ≡ split_off root = ap desk_view is ∙ view in
    record {
      asker = record {
        of_board = (subst (IsSlotSeat board) (sym is) of_board, subst (IsBoardReader board) (sym read) its_reader);
        turns = ap (λ (v : BoardView). v.turns) at;
        events = ap (λ (v : BoardView). filter (names (v.number - 1)) (events_in v.mine)) at;
      };
      heard = ap (λ (a : Asker). a.heard) is_asker ∙ unheard;
      knows = ap (λ (v : BoardView). setup_known v.origin) at ∙ knows;
      slot = ap slot_of is ∙ slot;
      marks = marks;
    }

-- one more seat goes out, after a turn of the root's
pub has_split_more : (board : Board) (setup : Setup) (n m : ℕ) (before after : BoardSeat) (seen own : List BoardNote) → HasSplit board setup n before → IsRootSeat board after → desk_view after ≡ split_from (turned (desk_view before) seen own) → m ≡ n + 1 → HasSplit board setup m after
has_split_more board setup n m before after seen own was is_root view more = record {
  is_root = is_root;
  knows = ap (λ (v : BoardView). setup_known v.origin) view ∙ was.knows;
  out = (let e = ap (λ (v : BoardView). v.out) view in let o = was.out in omega arith);
  made = (let e = ap (λ (v : BoardView). v.made) view in let o = was.made in omega arith);
  turns = (let e = ap (λ (v : BoardView). v.turns) view in let o = was.turns in omega arith);
  joined = ap (λ (v : BoardView). v.joined) view ∙ was.joined;
}
