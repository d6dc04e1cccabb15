use Rattle.std.proofs.Common.{◌≡◌, ◌+◌, [], ◌∷◌, length, ap, ◌∙◌, length-append, ◌-◌, arith}
use Rattle.slot_log.specs.Loads.{none_created}
use Rattle.turn_desk.specs.Story.{split_from}
use Rattle.replay_board.specs.Seats.{setup_seen, slot_of, desk_view, notes_seen, own_notes}
use Rattle.replay_board.specs.Notes.{setup_known}
use Rattle.crew_run.specs.Kits.{IsNewKit}
use Rattle.crew_run.proofs.Places.{each_and_last, of_front, of_last}
use Rattle.crew_run.proofs.Kits.{is_new_kit, has_split_more}
use Rattle.crew_run.proofs.seating.seat_all.Goals as goal

pub loop-loader-preserved : goal.loop-loader-preserved
loop-loader-preserved g c =
    let at = c.loop-loader.invariant in
    let setup = setup_seen c.args.root.now in
    let rest = c.in-Some.ensures.items in
    let grown = c.in-Ok.ensures.items in
    let known = ap (λ v. setup_known v.origin) c.reader-reader.ensures.view ∙ at.split.knows in
    let marks = of_last (λ loader. loader ≡ none_created setup.plan) c.loop-loader.loaders.items c.pop.new.self.items c.in-Some.loader at.new rest in
    let more : length c.push.new.self.items ≡ length c.loop-loader.kits.items + 1 = ap length grown ∙ length-append c.loop-loader.kits.items (c.new-in-Some.result ∷ []) in
    let less : length c.loop-loader.loaders.items ≡ length c.pop.new.self.items + 1 = ap length rest ∙ length-append c.pop.new.self.items (c.in-Some.loader ∷ []) in
    let number : (desk_view c.seat_for-seat.result).number ≡ length c.loop-loader.kits.items + 1 = ap (λ v. v.number) c.seat_for-seat.ensures.seat_view ∙ (ap (λ v. v.made) c.reader-reader.ensures.view ∙ at.split.made) in
    let slot : slot_of c.seat_for-seat.result ≡ length c.loop-loader.kits.items = ap (λ n. n - 1) number ∙ (omega arith) in
    let kit = is_new_kit c.args.board.now setup (length c.loop-loader.kits.items) c.new-in-Some.result c.new.result c.seat_for-seat.result c.reader-reader.result (desk_view c.reader-reader.new.root) c.new-in-Some.ensures.seat c.new.ensures.seat c.new.ensures.reader c.new.ensures.heard
    c.seat_for-seat.ensures.seat c.reader-reader.ensures.reader c.seat_for-seat.ensures.seat_view known slot (c.new-in-Some.ensures.marks ∙ marks) in
    record {
      split = has_split_more c.args.board.now setup (length c.loop-loader.kits.items) (length c.push.new.self.items) c.loop-loader.root c.seat_for-seat.new.root (notes_seen c.reader-reader.new.root) (own_notes c.loop-loader.root) at.split c.seat_for-seat.ensures.root
          (c.seat_for-seat.ensures.root_view ∙ ap split_from c.reader-reader.ensures.view) more;
      count = (let n = at.count in omega arith);
      new = of_front (λ loader. loader ≡ none_created setup.plan) c.loop-loader.loaders.items c.pop.new.self.items c.in-Some.loader at.new rest;
      kits = record { each = each_and_last (λ w kit. IsNewKit c.args.board.now setup w kit) c.loop-loader.kits.items c.new-in-Some.result c.push.new.self.items grown at.kits.each kit };
      capacity = (let p = c.push.ensures.capacity in let a = at.capacity in omega arith);
    }
