use Rattle.turn_desk.proofs.Joins.{finds_some, ends}
use Rattle.turn_desk.proofs.desk.Desk.close.Goals as goal

pub unreachable-requires : goal.unreachable-requires
unreachable-requires g c =
    let found = finds_some g.V.Kept.story g.V.Kept.origin g.V.Kept.number (g.V.Kept.origin c.args.self.table.shared.key.value) _ _ _ _ c.args.root.live c.requires.root c.requires.outside c.requires.all c.close_with-closed.ensures.values.2 _ c.take-value.ensures.value in
    c.in_default.not-Some found.0 found.1

pub returns : goal.returns
returns g c =
    let end = ends g.V.Kept.story g.V.Kept.origin g.V.Kept.number (g.V.Kept.origin c.args.self.table.shared.key.value) _ _ _ _ c.args.root.live c.requires.root c.requires.outside c.requires.all c.close_with-closed.ensures.values.2 _ c.take-value.ensures.value c.in-Some.value c.in-Some.is in
    record { story = end.story_is; mine = end.mine; joined = end.joined; others = end.others; apart = end.apart; back = end.all_back; origin = end.origin_is }
