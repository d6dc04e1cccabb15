use Rattle.std.proofs.Common.{ℕ, [], ◌++◌, length, get_or, ◌≡◌, ◌<◌, ap, sym, ◌∙◌, arith, refl}
use Rattle.std.specs.Prelude.{Vec}
use Rattle.std.specs.Global.{Global}
use Rattle.std.proofs.lemmas.List.{get_or-map, length-map}
use Rattle.replay_core.specs.Worklists.{rows_of}
use Rattle.replay_core.proofs.Listing.{row_le, work_same}
use Rattle.replay_core.proofs.worklist.pass_on.Goals as goal
use Rattle.replay_core.proofs.worklist.pass_on.Goals.{After-as_slice-users}

row_is : (c : After-as_slice-users) → c.as_slice-users.result.now ≡ get_or (rows_of c.args.list.now.users) c.args.item []
row_is c =
    let f = λ (v : Vec ℕ Global). v.items in
    let users = c.args.list.now.users in
    let within : c.args.item < length users.items = omega (arith, c.requires.inside, length-map users.items f) in
    c.as_slice-users.ensures.value ∙ (ap f c.index.ensures ∙ sym (get_or-map f users.items c.args.item c.index.result.now [] within))

pub extend_within-requires : goal.extend_within-requires
extend_within-requires c =
    let at = goal.at.extend_within-requires c in
    let same : length c.as_slice-users.result.now ≡ length (get_or (rows_of c.args.list.now.users) c.args.item []) = ap length (row_is at.After-as_slice-users) in
    let few = row_le (rows_of c.args.list.now.users) c.args.list.now.passed.items c.args.item c.requires.inside c.requires.known c.requires.once in
    omega (arith, same, few, c.requires.room)

pub returns-clause-fresh : goal.returns-clause-fresh
returns-clause-fresh c = c.extend_within.ensures.items ∙ ap (λ row. c.args.list.now.fresh.items ++ row) (row_is (goal.at.returns-clause-fresh c).After-as_slice-users)

pub returns-clause-work : goal.returns-clause-work
returns-clause-work c =
    work_same c.args.list.now _ c.extend_within.new.list.items c.args.item c.requires.inside c.requires.known c.requires.once refl
    (c.extend_within.ensures.items ∙ ap (λ row. c.args.list.now.fresh.items ++ row) (row_is (goal.at.returns-clause-work c).After-as_slice-users))
