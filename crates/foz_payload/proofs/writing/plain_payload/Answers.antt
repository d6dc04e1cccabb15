use Rattle.std.proofs.Common.{◌≡◌, Some, sym, ap, ◌∙◌}
use Rattle.std.specs.Option.{option_map}
use Rattle.serde_json.specs.View.{view}
use Rattle.foz_payload.proofs.Written.{always_some, object_is, plain_written, plain_means}
use Rattle.foz_payload.proofs.writing.plain_payload.Goals as goal

pub unreachable-requires : goal.unreachable-requires
unreachable-requires c = always_some c.args.state.now _ c.requires.plain c.in_ok-value.ensures.written c.in_default.not-Some

pub text_of-requires : goal.text_of-requires
text_of-requires c = rw c.in-Some.is at c.in_ok-value.ensures.no_float

pub returns-clause-written : goal.returns-clause-written
returns-clause-written c =
    let s = c.args.state.now in
    let inner = object_is s (view c.in-Some.object) c.requires.plain (ap (option_map view) (sym c.in-Some.is) ∙ c.in_ok-value.ensures.written) in
    plain_written s _ _ _ _ c.requires.plain c.member_of_state.ensures c.requires.hash inner (c.from_vec.ensures ∙ c.in_ok-text.ensures.text)

pub returns-clause-read_back : goal.returns-clause-read_back
returns-clause-read_back c =
    let s = c.args.state.now in
    let inner = object_is s (view c.in-Some.object) c.requires.plain (ap (option_map view) (sym c.in-Some.is) ∙ c.in_ok-value.ensures.written) in
    plain_means s _ _ _ _ c.requires.plain c.member_of_state.ensures c.requires.hash inner (c.from_vec.ensures ∙ c.in_ok-text.ensures.text) c.in_ok-value.ensures.in_range c.in_ok-text.ensures.again
