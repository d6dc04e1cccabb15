use Rattle.std.proofs.Common.{◌≡◌, ℕ, List, ◌++◌, refl, sym, ap, ◌∙◌, Some}
use Rattle.std.specs.Prelude.{codes, decimal}
use Rattle.std.specs.List.{slice_get}
use Rattle.std.proofs.lemmas.Option.{slice_get_read}
use Rattle.foz_words.specs.Hex.{hex_text}
use Rattle.dep_graph.specs.declared.class.Class.{Class}
use Rattle.replay_text.specs.Lines.{class_words}
use Rattle.replay_text.proofs.Rows.{eight_in_a_row, line_is}
use Rattle.replay_text.proofs.lines.push_line.Goals as goal

pub returns-clause-line : goal.returns-clause-line
returns-clause-line c =
    let entries = c.args.entries.now in
    let graph = c.args.graph.now in
    let verdicts = c.args.verdicts.now in
    let index = c.args.index in
    let entry = c.in-Some-Some.entry.now in
    let kind = c.in-Some-Some.class.now in
    let entry_there = c.in-Some-Some.ensures.lookup in
    let class_there = c.in-Some-Some.ensures'.lookup in
    let found : slice_get entries index ≡ Some entry = slice_get_read entries _ index entry refl entry_there.3.0 entry_there.1 in
    let named : slice_get graph.classes index ≡ Some kind = ap (λ (kinds : List Class). slice_get kinds index) (sym c.as_slice.ensures) ∙ slice_get_read c.as_slice.result.now _ index kind refl class_there.3.0 class_there.1 in
    c.in_ok-extend_from_slice.ensures.items
    ∙ rw (c.as_bytes.ensures.value, c.in_ok-text.ensures.ok, c.in_ok-words.ensures)
    (ap (λ (l : List ℕ). c.args.out.now.items ++ l) (
    eight_in_a_row (decimal index) (codes " ") (decimal entry.head.key.tag) (codes " ") (hex_text 16 entry.head.key.hash) (codes " ") (class_words entries graph verdicts kind) (codes "\n")
    ∙ line_is entries graph verdicts index entry kind found named
    ))
