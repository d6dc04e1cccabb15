use Rattle.std.proofs.Common.{ap, ◌∙◌}
use Rattle.foz_entry.specs.Entries.{end_of}
use Rattle.record_dedup.specs.Kept.{Booked}
use Rattle.record_dedup.proofs.Answers.{ends_of}
use Rattle.record_dedup.proofs.book.Book.end.Goals as goal

pub returns : goal.returns
returns g c = c.end.ensures.end ∙ (ends_of c.entries_are_bounded.ensures.end _ _ c.self.invariant.1 ∙ ap (λ (b : Booked _). end_of b.entries) c.self.view_is)
