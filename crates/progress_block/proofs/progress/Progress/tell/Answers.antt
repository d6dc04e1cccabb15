use Rattle.std.proofs.Common.{rules}
use Rattle.progress_block.proofs.Keeps.{publishes, none_ends}
use Rattle.progress_block.proofs.progress.Progress.tell.Goals as goal

pub swap_as-requires : goal.swap_as-requires
swap_as-requires g c = let none = c.args.writer.now.untold (search rules) in
    (search rules, (search rules, (search rules, publishes _ _ (record { counts = c.args.writer.now.first }) c.args.writer.now.writes (λ l e. absurd (none_ends _ l none e)) c.args.writer.now.most)))
