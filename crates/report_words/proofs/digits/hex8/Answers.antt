use Rattle.std.proofs.Common.{◌∙◌, refl, drop, ap}
use Rattle.foz_words.specs.Hex.{hex_text}
use Rattle.foz_words.proofs.HexText.{drop-hex_text}
use Rattle.report_words.proofs.digits.hex8.Goals as goal

pub returns : goal.returns
returns c = c.copy_from_slice.ensures.after ∙ c.split_at.ensures.back ∙ ap (drop 8) (c.hex16-wide.ensures ∙ ap (hex_text 16) c.from.ensures) ∙ drop-hex_text 8 8 16 c.args.number refl
