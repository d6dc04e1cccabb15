use Rattle.std.proofs.Common.{List, ℕ, refl, sym, subst, ◌∙◌}
use Rattle.foz_archive.specs.Refusal.{IsBadMagic}
use Rattle.foz_archive.proofs.Fronts.{bad_magic, bad_version}
use Rattle.foz_archive.proofs.header.header_refusal.Goals as goal

pub returns-then-not-has_magic-clause-refused : goal.returns-then-not-has_magic-clause-refused
returns-then-not-has_magic-clause-refused c = λ file long is.
    subst (λ (bytes : List ℕ). IsBadMagic file c.args.len bytes) (sym c.first_bytes.ensures)
    (bad_magic file c.args.front.now is c.args.len long (λ has. let yes = c.has_magic.ensures.1 has in let h = c.if-not-has_magic.true in cc))

pub returns-then-contains-clause-good : goal.returns-then-contains-clause-good
returns-then-contains-clause-good c = record {
  has_magic = c.has_magic.ensures.0 c.if-not-has_magic.false;
  known = sym c.contains.ensures.value ∙ c.if-contains.true;
}

pub returns-else-contains-clause-refused : goal.returns-else-contains-clause-refused
returns-else-contains-clause-refused c = λ file long is.
    bad_version file c.args.front.now is c.args.versions.now _ (c.has_magic.ensures.0 c.if-not-has_magic.false) refl (sym c.contains.ensures.value ∙ c.if-contains.false)
