use Rattle.std.proofs.Common.{refl, subst, arith, inr}
use Rattle.foz_archive.specs.Found.{IsFound}
use Rattle.foz_archive.proofs.Fronts.{front_of, header_from}
use Rattle.foz_archive.proofs.scanned.scan_as.Goals as goal

pub returns-in-Some-clause-unread : goal.returns-in-Some-clause-unread
returns-in-Some-clause-unread c = c.in-Some.ensures.refused c.args.bytes.now refl (front_of c.args.bytes.now _ c.min.ensures)

pub entries_of-requires-clause-long : goal.entries_of-requires-clause-long
entries_of-requires-clause-long c = let has = header_from c.args.versions.now c.args.bytes.now _ c.min.ensures c.in_default.ensures.good in has.has_magic.long

pub returns-then-end-gt-END_LIMIT-clause-unread : goal.returns-then-end-gt-END_LIMIT-clause-unread
returns-then-end-gt-END_LIMIT-clause-unread c =
    let found = subst (IsFound c.args.bytes.now) c.in-Few.is c.in_ok-entries.ensures in
    record { begins = header_from c.args.versions.now c.args.bytes.now _ c.min.ensures c.in_default.ensures.good; len_is = refl; long = inr (record { entries = c.in-Few.entries; end = c.in-Few.end; stand = found.0 }, omega arith) }

pub returns-then-end-gt-END_LIMIT-2-clause-unread : goal.returns-then-end-gt-END_LIMIT-2-clause-unread
returns-then-end-gt-END_LIMIT-2-clause-unread c =
    let found = subst (IsFound c.args.bytes.now) c.in-TooMany.is c.in_ok-entries.ensures in
    record { begins = header_from c.args.versions.now c.args.bytes.now _ c.min.ensures c.in_default.ensures.good; len_is = refl; long = inr (record { entries = found.0; end = c.in-TooMany.end; stand = found.1 }, omega arith) }

pub returns-else-end-gt-END_LIMIT-2-clause-unread : goal.returns-else-end-gt-END_LIMIT-2-clause-unread
returns-else-end-gt-END_LIMIT-2-clause-unread c =
    let found = subst (IsFound c.args.bytes.now) c.in-TooMany.is c.in_ok-entries.ensures in
    record { begins = header_from c.args.versions.now c.args.bytes.now _ c.min.ensures c.in_default.ensures.good; short = omega arith; standing = record { entries = found.0; end = c.in-TooMany.end; stand = found.1 }; near = omega arith; many = found.2 }

pub returns-else-end-gt-END_LIMIT-clause-read : goal.returns-else-end-gt-END_LIMIT-clause-read
returns-else-end-gt-END_LIMIT-clause-read c =
    let found = subst (IsFound c.args.bytes.now) c.in-Few.is c.in_ok-entries.ensures in
    record {
      accepted = record {
        reads = record { begins = header_from c.args.versions.now c.args.bytes.now _ c.min.ensures c.in_default.ensures.good; stand = found.0 };
        short = omega arith;
        near = omega arith;
        few = found.1;
      };
      length = refl;
      clean = found.2;
    }
