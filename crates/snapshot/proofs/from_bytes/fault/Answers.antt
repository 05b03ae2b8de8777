use Rattle.std.proofs.Common.{◌≡◌, ◌≤◌, true, List, sym, subst, ◌∙◌, arith}
use Rattle.std.specs.List.{All}
use Rattle.snapshot.specs.declared.field.SnapshotField.{SnapshotField}
use Rattle.snapshot.specs.Table.{is_legal}
use Rattle.snapshot.specs.Ascending.{IsAscending}
use Rattle.snapshot.specs.Legal.{IsFirstIllegal}
use Rattle.snapshot.proofs.Decoding.{named_illegal}
use Rattle.snapshot.specs.declared.error.SnapError.TheVariants as SnapError
use Rattle.snapshot.proofs.Offsets.{table_ascends, table_is, ram_small}
use Rattle.snapshot.proofs.from_bytes.fault.Goals as goal

pub first_illegal-requires : goal.first_illegal-requires
first_illegal-requires c =
    subst (λ (fields : List SnapshotField). IsAscending fields) (sym c.table-fields.ensures) (table_ascends c.controller.result c.has_rumble.result c.ram_length-ram.result)

pub returns-in-Some-clause-some : goal.returns-in-Some-clause-some
returns-in-Some-clause-some c =
    let small : c.ram_length-ram.result ≤ 131072 = ram_small c.ram_length-ram.result c.ram_length-ram.ensures.listed in
    let same = c.table-fields.ensures ∙ sym (table_is c.args.cartridge.now c.controller.result c.has_rumble.result c.ram_length-ram.result c.controller.ensures c.has_rumble.ensures c.ram_length-ram.ensures.header) in (
      omega (arith, c.length.ensures, c.ram_length-ram.ensures.header, c.if-bytes-length.false, small),
      subst (λ (fields : List SnapshotField). IsFirstIllegal fields c.args.bytes.now c.in-Some.offset) same c.in-Some.ensures.some,
    )

pub returns-in-Some-clause-named : goal.returns-in-Some-clause-named
returns-in-Some-clause-named c = returns-in-Some-clause-some c

pub returns-in-None-clause-none : goal.returns-in-None-clause-none
returns-in-None-clause-none c =
    let small : c.ram_length-ram.result ≤ 131072 = ram_small c.ram_length-ram.result c.ram_length-ram.ensures.listed in
    let same = c.table-fields.ensures ∙ sym (table_is c.args.cartridge.now c.controller.result c.has_rumble.result c.ram_length-ram.result c.controller.ensures c.has_rumble.ensures c.ram_length-ram.ensures.header) in
    record {
      length = omega (arith, c.length.ensures, c.ram_length-ram.ensures.header, c.if-bytes-length.false, small);
      fields = subst (λ (fields : List SnapshotField). All (λ field. is_legal field c.args.bytes.now ≡ true) fields) same c.in-None.ensures.none;
    }

pub returns-in-Some-clause-illegal : goal.returns-in-Some-clause-illegal
returns-in-Some-clause-illegal c = named_illegal c.args.cartridge.now c.args.bytes.now (SnapError.Field c.in-Some.offset) (returns-in-Some-clause-some c) (λ same. cc)
