use Rattle.std.proofs.Common.{◌≡◌, ◌==◌, ◌+◌, ◌∙◌, List, Some, ap, false, length, nat_lt, refl, rules, slice_get, sym}
use Rattle.std.proofs.Common.{true, ℕ}
use Rattle.std.proofs.lemmas.Option.{slice_get_read}
use Rattle.ufs_bytes.specs.Fields.{field_at}
use Rattle.ufs_spec.specs.Commands.{Zero}
use Rattle.ufs_spec.specs.Configs.{command_blocks}
use Rattle.ufs_spec.specs.DataOuts.{has_list_header}
use Rattle.ufs_spec.specs.declared.configs.UnitSpec.{UnitSpec}
use Rattle.journal.proofs.UnmapLists.{blocks_asked}
use Rattle.journal.proofs.unmaps.zeros_asked.Goals as goal

pub returns : goal.returns
returns c =
    let n = c.args.numbers.now in
    let unit = c.args.unit in
    let list = c.args.list.now in
    let u = c.in_ok-spec.spec.now in
    let units = c.as_slice.result.now in
    let at = c.in_ok-spec.ensures.lookup in
    let long : (length list == 24) ≡ true = search rules in
    let header : has_list_header list ≡ true = search rules in
    let zeros : (field_at 4 20 list == 0) ≡ true = search rules in
    let some : (field_at 4 16 list == 0) ≡ false = search rules in
    let few : nat_lt (command_blocks n) (field_at 4 16 list) ≡ false = search rules in
    let there : slice_get n.units.items unit ≡ Some u =
    ap (λ (us : List UnitSpec). slice_get us unit) (sym c.as_slice.ensures.value)
    ∙ slice_get_read units (length units) unit u refl at.3.0 at.1 in
    let within : nat_lt u.blocks (field_at 8 8 list + field_at 4 16 list) ≡ false = search rules in
    ap (λ (address : ℕ). Some (Zero unit address c.read_u32-count.result)) c.read_u64-address.ensures
    ∙ ap (λ (count : ℕ). Some (Zero unit (field_at 8 8 list) count)) c.read_u32-count.ensures
    ∙ blocks_asked n unit list u long header zeros some few there within
