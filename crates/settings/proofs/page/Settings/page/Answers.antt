use Rattle.std.proofs.Common.{rules, ◌∙◌, ◌++◌}
use Rattle.ufs_spec.specs.Pages.{zero_filled}
use Rattle.settings.proofs.SettingsRead.{regions_written}
use Rattle.settings.proofs.page.Settings.page.Goals as goal

pub returns : goal.returns
returns c =
    let first = c.first_bytes.result in
    let one = c.region_bytes.result in
    let two = c.region_bytes-2.result in
    let three = c.region_bytes-3.result in
    regions_written first one two three c.put-4.new.page c.put.new.page c.put-2.new.page c.put-3.new.page
    (search rules) (search rules) (search rules) (search rules) c.put.ensures c.put-2.ensures c.put-3.ensures c.put-4.ensures
    ∙ (λ i. zero_filled 4096
    (c.first_bytes.ensures i ++ c.region_bytes.ensures i ++ c.region_bytes-2.ensures i ++ c.region_bytes-3.ensures i))
