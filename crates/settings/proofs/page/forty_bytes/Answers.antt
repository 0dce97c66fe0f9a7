use Rattle.std.proofs.Common.{◌∙◌, ◌≡◌, ◌∷◌, ◌++◌}
use Rattle.byteorder.specs.Endian.{big_bytes}
use Rattle.ufs_spec.specs.Keys.{key_bytes}
use Rattle.settings.proofs.SettingsRead.{counter_written}
use Rattle.settings.proofs.page.forty_bytes.Goals as goal

pub returns : goal.returns
returns c =
    let region = c.args.region.now in
    let key : c.copy_from_slice.new.self ≡ key_bytes region.key = c.copy_from_slice.ensures.after ∙ c.key_bytes.ensures in
    c.write_u32.ensures
    ∙ counter_written region.counter c.copy_from_slice.new.self c.copy_from_slice.ensures.len
    ∙ (λ i. 0 ∷ 0 ∷ 0 ∷ 0 ∷ (key i ++ big_bytes 4 region.counter))
