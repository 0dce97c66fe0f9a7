use Rattle.std.proofs.Common.{ap, arith}
use Rattle.ufs_spec.proofs.Facts.{leb-true}
use Rattle.ufs_laws.proofs.pages.SettingsBodies.{ranges_read}
use Rattle.settings.specs.declared.page.Settings.{Settings}
use Rattle.settings.proofs.SettingsRead.{told}
use Rattle.settings.proofs.page.is_settings_page.Goals as goal

pub returns-then-settings-le-HIGHEST_BOOT : goal.returns-then-settings-le-HIGHEST_BOOT
returns-then-settings-le-HIGHEST_BOOT c =
    told c.args.page.now c.told-page c.fits-page c.from_page-settings.result c.page.result c.eq.result
    c.from_page-settings.ensures.said c.if-settings-le-HIGHEST_BOOT.true c.page.ensures c.eq.ensures

pub returns-else-settings-le-HIGHEST_BOOT : goal.returns-else-settings-le-HIGHEST_BOOT
returns-else-settings-le-HIGHEST_BOOT c =
    let above = c.if-settings-le-HIGHEST_BOOT.false in (
      λ yes. absurd (omega (arith, leb-true _ _ yes, above)),
      λ is.
          let bound = (ranges_read c.args.page.now is).boot_bound in
          let same = ap (λ (s : Settings). s.boot) c.from_page-settings.ensures.said in
          absurd (omega (arith, bound, same, above)),
    )
