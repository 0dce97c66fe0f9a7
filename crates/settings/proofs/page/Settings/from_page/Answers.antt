use Rattle.std.proofs.Common.{◌≡◌, ◌∙◌, ◌∷◌, [], ◌==◌, ap, slice_index}
use Rattle.settings.specs.Told.{settings_in}
use Rattle.settings.proofs.SettingsRead.{said_again}
use Rattle.settings.proofs.page.Settings.from_page.Goals as goal

pub returns-clause-spelled : goal.returns-clause-spelled
returns-clause-spelled c =
    let page = c.args.page.now in
    let said : record {
      boot = slice_index page 0;
      is_permanent = slice_index page 1 == 1;
      regions = c.first_region.result ∷ c.other_region.result ∷ c.other_region-2.result ∷ c.other_region-3.result ∷ [];
    } ≡ settings_in page = λ i. record {
      boot = slice_index page 0;
      is_permanent = slice_index page 1 == 1;
      regions =
          c.first_region.ensures i ∷ c.other_region.ensures i ∷ c.other_region-2.ensures i
          ∷ c.other_region-3.ensures i ∷ [];
    } in
    λ s h spelled. said ∙ ap settings_in spelled ∙ said_again s h
