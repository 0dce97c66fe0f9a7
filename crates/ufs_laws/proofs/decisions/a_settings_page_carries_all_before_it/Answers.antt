use Rattle.ufs_laws.proofs.Common.{RpmbWrite, plain_now, subst}
use Rattle.ufs_laws.proofs.decided_data.SettingsCarried as pages
use Rattle.ufs_laws.proofs.decisions.a_settings_page_carries_all_before_it.Goals as goal
use Rattle.ufs_laws.specs.SettingsPages.{AddsPage, Settings}
use Rattle.ufs_spec.specs.Changes.{accepts}
use Rattle.ufs_spec.specs.Commands.{SetBoot}

pub returns-clause-commands : goal.returns-clause-commands
returns-clause-commands c = pages.commands

pub returns-clause-page : goal.returns-clause-page
returns-clause-page c = pages.of_all

pub returns-clause-as_it_is : goal.returns-clause-as_it_is
returns-clause-as_it_is c = pages.as_it_is

pub returns-clause-second : goal.returns-clause-second
returns-clause-second c = pages.second

pub returns-clause-setting_after_write : goal.returns-clause-setting_after_write
returns-clause-setting_after_write c s region address boot m n bytes =
    subst
    (λ (x : Settings). AddsPage (accepts s (RpmbWrite region address bytes) m)
    (accepts (accepts s (RpmbWrite region address bytes) m) (SetBoot boot) n) (record x { boot = boot }))
    (pages.write_counts (plain_now s) region address bytes)
    (pages.second s (RpmbWrite region address bytes) (SetBoot boot) m n tt)

pub returns-clause-write_after_setting : goal.returns-clause-write_after_setting
returns-clause-write_after_setting c s region address boot m n bytes =
    subst
    (λ (x : Settings). AddsPage (accepts s (SetBoot boot) m)
    (accepts (accepts s (SetBoot boot) m) (RpmbWrite region address bytes) n) (record x { boot = boot }))
    (pages.write_counts (plain_now s) region address bytes)
    (pages.second s (SetBoot boot) (RpmbWrite region address bytes) m n tt)

pub returns-clause-setting : goal.returns-clause-setting
returns-clause-setting c = pages.of_setting

pub returns-clause-request : goal.returns-clause-request
returns-clause-request c = pages.of_request
